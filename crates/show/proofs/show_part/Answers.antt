-- `show::show_part` meets its contract, test by test.
use mathlib.Core.Path.{◌∙◌, sym, ap}
use native.Mathlib.Omega.{arith}
use Rattle.spec.specs.Files.{files}
use Rattle.spec.specs.Answers.{shown_report}
use Rattle.laws.proofs.FileParts.{good-few}
use Rattle.show.proofs.ShownParts.{show-ends, show-bad, show_large, show_searched, shown-none, found-fits}
use Rattle.show.proofs.show_part.Goals as goal

pub returns-then-not-are_good_ends : goal.returns-then-not-are_good_ends
returns-then-not-are_good_ends c =
    let e = sym (show-ends _ _ (sym c.are_good_ends.ensures ∙ c.if-not-are_good_ends.true)) in
    (e, ap shown_report e)

pub returns-then-not-is_good_name : goal.returns-then-not-is_good_name
returns-then-not-is_good_name c =
    let g = sym c.are_good_ends.ensures ∙ c.if-not-are_good_ends.false in
    let e = sym (show-bad _ _ g (sym c.is_good_name.ensures ∙ c.if-not-is_good_name.true)) in
    (e, ap shown_report e)

pub returns-then-db-gt-MOST_BYTES : goal.returns-then-db-gt-MOST_BYTES
returns-then-db-gt-MOST_BYTES c =
    let g = sym c.are_good_ends.ensures ∙ c.if-not-are_good_ends.false in
    let e = sym (show_large _ _ g (sym c.is_good_name.ensures ∙ c.if-not-is_good_name.false) c.if-db-gt-MOST_BYTES.true) in
    (e, ap shown_report e)

pub find_from-requires : goal.find_from-requires
find_from-requires c =
    let g = sym c.are_good_ends.ensures ∙ c.if-not-are_good_ends.false in
    good-few (files _ _) g

pub description-requires : goal.description-requires
description-requires c =
    let f = c.in-Some.ensures in
    found-fits _ _ _ (sym c.are_good_ends.ensures ∙ c.if-not-are_good_ends.false) (sym f)

pub returns-in-None : goal.returns-in-None
returns-in-None c =
    let f = c.in-None.ensures in
    let g = sym c.are_good_ends.ensures ∙ c.if-not-are_good_ends.false in
    let m = sym c.is_good_name.ensures ∙ c.if-not-is_good_name.false in
    let e = sym (show_searched _ _ g _ m (omega arith) (sym f) ∙ shown-none _) in
    (e, ap shown_report e)

pub returns-in-Some : goal.returns-in-Some
returns-in-Some c =
    let f = c.in-Some.ensures in
    let g = sym c.are_good_ends.ensures ∙ c.if-not-are_good_ends.false in
    let m = sym c.is_good_name.ensures ∙ c.if-not-is_good_name.false in
    let e = c.description.ensures ∙ sym (show_searched _ _ g _ m (omega arith) (sym f)) in
    (e, ap shown_report e)
