-- `terminal::resolve` meets its contract, test by test.
use mathlib.Core.Path.{◌∙◌, sym}
use native.Mathlib.Omega.{arith}
use Rattle.spec.specs.Files.{files}
use Rattle.laws.proofs.FileParts.{good-few}
use Rattle.terminal.proofs.Terminals.{terminal-ends, terminal-bad, terminal_large, walked_resolved}
use Rattle.terminal.proofs.resolve.Goals as goal

pub returns-then-not-are_good_ends : goal.returns-then-not-are_good_ends
returns-then-not-are_good_ends c = terminal-ends _ _ (sym c.are_good_ends.ensures ∙ c.if-not-are_good_ends.true)

pub returns-then-not-is_good_name : goal.returns-then-not-is_good_name
returns-then-not-is_good_name c =
    let g = sym c.are_good_ends.ensures ∙ c.if-not-are_good_ends.false in
    let e = sym c.is_good_name.ensures ∙ c.if-not-is_good_name.true in
    terminal-bad _ _ g e

pub returns-then-db-gt-MOST_BYTES : goal.returns-then-db-gt-MOST_BYTES
returns-then-db-gt-MOST_BYTES c =
    let g = sym c.are_good_ends.ensures ∙ c.if-not-are_good_ends.false in
    let e = sym c.is_good_name.ensures ∙ c.if-not-is_good_name.false in
    terminal_large _ _ g e c.if-db-gt-MOST_BYTES.true

pub follow_links-requires : goal.follow_links-requires
follow_links-requires c =
    let g = sym c.are_good_ends.ensures ∙ c.if-not-are_good_ends.false in
    good-few (files _ _) g

pub returns : goal.returns
returns c =
    let g = sym c.are_good_ends.ensures ∙ c.if-not-are_good_ends.false in
    let e = sym c.is_good_name.ensures ∙ c.if-not-is_good_name.false in
    walked_resolved _ _ g e (omega arith) c.follow_links.result c.follow_links.ensures
