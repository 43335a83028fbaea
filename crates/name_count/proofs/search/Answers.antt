-- `name_count::search` meets its contract, test by test.
use mathlib.Core.Path.{◌∙◌, sym, ap}
use native.Mathlib.Omega.{arith}
use Rattle.spec.specs.Files.{files}
use Rattle.spec.specs.Answers.{searched_report}
use Rattle.laws.proofs.FileParts.{good-few}
use Rattle.laws.proofs.CountedNames.{count_most}
use Rattle.name_count.proofs.SearchAnswers.{search-ends, search-bad, search_large, search-told}
use Rattle.name_count.proofs.search.Goals as goal

pub returns-then-not-are_good_ends : goal.returns-then-not-are_good_ends
returns-then-not-are_good_ends c =
    let e = sym (search-ends _ _ (sym c.are_good_ends.ensures ∙ c.if-not-are_good_ends.true)) in
    (e, ap searched_report e)

pub returns-then-not-is_good_name : goal.returns-then-not-is_good_name
returns-then-not-is_good_name c =
    let g = sym c.are_good_ends.ensures ∙ c.if-not-are_good_ends.false in
    let e = sym (search-bad _ _ g (sym c.is_good_name.ensures ∙ c.if-not-is_good_name.true)) in
    (e, ap searched_report e)

pub returns-then-db-gt-MOST_BYTES : goal.returns-then-db-gt-MOST_BYTES
returns-then-db-gt-MOST_BYTES c =
    let g = sym c.are_good_ends.ensures ∙ c.if-not-are_good_ends.false in
    let e = sym (search_large _ _ g (sym c.is_good_name.ensures ∙ c.if-not-is_good_name.false) c.if-db-gt-MOST_BYTES.true) in
    (e, ap searched_report e)

pub count_files-requires : goal.count_files-requires
count_files-requires c =
    let a = c.args in
    let db = files a.db.now a.ends.now in
    let g = sym c.are_good_ends.ensures ∙ c.if-not-are_good_ends.false in
    record { ends_len_bound = good-few db g; fits = omega (arith, c.if-db-gt-MOST_BYTES.false, good-few db g, count_most db a.name.now g) }

pub returns : goal.returns
returns c =
    let g = sym c.are_good_ends.ensures ∙ c.if-not-are_good_ends.false in
    let m = sym c.is_good_name.ensures ∙ c.if-not-is_good_name.false in
    let e = sym (search-told _ _ g _ m c.if-db-gt-MOST_BYTES.false c.count_files.ensures) in
    (e, ap searched_report e)
