-- `name_search::search_lines` meets its contract: what the search finds is what it finds among the lines from the outer loop's place on, and
-- the names of the line there are those from the inner loop's place on, or none of those passed is the name.
use Prim.Native.Nat.{ℕ, ◌≤◌}
use mathlib.Core.Path.{◌≡◌, refl, ◌∙◌, ap, sym}
use native.Mathlib.Omega.{arith}
use mathlib.Core.List.{List}
use Rattle.spec.specs.Lines.{extent}
use Rattle.name_search.proofs.search_lines.Goals.{then-not-is_ignored+else-is_name+in-None, else-not-is_ignored}
use lib.ListN.{length}
use Rattle.laws.proofs.TextSteps as Laws
use Rattle.laws.proofs.Extents.{extent-inside}
use Rattle.spec.specs.Lines.{text_at, later_lines, find, find_line}
use Rattle.name_search.proofs.LineEnds.{Apart, EndOf, end_of, apart-start, apart-behind}
use Rattle.name_search.proofs.search_lines.Goals as goal

-- the end of a line, over plain values
module _ (db name : List ℕ) (at stop : ℕ) (is : stop ≡ extent db at) (low : at ≤ length db) (apart : Apart db at) where
  ended : EndOf db at stop
  ended = rw is (end_of _ _ low apart)

  inside : (at ≤ stop) × (stop ≤ length db)
  inside = rw is (extent-inside _ _ low)

  came : find_line db name ≡ find name (later_lines (text_at db at)) → find_line db name ≡ find name (later_lines (text_at db stop))
  came m = m ∙ ap (find _) ended.lines

pub lines-init : goal.lines-init
unfolding find_line
lines-init c = (omega arith, apart-start c.args.db.now, refl)

pub loop-p-preserved : goal.loop-p-preserved
loop-p-preserved c =
    let p = c.in-Some.ensures in
    let another = sym c.is_name.ensures ∙ c.if-is_name.false in
    rw (c.loop-p.invariant, Laws.among_next _ _ _ another, p.0)

pub next_candidate-requires : goal.next_candidate-requires
next_candidate-requires c =
    let i = c.lines.invariant in
    record {
      end_in_bounds = (inside _ c.args.name.now _ _ c.line_end.ensures i.0 i.1).1;
      closes = (ended _ c.args.name.now _ _ c.line_end.ensures i.0 i.1).closes;
    }

pub lines-smaller : goal.lines-smaller
lines-smaller c =
    let i = c.lines.invariant in
    let p = c.in-Some-next_candidate.ensures in
    let w = p.starts in
    omega (arith, (inside _ c.args.name.now _ _ c.line_end.ensures i.0 i.1).0, w.1, w.2, p.inside)

pub lines-preserved : goal.lines-preserved
lines-preserved c =
    let p = c.in-Some-next_candidate.ensures in
    let i = c.lines.invariant in
    let missed : find_line c.args.db.now c.args.name.now ≡ find c.args.name.now (later_lines (text_at c.args.db.now c.lines.at)) =
    elim c.if-not-is_ignored.branch [
      | then-not-is_ignored+else-is_name+in-None w ↦
          let none = w.loop-p.invariant ∙ Laws.among_last _ _ _ (sym w.is_name.ensures ∙ w.if-is_name.false) w.in-None.ensures in
          c.lines.invariant.2 ∙ Laws.find_on _ _ _ none
      | else-not-is_ignored w ↦ c.lines.invariant.2 ∙ Laws.find_past _ _ _ (sym c.is_ignored.ensures ∙ w.if-not-is_ignored.false)
    ] in
    let found = came _ c.args.name.now _ _ c.line_end.ensures i.0 i.1 missed ∙ p.passed in
    (p.inside, apart-behind _ _ _ p.starts, found)

pub returns-then-is_name : goal.returns-then-is_name
returns-then-is_name c =
    let hit = c.loop-p.invariant ∙ Laws.among_here _ _ _ (sym c.is_name.ensures ∙ c.if-is_name.true) in
    let kept = sym c.is_ignored.ensures ∙ c.if-not-is_ignored.true in
    sym (c.lines.invariant.2 ∙ Laws.find_here _ _ _ kept hit)

pub returns-in-None-next_candidate : goal.returns-in-None-next_candidate
returns-in-None-next_candidate c =
    let p = c.in-None-next_candidate.ensures in
    let i = c.lines.invariant in
    let missed : find_line c.args.db.now c.args.name.now ≡ find c.args.name.now (later_lines (text_at c.args.db.now c.lines.at)) =
    elim c.if-not-is_ignored.branch [
      | then-not-is_ignored+else-is_name+in-None w ↦
          let none = w.loop-p.invariant ∙ Laws.among_last _ _ _ (sym w.is_name.ensures ∙ w.if-is_name.false) w.in-None.ensures in
          c.lines.invariant.2 ∙ Laws.find_on _ _ _ none
      | else-not-is_ignored w ↦ c.lines.invariant.2 ∙ Laws.find_past _ _ _ (sym c.is_ignored.ensures ∙ w.if-not-is_ignored.false)
    ] in
    sym (came _ c.args.name.now _ _ c.line_end.ensures i.0 i.1 missed ∙ p)
