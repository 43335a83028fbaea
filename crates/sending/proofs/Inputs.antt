-- The tests of the inputs, and what they say. Assumes nothing.
use mathlib.Core.Path.{◌≡◌, refl, sym, ◌∙◌}
use mathlib.Core.Bool.{Bool, true, false}
use mathlib.Core.List.{List}
use Prim.Native.Nat.{ℕ, ◌+◌, ◌*◌, ◌≤◌, ◌<◌}
use native.Mathlib.Nat.{mul-le-mul}
use native.Mathlib.Omega.{arith}
use borrow.Author.Tests.{leb-true, leb-false, le-leb, lt-leb}
use lib.Dec.{leb}
use Rattle.spec.specs.Choice.{both, between}
use Rattle.spec.specs.Sending.{good_speed, good_place}
use Rattle.spec.specs.Position.{fill_in}
use Rattle.laws.proofs.Tests.{pick-told, both_true}
use Rattle.sending.specs.Steps.{CommandJudged, held_for, filled_for}
use Rattle.std.specs.Prelude.{Result}
use Rattle.spec.specs.declared.Refusal.{Refusal}
use Rattle.padding.specs.declared.Prefix.{Prefix}

pub speed_in_range : (lines speed : ℕ) → good_speed lines speed ≡ true → (lines ≤ 1000) × (speed ≤ 115200)
speed_in_range lines speed e =
    let b = both_true (between 1 1000 lines) (leb speed 115200) e in
    (leb-true lines 1000 (both_true (leb 1 lines) (leb lines 1000) b.0).1, leb-true speed 115200 b.1)

pub place-in_range : (row column : ℕ) → good_place row column ≡ true → (row ≤ 9999) × (column ≤ 9999)
place-in_range row column e =
    let b = both_true (leb row 9999) (leb column 9999) e in
    (leb-true row 9999 b.0, leb-true column 9999 b.1)

-- A row and a column as they are held are in their range exactly when the numbers that came in are; and then nothing was cut off.
same_test : (t u : Bool) → (t ≡ true → u ≡ true) → (u ≡ true → t ≡ true) → t ≡ u
same_test true u f g = sym (f refl)
same_test false true f g = g refl
same_test false false f g = refl

good-held : (n : ℕ) → leb (held_for n) 42767 ≡ leb n 9999
good-held n =
    pick-told (λ (h : ℕ). leb h 42767 ≡ leb n 9999) (leb n 32767)
    (λ e. same_test (leb (32768 + n) 42767) (leb n 9999) (λ t. le-leb n 9999 (omega (arith, leb-true (32768 + n) 42767 t)))
    (λ t. le-leb (32768 + n) 42767 (omega (arith, leb-true n 9999 t))))
    (λ e. sym (lt-leb n 9999 (omega (arith, leb-false n 32767 e))))

held_plainly : (n : ℕ) → n ≤ 9999 → held_for n ≡ 32768 + n
held_plainly n h = let l : n ≤ 32767 = omega arith in rw (le-leb _ _ l)

module _ (row column h k : ℕ) (eh : h ≡ held_for row) (ek : k ≡ held_for column) where
  pub place-judged : (cmd : List ℕ) (t : Bool) (x : Result Prefix Refusal) → t ≡ both (leb h 42767) (leb k 42767) → CommandJudged cmd t x
      → CommandJudged cmd (good_place row column) x
  place-judged cmd t x et j =
      let held : t ≡ good_place row column = et ∙ rw (eh, ek, good-held row, good-held column) in
      rw (← held) j

  pub filled-held : (cmd back up : List ℕ) → row ≤ 9999 → column ≤ 9999 → filled_for cmd (record { 0 = h }) (record { 0 = k }) back up ≡ fill_in cmd row column
      back up
  unfolding fill_in
  filled-held cmd back up hr hc = rw (eh ∙ held_plainly row hr, ek ∙ held_plainly column hc)

-- a delay for at most a thousand lines
pub lines_delay : (delay lines : ℕ) → delay < 100000 → lines ≤ 1000 → delay * lines ≤ 99999000
lines_delay delay lines h l = let d : delay ≤ 99999 = omega arith in mul-le-mul d l
