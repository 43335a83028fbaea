-- Bytes that are appended: byte by byte, several times over, one piece after the other. Assumes nothing.
use mathlib.Core.Path.{◌≡◌, refl, sym, ap, ◌∙◌}
use mathlib.Core.List.{List, [], ◌∷◌, ◌++◌, append_assoc, append-nil}
use Prim.Native.Nat.{ℕ, zero, suc, ◌+◌, ◌≤◌, ◌<◌}
use native.Mathlib.Numerals.{add-one}
use native.Mathlib.Omega.{arith}
use lib.ListN.{length, take, get_or, set, length-append}
use lib.Seq.{sets, length-take-le, take-suc}
use mathlib.Core.Bool.{true}
use lib.Dec.{eqb}
use borrow.Author.Tests.{eqb-true}
use Rattle.spec.specs.Choice.{both}
use Rattle.laws.proofs.Tests.{both_true}
use Rattle.spec.specs.Position.{compensations, repeated}
use Rattle.places.specs.Places.{in_turn, parameters_of}
use Rattle.places.specs.declared.Places.{Places}
use Rattle.places.specs.declared.Turn.{Turn}
use Rattle.places.specs.declared.Turn.TheVariants.{RowColumn, ColumnRow, ColumnLeft, RowLeft, RowFirst, ColumnFirst}
use Rattle.position.proofs.StepLaws.{sets-append}
use Rattle.compensations.specs.Appending.{BytesAppended}
use Rattle.std.specs.Prelude.{Option, Some, None}

pub copied_more : (s out : List ℕ) (at i p : ℕ) → p ≡ at + i → i < length s → set (sets out at (take i s)) p (get_or s i 0) ≡ sets out at (take (i + 1) s)
copied_more s out at i p e h =
    let inside : i ≤ length s = omega arith in
    let place : p ≡ at + length (take i s) = rw (length-take-le i s inside) e in
    let grown : take i s ++ get_or s i 0 ∷ [] ≡ take (i + 1) s = rw (add-one, take-suc s i 0) in
    sets-append out at p (take i s) (get_or s i 0 ∷ []) place ∙ ap (sets out at) grown

-- ---- one piece, and then another

module _ (k l : List ℕ) (capacity : ℕ) (out : List ℕ) (at : ℕ) where
  pub then_appended : (next : ℕ) (m : List ℕ) (r : Option ℕ) (o : List ℕ) → BytesAppended k capacity out at (Some next) m → BytesAppended l capacity m next r
      o
      → BytesAppended (k ++ l) capacity out at r o
  then_appended next m (Some end) o a b = (
    rw length-append (omega (arith, a.0, b.0)),
    b.1,
    b.2 ∙ ap (λ (x : List ℕ). sets x next l) a.2 ∙ sets-append out at next k l a.0,
  )
  then_appended next m None o a b = rw length-append (omega (arith, a.0, b))

-- ---- a piece several times over

repeated_more : (n : ℕ) (l : List ℕ) → repeated (suc n) l ≡ repeated n l ++ l
unfolding repeated
repeated_more zero l = append-nil l
repeated_more (suc n) l = ap (λ (x : List ℕ). l ++ x) (repeated_more n l) ∙ sym (append_assoc l (repeated n l) l)

repeated_longer : (m n : ℕ) (l : List ℕ) → m ≤ n → length (repeated m l) ≤ length (repeated n l)
unfolding repeated
repeated_longer zero n l h = omega arith
repeated_longer (suc m) zero l h = absurd (omega arith)
repeated_longer (suc m) (suc n) l h = rw (length-append, length-append) (omega (arith, repeated_longer m n l (omega arith)))

-- What is written after i times, of so many.
pub record Repeated (l : List ℕ) (capacity : ℕ) (out₀ : List ℕ) (at count : ℕ) (out : List ℕ) (end i : ℕ) : Type 0 where
  pub inside : i ≤ count
  pub appended : BytesAppended (repeated i l) capacity out₀ at (Some end) out

module _ (l : List ℕ) (capacity : ℕ) (out₀ : List ℕ) (at count : ℕ) where
  pub repeated-none : at ≤ capacity → Repeated l capacity out₀ at count out₀ at 0
  unfolding repeated
  repeated-none h = record { inside = omega arith; appended = (omega arith, h, refl) }

  module _ (out : List ℕ) (end i : ℕ) (r : Repeated l capacity out₀ at count out end i) where
    pub repeated-again : (next : ℕ) (o : List ℕ) → i < count → BytesAppended l capacity out end (Some next) o → Repeated l capacity out₀ at count o next
        (i + 1)
    repeated-again next o h a = record {
      inside = omega arith;
      appended = rw (add-one, repeated_more) (then_appended (repeated i l) l capacity out₀ at end out (Some next) o r.appended a);
    }

    pub repeated_full : i < count → capacity < end + length l → capacity < at + length (repeated count l)
    repeated_full h a =
        let longer : length (repeated (suc i) l) ≤ length (repeated count l) = repeated_longer (suc i) count l (omega arith) in
        let full : capacity < at + length (repeated (suc i) l) = rw (repeated_more, length-append) (omega (arith, r.appended.0)) in
        omega arith

-- ---- no compensation is owed

module _ (back up : List ℕ) (s : Places) (row : s.ups ≡ 0) (column : s.backs ≡ 0) where
  settled_in : (t : Turn) → compensations back up (in_turn t s) ≡ []
  unfolding compensations repeated
  settled_in RowColumn = refl
  settled_in ColumnRow = refl
  settled_in ColumnLeft = rw row
  settled_in RowLeft = rw column
  settled_in RowFirst = rw (row, column)
  settled_in ColumnFirst = rw (column, row)

pub settled : (back up : List ℕ) (s : Places) → both (eqb s.ups 0) (eqb s.backs 0) ≡ true → compensations back up (parameters_of s) ≡ []
unfolding parameters_of
settled back up s e =
    let t = both_true (eqb s.ups 0) (eqb s.backs 0) e in
    settled_in back up s (eqb-true _ _ t.0) (eqb-true _ _ t.1) s.turn
