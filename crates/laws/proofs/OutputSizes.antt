-- How much a sequence writes and owes: at most its own two bytes, and for each parameter that it uses up three more and two compensations.
-- Assumes nothing.
use mathlib.Core.Path.{◌≡◌, sym}
use mathlib.Core.Bool.{true}
use mathlib.Core.List.{List}
use Prim.Native.Nat.{ℕ, zero, suc, ◌+◌, ◌*◌, ◌≤◌}
use native.Mathlib.Nat.{zero-mul, suc-mul, mul-le-mul_right}
use native.Mathlib.Omega.{arith}
use borrow.Author.Tests.{ltb-true}
use lib.Dec.{eqb, leb, ltb}
use lib.ListN.{length, length-append}
use Rattle.std.specs.Prelude.{Option, Some, None, Result, Ok, Err}
use Rattle.spec.specs.Choice.{both}
use Rattle.spec.specs.Digits.{written}
use Rattle.spec.specs.Values.{held, holding, non_negative, plain_value, avoided, raised_from, raised, raises, byte_for, changed}
use Rattle.spec.specs.Sequences.{letter, read_byte, Narrow, take_next, with_changed, as_decimal, as_byte, perform, output_bytes}
use Rattle.spec.specs.Position.{repeated}
use Rattle.spec.specs.declared.Refusal.{Refusal}
use Rattle.spec.specs.declared.Refusal.TheVariants.{NoRoom, TooFewParameters, OutOfRange}
use Rattle.spec.specs.declared.position.Parameter.{Parameter}
use Rattle.spec.specs.declared.position.Parameters.{Parameters}
use Rattle.spec.specs.declared.position.Parameters.TheVariants.{TwoUnused, OneUnused, AllUsed}
use Rattle.spec.specs.declared.position.Used.{Used}
use Rattle.spec.specs.declared.position.Raising.{Raising}
use Rattle.spec.specs.declared.position.Raised.{Raised}
use Rattle.spec.specs.declared.position.Pending.{Pending}
use Rattle.spec.specs.declared.position.Pending.TheVariants.{Letter, Added, Threshold, Addend}
use Rattle.spec.specs.declared.position.Progress.{Progress}
use Rattle.spec.specs.declared.position.Progress.TheVariants.{More, Whole, Unknown}
use Rattle.spec.specs.declared.position.Sequence.{Sequence}
use Rattle.spec.specs.declared.position.Sequence.TheVariants.{Percent, Decimal, Byte, ChangeEvery, ChangeNext, Exchange}
use Rattle.spec.specs.declared.position.Effect.{Effect}
use Rattle.laws.proofs.Tests.{pick_all, pick-told, both_true}
use Rattle.laws.proofs.DigitLaws.{written-most}
use Rattle.laws.proofs.Buffers.{not_nine}

-- ---- no sequence asks for more than three digits

abbrev pub NarrowProgress : Progress → Type 0
NarrowProgress (More w) = Unit
NarrowProgress (Whole q) = Narrow q
NarrowProgress Unknown = Unit

pub letter_narrow : (b : ℕ) → NarrowProgress (letter b)
letter_narrow b =
    pick_all NarrowProgress (eqb b 37) tt
    (pick_all NarrowProgress (eqb b 100) (omega arith)
    (pick_all NarrowProgress (eqb b 50) (omega arith)
    (pick_all NarrowProgress (eqb b 51) (omega arith)
    (pick_all NarrowProgress (eqb b 46) tt
    (pick_all NarrowProgress (eqb b 43) tt
    (pick_all NarrowProgress (eqb b 105) tt
    (pick_all NarrowProgress (eqb b 110) tt
    (pick_all NarrowProgress (eqb b 114) tt
    (pick_all NarrowProgress (eqb b 62) tt
    (pick_all NarrowProgress (eqb b 66) tt
    (pick_all NarrowProgress (eqb b 68) tt tt)))))))))))

pub read_narrow : (w : Pending) (b : ℕ) → NarrowProgress (read_byte w b)
unfolding read_byte
read_narrow Letter b = letter_narrow b
read_narrow Added b = tt
read_narrow Threshold b = tt
read_narrow (Addend x) b = tt

-- ---- no byte asks for more than two compensations

raised-few : (more steps b : ℕ) → (raised_from more steps b).compensations ≤ steps + more
unfolding raised_from
raised-few zero steps b = omega arith
raised-few (suc more) steps b =
    pick_all (λ (r : Raised). r.compensations ≤ steps + suc more) (avoided b) (omega (arith, raised-few more (steps + 1) (b + 1))) (omega arith)

byte-few : (g : Raising) (p : Parameter) (b : ℕ) → (byte_for g p b).compensations ≤ 2
unfolding raised
byte-few g p b = pick_all (λ (r : Raised). r.compensations ≤ 2) (raises g p) (raised-few 2 0 b) (omega arith)

pub repeated-length : (n : ℕ) (l : List ℕ) → length (repeated n l) ≡ n * length l
unfolding repeated
repeated-length zero l = sym (zero-mul (length l))
repeated-length (suc n) l = omega (arith, length-append l (repeated n l), suc-mul n (length l), repeated-length n l)

-- ---- the weight of the parameters, where a compensation has a size

module _ (size : Parameter → ℕ) where
  -- what an unused parameter is worth, and what a used one owes
  abbrev pub worth : Parameter → ℕ
  worth p = 3 + 2 * size p

  abbrev pub owed : Used → ℕ
  owed u = u.compensations * size u.parameter

  abbrev pub weight : Parameters → ℕ
  weight (TwoUnused p q) = worth p + worth q
  weight (OneUnused u p) = owed u + worth p
  weight (AllUsed u v) = owed u + owed v

  -- a refusal is not for want of room
  abbrev pub Fits : Parameters → Result Effect Refusal → Type 0
  Fits ps (Ok e) = length (output_bytes e.output) + weight e.parameters ≤ 2 + weight ps
  Fits ps (Err r) = r ≡ NoRoom → ⊥

-- ---- what a sequence gives

none_left : TooFewParameters ≡ NoRoom → ⊥
none_left = not_nine TooFewParameters (omega arith)

out_of_range : OutOfRange ≡ NoRoom → ⊥
out_of_range = not_nine OutOfRange (omega arith)

decimal_short : (least h : ℕ) → least ≤ 3 → non_negative h ≡ true → length (written 10 least (plain_value h)) ≤ 5
decimal_short least h l e =
    let high = ltb-true h 65536 (both_true (leb 32768 h) (ltb h 65536) e).1 in
    written-most 10 least (plain_value h) (omega arith) 5 (omega arith) (omega arith)

-- What holds of a change that stays in its range, and of refusal 12, holds of the change.
holds-all : (P : Result Effect Refusal → Type 0) (r : Option ℕ) {f : ℕ → Result Effect Refusal} → ((h : ℕ) → P (f h)) → P (Err OutOfRange)
    → P (with_changed r f)
holds-all P (Some h) p q = p h
holds-all P None p q = q

module _ (size : Parameter → ℕ) (kept : (p : Parameter) (h : ℕ) → size (holding p h) ≡ size p) (g : Raising) where
  decimal_fits : (least : ℕ) (ps : Parameters) (p : Parameter) → least ≤ 3 → weight size (take_next ps 0) + 3 ≤ weight size ps
      → Fits size ps (as_decimal least ps p)
  decimal_fits least ps p n h =
      pick-told (Fits size ps) (non_negative (held p)) (λ e. let s = decimal_short least (held p) n e in omega arith) (λ e. out_of_range)

  byte_fits : (c : ℕ) (ps : Parameters) (p : Parameter) → ((k : ℕ) → k ≤ 2 → weight size (take_next ps k) ≤ 1 + weight size ps)
      → Fits size ps (as_byte g c ps p)
  byte_fits c ps p h =
      pick_all (Fits size ps) (both (leb 32768 (held p + c)) (ltb (plain_value (held p + c)) 256))
      (omega (arith, h _ (byte-few g p (plain_value (held p + c))))) out_of_range

  pub perform-fits : (q : Sequence) (ps : Parameters) → Narrow q → Fits size ps (perform g q ps)
  unfolding perform
  perform-fits Percent ps n = omega arith
  perform-fits (Decimal least) (TwoUnused p q) n = decimal_fits least (TwoUnused p q) p n (omega arith)
  perform-fits (Decimal least) (OneUnused d p) n = decimal_fits least (OneUnused d p) p n (omega arith)
  perform-fits (Decimal least) (AllUsed d e) n = none_left
  perform-fits (Byte c) (TwoUnused p q) n = byte_fits c (TwoUnused p q) p (λ k l. omega (arith, mul-le-mul_right (size p) l))
  perform-fits (Byte c) (OneUnused d p) n = byte_fits c (OneUnused d p) p (λ k l. omega (arith, mul-le-mul_right (size p) l))
  perform-fits (Byte c) (AllUsed d e) n = none_left
  perform-fits (ChangeEvery c) (TwoUnused p q) n =
      holds-all (Fits size (TwoUnused p q)) (changed c (held p))
      (λ h. holds-all (Fits size (TwoUnused p q)) (changed c (held q)) (λ k. omega (arith, kept p h, kept q k)) out_of_range) out_of_range
  perform-fits (ChangeEvery c) (OneUnused d p) n =
      holds-all (Fits size (OneUnused d p)) (changed c (held p)) (λ h. omega (arith, kept p h)) out_of_range
  perform-fits (ChangeEvery c) (AllUsed d e) n = none_left
  perform-fits (ChangeNext c) (TwoUnused p q) n = holds-all (Fits size (TwoUnused p q)) (changed c (held p)) (λ h. omega (arith, kept p h)) out_of_range
  perform-fits (ChangeNext c) (OneUnused d p) n = holds-all (Fits size (OneUnused d p)) (changed c (held p)) (λ h. omega (arith, kept p h)) out_of_range
  perform-fits (ChangeNext c) (AllUsed d e) n = none_left
  perform-fits Exchange (TwoUnused p q) n = omega arith
  perform-fits Exchange (OneUnused d p) n = none_left
  perform-fits Exchange (AllUsed d e) n = none_left
