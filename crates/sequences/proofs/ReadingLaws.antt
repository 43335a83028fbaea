-- A sequence that is read, from its letter on: of one byte, of two, of three, cut off, unknown. Assumes nothing.
use mathlib.Core.Path.{◌≡◌, refl, subst, ◌∙◌}
use mathlib.Core.List.{List}
use Prim.Native.Nat.{ℕ, ◌+◌, ◌<◌, ◌≤◌}
use native.Mathlib.Numerals.{add-one}
use native.Mathlib.Omega.{arith}
use lib.ListN.{length, drop, get_or, drop_of_length-le}
use lib.Seq.{drop-cons}
use Rattle.std.specs.Prelude.{Some, None}
use Rattle.spec.specs.Sequences.{letter, read_byte}
use Rattle.spec.specs.Position.{refused, on_byte, plain_of, percent_of}
use Rattle.laws.proofs.OutputSizes.{NarrowProgress, letter_narrow}
use Rattle.spec.specs.declared.Refusal.TheVariants.{UnknownSequence}
use Rattle.spec.specs.declared.position.Raising.{Raising}
use Rattle.spec.specs.declared.position.Parameters.{Parameters}
use Rattle.spec.specs.declared.position.Change.TheVariants.{AddAbove}
use Rattle.spec.specs.declared.position.Sequence.{Sequence}
use Rattle.spec.specs.declared.position.Sequence.TheVariants.{Byte, ChangeNext}
use Rattle.spec.specs.declared.position.Pending.{Pending}
use Rattle.spec.specs.declared.position.Pending.TheVariants.{Letter, Added, Threshold, Addend}
use Rattle.spec.specs.declared.position.Progress.{Progress}
use Rattle.spec.specs.declared.position.Progress.TheVariants.{More, Whole, Unknown}
use Rattle.sequences.specs.Readings.{SequenceRead}

-- ---- the two letters that bytes follow

letter_added : (b : ℕ) → b ≡ 43 → letter b ≡ More Added
letter_added b e = simp e

letter_threshold : (b : ℕ) → b ≡ 62 → letter b ≡ More Threshold
letter_threshold b e = simp e

-- ---- one byte more, and the end

-- The byte b stands at i.
abbrev Stands : List ℕ → ℕ → ℕ → Type 0
Stands s i b = (i < length s) × ((d : ℕ) → b ≡ get_or s i d)

module _ (s : List ℕ) (g : Raising) (ps : Parameters) where
  one_byte_lem : (i j b : ℕ) → j ≡ i + 1 → Stands s i b → (w : Pending) (r : Progress) → read_byte w b ≡ r
      → percent_of (drop i s) w g ps ≡ on_byte r g ps (λ v. percent_of (drop j s) v g ps) (λ qs. plain_of (drop j s) g qs)
  unfolding plain_of
  one_byte_lem i j b n at w r e = let l = at.0 in rw (n, drop-cons s i 0, ← at.1 0, e, add-one)

  no_byte : (i : ℕ) → length s ≤ i → (w : Pending) → percent_of (drop i s) w g ps ≡ refused UnknownSequence
  unfolding plain_of
  no_byte i l w = rw (drop_of_length-le s l)

pub read_nothing : (s : List ℕ) (from : ℕ) → length s ≤ from → SequenceRead s from None
read_nothing s from l = λ g ps. no_byte s g ps from l Letter

module _ (s : List ℕ) (from b : ℕ) (at : Stands s from b) where
  first_byte : (g : Raising) (ps : Parameters) (r : Progress) → letter b ≡ r
      → percent_of (drop from s) Letter g ps ≡ on_byte r g ps (λ v. percent_of (drop (from + 1) s) v g ps) (λ qs. plain_of (drop (from + 1) s) g qs)
  unfolding read_byte
  first_byte g ps r e = one_byte_lem s g ps from (from + 1) b refl at Letter r e

  pub read_one : (q : Sequence) → letter b ≡ Whole q → SequenceRead s from (Some (q, from + 1))
  read_one q e = (omega arith, omega (arith, at.0), subst NarrowProgress e (letter_narrow b), λ g ps. first_byte g ps (Whole q) e)

  pub read_unknown : letter b ≡ Unknown → SequenceRead s from None
  read_unknown e = λ g ps. first_byte g ps Unknown e

  cut-after : (w : Pending) → letter b ≡ More w → length s ≤ from + 1 → SequenceRead s from None
  cut-after w e h = λ g ps. first_byte g ps (More w) e ∙ no_byte s g ps (from + 1) h w

  pub cut-after_plus : b ≡ 43 → length s ≤ from + 1 → SequenceRead s from None
  cut-after_plus e = cut-after Added (letter_added b e)

  pub cut-after_above : b ≡ 62 → length s ≤ from + 1 → SequenceRead s from None
  cut-after_above e = cut-after Threshold (letter_threshold b e)

  -- the byte after the letter
  module _ (x : ℕ) (next : Stands s (from + 1) x) where
    after-letter : (g : Raising) (ps : Parameters) (w : Pending) (r : Progress) → letter b ≡ More w → read_byte w x ≡ r
        → percent_of (drop from s) Letter g ps ≡ on_byte r g ps (λ v. percent_of (drop (from + 2) s) v g ps) (λ qs. plain_of (drop (from + 2) s) g qs)
    after-letter g ps w r e f = first_byte g ps (More w) e ∙ one_byte_lem s g ps (from + 1) (from + 2) x (omega arith) next w r f

    pub read_added : b ≡ 43 → SequenceRead s from (Some (Byte x, from + 2))
    unfolding read_byte
    read_added e = (omega arith, omega (arith, next.0), tt, λ g ps. after-letter g ps Added (Whole (Byte x)) (letter_added b e) refl)

    module _ (e : b ≡ 62) where
      after_threshold : (g : Raising) (ps : Parameters) → percent_of (drop from s) Letter g ps ≡ percent_of (drop (from + 2) s) (Addend x) g ps
      unfolding read_byte
      after_threshold g ps = after-letter g ps Threshold (More (Addend x)) (letter_threshold b e) refl

      pub cut-after_threshold : length s ≤ from + 2 → SequenceRead s from None
      cut-after_threshold h = λ g ps. after_threshold g ps ∙ no_byte s g ps (from + 2) h (Addend x)

      pub read_above : (y : ℕ) → Stands s (from + 2) y → SequenceRead s from (Some (ChangeNext (AddAbove x y), from + 3))
      unfolding read_byte
      read_above y last = (
        omega arith,
        omega (arith, last.0),
        tt,
        λ g ps. after_threshold g ps ∙ one_byte_lem s g ps (from + 2) (from + 3) y (omega arith) last (Addend x) (Whole (ChangeNext (AddAbove x y))) refl,
      )
