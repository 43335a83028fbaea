-- One step, over what the steps after it give. Assumes nothing.
use mathlib.Core.Path.{◌≡◌, refl, sym, ap, ◌∙◌}
use mathlib.Core.List.{List, [], ◌∷◌, ◌++◌, append_assoc}
use Prim.Native.Nat.{ℕ, suc, ◌+◌, ◌-◌, ◌<◌, ◌≤◌}
use native.Mathlib.Nat.{add-zero}
use native.Mathlib.Omega.{arith}
use lib.ListN.{length, drop, set, length-drop, length-append}
use lib.Seq.{sets, drop-drop}
use Rattle.position.proofs.FillSteps.{part, part_is}
use Rattle.std.specs.Prelude.{Result, Ok, Err}
use Rattle.spec.specs.declared.Refusal.{Refusal}
use Rattle.position.specs.declared.Step.{Step}
use Rattle.position.specs.declared.Step.TheVariants.{Done, Paused}
use Rattle.spec.specs.Position.{Filled, filled, refused, then, plain_of}
use Rattle.position.specs.Filling.{StepTaken}
use Rattle.spec.specs.declared.position.Raising.{Raising}
use Rattle.places.specs.Places.{parameters_of}

pub then-then : (k l : List ℕ) (t : Filled) → then k (then l t) ≡ then (k ++ l) t
then-then k l (filled m ps) = ap (λ (x : List ℕ). filled x ps) (sym (append_assoc k l m))
then-then k l (refused n) = refl

-- Bytes that are written, and then those after them.
pub sets-append : (out : List ℕ) (at next : ℕ) (k l : List ℕ) → next ≡ at + length k → sets (sets out at k) next l ≡ sets out at (k ++ l)
sets-append out at next [] l e = ap (λ (n : ℕ). sets out n l) (e ∙ add-zero at)
sets-append out at next (x ∷ k) l e = sets-append (set out at x) (suc at) next k l (e ∙ omega arith)

pub part_length : (s : List ℕ) (j : ℕ) → length (part s j) ≡ length s - j
part_length s j = rw (part_is s j, length-drop)

-- What is left of a part, counted from the end.
left_of_part : (s : List ℕ) (j left : ℕ) → left < length (part s j) → drop (length (part s j) - left) (part s j) ≡ drop (length s - left) s
left_of_part s j left h =
    let e : length (part s j) ≡ length s - j = part_length s j in
    let k : j + (length s - j - left) ≡ length s - left = omega arith in
    ap (λ (n : ℕ). drop (n - left) (part s j)) e ∙ ap (λ (l : List ℕ). drop (length s - j - left) l) (part_is s j) ∙ drop-drop (length s - j - left) j s ∙ ap
    (λ (n : ℕ). drop n s) k

-- Bytes w that were written, and then steps over a part of the command.
pub went_on : (s : List ℕ) (g : Raising) (j : ℕ) (t u : Filled) (w out m : List ℕ) (at next low top : ℕ) (r : Result Step Refusal) (o : List ℕ)
    → t ≡ then w u → m ≡ sets out at w → next ≡ at + length w → low ≤ top → StepTaken (part s j) g u m next low r o → StepTaken s g t out at top r o
went_on s g j t u w out m at next low top (Ok (Done n ps)) o et em en lt v = (
  w ++ v.0,
  et ∙ ap (then w) v.1,
  v.2 ∙ rw length-append (omega arith),
  v.3 ∙ ap (λ (x : List ℕ). sets x next v.0) em ∙ sets-append out at next w v.0 en,
)
went_on s g j t u w out m at next low top (Err n) o et em en lt v = et ∙ ap (then w) v
went_on s g j t u w out m at next low top (Ok (Paused left to ps)) o et em en lt v =
    let d = left_of_part s j left v.4 in
    let e : length (part s j) ≡ length s - j = part_length s j in (
      w ++ v.0,
      et ∙ ap (then w) (rw d at v.1) ∙ then-then w v.0 (plain_of (drop (length s - left) s) g (parameters_of ps)),
      v.2 ∙ rw length-append (omega arith),
      v.3 ∙ ap (λ (x : List ℕ). sets x next v.0) em ∙ sets-append out at next w v.0 en,
      omega (arith, v.4),
      omega (arith, rw d at v.5),
    )
