-- A run of plain bytes, and what follows the sign behind it. Assumes nothing.
use mathlib.Core.Path.{◌≡◌, sym, ap, ◌∙◌}
use mathlib.Core.List.{List, [], ◌∷◌, ◌++◌, append-nil}
use Prim.Native.Nat.{ℕ, ◌+◌, ◌-◌, ◌<◌, ◌≤◌}
use native.Mathlib.Numerals.{add-one}
use native.Mathlib.Omega.{arith}
use lib.ListN.{length, drop, get_or, set, length-append, length-set, drop_of_length-le}
use lib.Seq.{sets, drop-cons}
use borrow.Author.Tests.{eq-eqb, ne_eqb}
use Rattle.position.proofs.FillSteps.{part, part_is}
use Rattle.position.proofs.StepLaws.{then-then, sets-append, part_length, went_on}
use Rattle.std.specs.Prelude.{Result, Ok}
use Rattle.spec.specs.declared.Refusal.{Refusal}
use Rattle.position.specs.declared.Step.{Step}
use Rattle.position.specs.declared.Step.TheVariants.{Done}
use Rattle.spec.specs.Position.{filled, then, plain_of, percent_of}
use Rattle.position.specs.Filling.{percent_bound, plain_bound, StepTaken}
use Rattle.spec.specs.declared.position.Raising.{Raising}
use Rattle.spec.specs.declared.position.Parameters.{Parameters}
use Rattle.spec.specs.declared.position.Pending.TheVariants.{Letter}
use Rattle.places.specs.Places.{parameters_of}
use Rattle.places.specs.declared.Places.{Places}

-- A sign at a place, and the end.
module _ (s : List ℕ) (g : Raising) (ps : Parameters) (i : ℕ) where
  pub at_sign : i < length s → get_or s i 0 ≡ 37 → plain_of (drop i s) g ps ≡ percent_of (drop (i + 1) s) Letter g ps
  unfolding plain_of
  at_sign l e = rw (drop-cons s i 0, eq-eqb _ _ e, add-one)

  pub at-end : length s ≤ i → plain_of (drop i s) g ps ≡ filled [] ps
  unfolding plain_of
  at-end l = rw (drop_of_length-le s l)

-- The loop over a run: i bytes were written, and the whole gives them and what those from i on give.
pub record Run (s : List ℕ) (g : Raising) (ps : Parameters) (out₀ : List ℕ) (at : ℕ) (out : List ℕ) (i : ℕ) : Type 0 where
  pub inside : i ≤ length s
  pub same : length out ≡ length out₀
  pub wrote : List ℕ
  pub counted : length wrote ≡ i
  pub gives : plain_of s g ps ≡ then wrote (plain_of (drop i s) g ps)
  pub stored : out ≡ sets out₀ at wrote

module _ (s : List ℕ) (g : Raising) (ps : Parameters) (out₀ : List ℕ) (at : ℕ) (out : List ℕ) (i : ℕ) (run : Run s g ps out₀ at out i) where
  at_byte : i < length s → (get_or s i 0 ≡ 37 → ⊥) → plain_of (drop i s) g ps ≡ then (get_or s i 0 ∷ []) (plain_of (drop (i + 1) s) g ps)
  unfolding plain_of
  at_byte l n = rw (drop-cons s i 0, ne_eqb _ _ n, add-one)

  place : at + i ≡ at + length run.wrote
  place = ap (λ (n : ℕ). at + n) (sym run.counted)

  pub one_more : i < length s → (get_or s i 0 ≡ 37 → ⊥) → (m : List ℕ) → m ≡ set out (at + i) (get_or s i 0) → Run s g ps out₀ at m (i + 1)
  one_more l n m e = record {
    inside = omega arith;
    same = rw e (simp length-set run.same);
    wrote = run.wrote ++ (get_or s i 0 ∷ []);
    counted = rw length-append (omega (arith, run.counted));
    gives = run.gives ∙ ap (then run.wrote) (at_byte l n) ∙ then-then run.wrote (get_or s i 0 ∷ []) (plain_of (drop (i + 1) s) g ps);
    stored = e ∙ ap (λ (x : List ℕ). set x (at + i) (get_or s i 0)) run.stored ∙ sets-append out₀ at (at + i) run.wrote (get_or s i 0 ∷ []) place;
  }

  -- A sign, and the percent step's answer.
  pub at-next_sign : i < length s → get_or s i 0 ≡ 37 → (r : Result Step Refusal) (o : List ℕ)
      → StepTaken (part s (i + 1)) g (percent_of (part s (i + 1)) Letter g ps) out (at + i) (percent_bound (part s (i + 1)) ps (at + i)) r o
      → StepTaken s g (plain_of s g ps) out₀ at (plain_bound s ps at) r o
  at-next_sign l e r o v =
      let size : length (part s (i + 1)) ≡ length s - (i + 1) = part_length s (i + 1) in
      let t : plain_of (drop i s) g ps ≡ percent_of (part s (i + 1)) Letter g ps = at_sign s g ps i l e ∙ ap (λ (x : List ℕ). percent_of x Letter g ps)
      (sym (part_is s (i + 1))) in
      went_on s g (i + 1) (plain_of s g ps) (percent_of (part s (i + 1)) Letter g ps) run.wrote out₀ out at (at + i) _ _ r o
      (run.gives ∙ ap (then run.wrote) t) run.stored place (omega arith) v

  pub at_last : length s ≤ i → (top : ℕ) (q : Places) → ps ≡ parameters_of q
      → StepTaken s g (plain_of s g ps) out₀ at top (Ok (Done (at + length s) q)) out
  at_last l top q e = (
    run.wrote,
    run.gives ∙ ap (then run.wrote) (at-end s g ps i l) ∙ ap (λ (x : List ℕ). filled x ps) (append-nil run.wrote) ∙ ap (filled run.wrote) e,
    omega (arith, run.counted, run.inside),
    run.stored,
  )
