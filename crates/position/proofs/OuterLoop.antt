-- The outer loop: l is written, left bytes are to go, and what they give behind l is what the whole gives. Assumes nothing.
use mathlib.Core.Path.{◌≡◌, sym, ap, ◌∙◌}
use mathlib.Core.List.{List, ◌++◌}
use Prim.Native.Nat.{ℕ, ◌+◌, ◌-◌, ◌*◌, ◌<◌, ◌≤◌}
use native.Mathlib.Omega.{arith}
use lib.ListN.{length, drop, length-drop, length-append}
use lib.Seq.{sets, drop-drop}
use Rattle.position.proofs.FillSteps.{part, part_is}
use Rattle.position.proofs.StepLaws.{then-then, sets-append}
use Rattle.std.specs.Prelude.{Ok}
use Rattle.position.specs.declared.Step.TheVariants.{Done, Paused}
use Rattle.spec.specs.Position.{then, plain_of}
use Rattle.position.specs.Filling.{unused, StepTaken, BodyFilled}
use Rattle.spec.specs.declared.position.Raising.{Raising}
use Rattle.places.specs.Places.{parameters_of}
use Rattle.places.specs.declared.Places.{Places}
use Rattle.spec.specs.declared.position.Parameters.{Parameters}

pub record FilledSoFar (cmd : List ℕ) (g : Raising) (first : Parameters) (out₀ out : List ℕ) (left at : ℕ) (ps : Parameters) : Type 0 where
  pub within : left ≤ length cmd
  pub wrote : List ℕ
  pub gives : plain_of cmd g first ≡ then wrote (plain_of (drop (length cmd - left) cmd) g ps)
  pub place : at ≡ length wrote
  pub stored : out ≡ sets out₀ 0 wrote
  pub below : at + left + 3 * unused ps ≤ length cmd + 6
  pub same : length out ≡ length out₀

module _ (cmd : List ℕ) (g : Raising) (first : Parameters) (out₀ out : List ℕ) (left at : ℕ) (ps : Parameters)
    (good : FilledSoFar cmd g first out₀ out left at ps) where
  -- The part that is handed on.
  abbrev from : ℕ
  from = length cmd - left

  abbrev handed : List ℕ
  handed = part cmd from

  pub handed-length : length handed ≡ left
  handed-length = let l = good.within in ap length (part_is cmd from) ∙ length-drop from cmd ∙ omega arith

  whole : plain_of cmd g first ≡ then good.wrote (plain_of handed g ps)
  whole = good.gives ∙ ap (λ (l : List ℕ). then good.wrote (plain_of l g ps)) (sym (part_is cmd from))

  module _ (top : ℕ) (o : List ℕ) where
    pub fill_done : (n : ℕ) (qs : Places) → StepTaken handed g (plain_of handed g ps) out at top (Ok (Done n qs)) o
        → BodyFilled (plain_of cmd g first) out₀ (Ok (record { end = n; places = qs })) o
    fill_done n qs v =
        let p = good.place in (
          good.wrote ++ v.0,
          whole ∙ ap (then good.wrote) v.1,
          v.2 ∙ rw length-append (omega arith),
          v.3 ∙ ap (λ (x : List ℕ). sets x at v.0) good.stored ∙ sets-append out₀ 0 at good.wrote v.0 (omega arith),
        )

    module _ (l next : ℕ) (qs : Places) (v : StepTaken handed g (plain_of handed g ps) out at top (Ok (Paused l next qs)) o) where
      pub fill_falls : l < left
      fill_falls = let k = handed-length in omega (arith, v.4)

      pub fill-again : length o ≡ length out → top ≡ at + left + 3 * unused ps → FilledSoFar cmd g first out₀ o l next (parameters_of qs)
      fill-again same top-is =
          let k = handed-length in
          let n : from + (left - l) ≡ length cmd - l = omega (arith, good.within, fill_falls) in
          let d : drop (length handed - l) handed ≡ drop (length cmd - l) cmd =
          ap (λ (m : ℕ). drop (m - l) handed) k ∙ ap (λ (s : List ℕ). drop (left - l) s) (part_is cmd from) ∙ drop-drop (left - l) from cmd ∙ ap
          (λ (m : ℕ). drop m cmd) n in
          let size : length (drop (length handed - l) handed) ≡ l = length-drop (length handed - l) handed ∙ omega (arith, fill_falls) in
          let p = good.place in
          record {
            within = omega (arith, good.within, fill_falls);
            wrote = good.wrote ++ v.0;
            gives = whole ∙ ap (then good.wrote) (rw d at v.1) ∙ then-then good.wrote v.0 (plain_of (drop (length cmd - l) cmd) g (parameters_of qs));
            place = v.2 ∙ rw length-append (omega arith);
            stored = v.3 ∙ ap (λ (x : List ℕ). sets x at v.0) good.stored ∙ sets-append out₀ 0 at good.wrote v.0 (omega arith);
            below = omega (arith, v.5, size, good.below);
            same = same ∙ good.same;
          }
