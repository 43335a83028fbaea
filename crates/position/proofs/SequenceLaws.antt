-- Sequences that follow each other: one that is done, the loop over them, and what follows the last one. Assumes nothing.
use mathlib.Core.Path.{◌≡◌, refl, sym, ap, subst, ◌∙◌}
use mathlib.Core.List.{List, ◌++◌, append-nil}
use Prim.Native.Nat.{ℕ, ◌+◌, ◌-◌, ◌*◌, ◌<◌, ◌≤◌}
use native.Mathlib.Omega.{arith}
use lib.ListN.{length, drop, get_or, length-append, length-drop}
use lib.Seq.{sets}
use Rattle.std.specs.Prelude.{Some, Result, Ok}
use Rattle.spec.specs.Sequences.{gives, perform, output_bytes}
use Rattle.spec.specs.Position.{filled, refused, then, plain_of, percent_of}
use Rattle.spec.specs.declared.Refusal.{Refusal}
use Rattle.spec.specs.declared.position.Raising.{Raising}
use Rattle.spec.specs.declared.position.Parameters.{Parameters}
use Rattle.spec.specs.declared.position.Parameters.TheVariants.{TwoUnused, OneUnused, AllUsed}
use Rattle.spec.specs.declared.position.Sequence.{Sequence}
use Rattle.spec.specs.declared.position.Output.{Output}
use Rattle.spec.specs.declared.position.Pending.TheVariants.{Letter}
use Rattle.places.specs.Places.{parameters_of}
use Rattle.places.specs.declared.Places.{Places}
use Rattle.sequences.specs.Readings.{SequenceRead}
use Rattle.position.specs.Filling.{unused, plain_bound, percent_bound, SequenceDone, StepTaken}
use Rattle.position.specs.declared.Sequenced.{Sequenced}
use Rattle.position.specs.declared.Step.{Step}
use Rattle.position.specs.declared.Step.TheVariants.{Done, Paused}
use Rattle.position.proofs.FillSteps.{part, part_is}
use Rattle.position.proofs.StepLaws.{then-then, sets-append, part_length, went_on}
use Rattle.position.proofs.RunLaws.{at_sign, at-end}
use Rattle.laws.proofs.OutputSizes.{weight, Fits, perform-fits}

-- ---- one sequence, which was read whole

-- without compensations a parameter weighs three bytes
unowed : (ps : Parameters) → weight (λ p. 0) ps ≡ 3 * unused ps
unowed (TwoUnused p q) = refl
unowed (OneUnused u p) = omega arith
unowed (AllUsed u v) = omega arith

module _ (s : List ℕ) (from : ℕ) (g : Raising) (ps : Parameters) (q : Sequence) (next : ℕ) (read : SequenceRead s from (Some (q, next))) where
  module _ (x : Output) (qs : Places) (e : gives x (parameters_of qs) ≡ perform g q ps) where
    pub sequence_fits : length (output_bytes x) + 3 * unused (parameters_of qs) ≤ 2 + 3 * unused ps
    sequence_fits =
        let f : Fits (λ p. 0) ps (gives x (parameters_of qs)) = subst (Fits (λ p. 0) ps) (sym e) (perform-fits (λ p. 0) (λ p h. refl) g q ps read.2) in
        omega (arith, unowed ps, unowed (parameters_of qs))

    pub sequence_done : (out o : List ℕ) (at end : ℕ) → end ≡ at + length (output_bytes x) → o ≡ sets out at (output_bytes x)
        → SequenceDone s from g ps out at (Ok (record { next = next; end = end; places = qs })) o
    sequence_done out o at end place stored = (output_bytes x, read.3 g ps ∙ rw (← e), place, stored, read.0, read.1, sequence_fits)

-- ---- the loop: the bytes before i were read, and the whole gives what was written and then what the sequence at i gives

pub record Went (s : List ℕ) (g : Raising) (first : Parameters) (out₀ : List ℕ) (start : ℕ) (out : List ℕ) (i at : ℕ) (ps : Parameters) : Type 0 where
  pub inside : i ≤ length s
  pub same : length out ≡ length out₀
  pub wrote : List ℕ
  pub place : at ≡ start + length wrote
  pub gives : percent_of s Letter g first ≡ then wrote (percent_of (drop i s) Letter g ps)
  pub stored : out ≡ sets out₀ start wrote
  pub below : at + (length s - i) + 3 * unused ps ≤ start + length s + 3 * unused first

-- After a sequence: the same, with what the bytes from `next` on give.
pub record Came (s : List ℕ) (g : Raising) (first : Parameters) (out₀ : List ℕ) (start : ℕ) (out : List ℕ) (next at : ℕ) (qs : Places) : Type 0 where
  pub begun : 0 < next
  pub inside : next ≤ length s
  pub same : length out ≡ length out₀
  pub wrote : List ℕ
  pub place : at ≡ start + length wrote
  pub gives : percent_of s Letter g first ≡ then wrote (plain_of (drop next s) g (parameters_of qs))
  pub stored : out ≡ sets out₀ start wrote
  pub below : at + (length s - next) + 3 * unused (parameters_of qs) ≤ start + length s + 1 + 3 * unused first

module _ (s : List ℕ) (g : Raising) (first : Parameters) (out₀ : List ℕ) (start : ℕ) where
  pub came : (out : List ℕ) (i at : ℕ) (ps : Parameters) → Went s g first out₀ start out i at ps → (r : Sequenced) (o : List ℕ)
      → SequenceDone s i g ps out at (Ok r) o → length o ≡ length out → Came s g first out₀ start o r.next r.end r.places
  came out i at ps w r o d same = record {
    begun = omega (arith, d.4);
    inside = d.5;
    same = same ∙ w.same;
    wrote = w.wrote ++ d.0;
    place = d.2 ∙ rw length-append (omega (arith, w.place));
    gives = w.gives ∙ ap (then w.wrote) d.1 ∙ then-then w.wrote d.0 (plain_of (drop r.next s) g (parameters_of r.places));
    stored = d.3 ∙ ap (λ (x : List ℕ). sets x at d.0) w.stored ∙ sets-append out₀ start at w.wrote d.0 w.place;
    below = omega (arith, d.2, d.4, d.5, d.6, w.below);
  }

  pub stopped : (out : List ℕ) (i at : ℕ) (ps : Parameters) → Went s g first out₀ start out i at ps → (r : Refusal) → percent_of (drop i s) Letter g ps ≡
      refused r
      → percent_of s Letter g first ≡ refused r
  stopped out i at ps w r e = w.gives ∙ ap (then w.wrote) e

  module _ (out : List ℕ) (next at : ℕ) (qs : Places) (w : Came s g first out₀ start out next at qs) where
    -- Another sequence.
    pub next_sequence : next < length s → get_or s next 0 ≡ 37 → Went s g first out₀ start out (next + 1) at (parameters_of qs)
    next_sequence l e = record {
      inside = omega arith;
      same = w.same;
      wrote = w.wrote;
      place = w.place;
      gives = w.gives ∙ ap (then w.wrote) (at_sign s g (parameters_of qs) next l e);
      stored = w.stored;
      below = omega (arith, w.below);
    }

    -- The end of the command.
    pub all_done : length s ≤ next → (top : ℕ) → StepTaken s g (percent_of s Letter g first) out₀ start top (Ok (Done at qs)) out
    all_done l top = (
      w.wrote,
      w.gives ∙ ap (then w.wrote) (at-end s g (parameters_of qs) next l) ∙ ap (λ (x : List ℕ). filled x (parameters_of qs)) (append-nil w.wrote),
      w.place,
      w.stored,
    )

    -- A pause.
    pub pauses : next < length s → StepTaken s g (percent_of s Letter g first) out₀ start (percent_bound s first start) (Ok (Paused (length s - next) at qs)) out
    pauses l =
        let from : length s - (length s - next) ≡ next = omega arith in
        let size = length-drop next s in
        (w.wrote, rw from w.gives, w.place, w.stored, omega (arith, w.begun), rw from (omega (arith, w.below)))

    -- The plain step's answer.
    pub goes_on_lem : next ≤ length s → (r : Result Step Refusal) (o : List ℕ) → StepTaken (part s next) g (plain_of (part s next) g (parameters_of qs)) out at
        (plain_bound (part s next) (parameters_of qs) at) r o
        → StepTaken s g (percent_of s Letter g first) out₀ start (percent_bound s first start) r o
    goes_on_lem l r o v =
        let size = part_length s next in
        went_on s g next (percent_of s Letter g first) (plain_of (part s next) g (parameters_of qs)) w.wrote out₀ out start at _ _ r o
        (w.gives ∙ ap (λ (x : List ℕ). then w.wrote (plain_of x g (parameters_of qs))) (sym (part_is s next))) w.stored w.place
        (omega (arith, w.below)) v
