-- How long a finished command is at most: Send's, and that of a filled position with its compensations. Assumes nothing.
use Prim.Native.Nat.{ℕ, suc, ◌+◌, ◌*◌, ◌≤◌}
use mathlib.Core.Path.{◌≡◌, refl}
use mathlib.Core.List.{List, [], ◌∷◌}
use native.Mathlib.Omega.{arith}
use lib.Dec.{eqb}
use lib.ListN.{length, length-append}
use Rattle.spec.specs.Choice.{is_empty, pick}
use Rattle.spec.specs.Values.{holding}
use Rattle.spec.specs.Sequences.{read_byte, perform, output_bytes}
use Rattle.spec.specs.Position.{
  Filled,
  filled,
  refused,
  then,
  onward,
  on_byte,
  plain_of,
  percent_of,
  raising_for,
  compensation,
  compensations,
  Body,
  body,
  fault,
  compensated,
  at_place,
  fill_in,
}
use Rattle.std.specs.Prelude.{Result, Ok, Err}
use Rattle.spec.specs.Padding.{Prefix, Split, prefix_of}
use Rattle.spec.specs.Sending.{Prepared, finished, copied, with_bytes, filled_in, prepared, good_place, prepared_at}
use Rattle.spec.specs.declared.Refusal.{Refusal}
use Rattle.spec.specs.declared.Refusal.TheVariants.{NoRoom, UnknownSequence, OutOfRange}
use Rattle.spec.specs.declared.position.Parameter.{Parameter}
use Rattle.spec.specs.declared.position.Parameter.TheVariants.{Row, Column}
use Rattle.spec.specs.declared.position.Parameters.{Parameters}
use Rattle.spec.specs.declared.position.Parameters.TheVariants.{TwoUnused, OneUnused, AllUsed}
use Rattle.spec.specs.declared.position.Raising.{Raising}
use Rattle.spec.specs.declared.position.Pending.{Pending}
use Rattle.spec.specs.declared.position.Pending.TheVariants.{Letter}
use Rattle.spec.specs.declared.position.Progress.{Progress}
use Rattle.spec.specs.declared.position.Progress.TheVariants.{More, Whole, Unknown}
use Rattle.spec.specs.declared.position.Effect.{Effect}
use Rattle.laws.proofs.Tests.{pick_all}
use Rattle.laws.proofs.Buffers.{not_nine}
use Rattle.laws.proofs.PaddingLaws.{Shortened, body-short}
use Rattle.laws.proofs.OutputSizes.{NarrowProgress, read_narrow, weight, Fits, perform-fits, repeated-length}

-- A finished command of a body of n bytes is no longer.
abbrev pub room : ℕ → List ℕ → List ℕ → ℕ
room n back up = n + 2 * (length back + length up) + 8

abbrev Short : ℕ → Body → Type 0
Short n (body l) = length l ≤ n
Short n (fault r) = r ≡ NoRoom → ⊥

-- ---- the walk: what is written and owed is no more than the command and the weight of the parameters

module _ (back up : List ℕ) where
  abbrev size : Parameter → ℕ
  size p = length (compensation back up p)

  size-kept : (p : Parameter) (h : ℕ) → size (holding p h) ≡ size p
  size-kept (Row r) h = refl
  size-kept (Column c) h = refl

  abbrev Within : ℕ → Filled → Type 0
  Within n (filled l ps) = length l + weight size ps ≤ n
  Within n (refused r) = r ≡ NoRoom → ⊥

  grown_within : (m n : ℕ) (f : Filled) → m ≤ n → Within m f → Within n f
  grown_within m n (filled k ps) h w = omega arith
  grown_within m n (refused r) h w = w

  then-within : (m n : ℕ) (l : List ℕ) (f : Filled) → length l + m ≤ n → Within m f → Within n (then l f)
  then-within m n l (filled k ps) h w = rw length-append (omega arith)
  then-within m n l (refused r) h w = w

  module _ (n : ℕ) (g : Raising) (ps : Parameters) (rest : Parameters → Filled) (after : (qs : Parameters) → Within (n + weight size qs) (rest qs)) where
    onward-within : (e : Result Effect Refusal) → Fits size ps e → Within (suc (suc n) + weight size ps) (onward e rest)
    onward-within (Ok e) h =
        then-within (n + weight size e.parameters) _ (output_bytes e.output) (rest e.parameters) (omega arith) (after e.parameters)
    onward-within (Err r) h = h

    on_byte-within : (x : Progress) (more : Pending → Filled) → NarrowProgress x → ((w : Pending) → Within (suc n + weight size ps) (more w))
        → Within (suc (suc n) + weight size ps) (on_byte x g ps more rest)
    on_byte-within (More w) more h m = grown_within (suc n + weight size ps) _ (more w) (omega arith) (m w)
    on_byte-within (Whole q) more h m = onward-within (perform g q ps) (perform-fits size size-kept g q ps h)
    on_byte-within Unknown more h m = not_nine UnknownSequence (omega arith)

  walk-within : (s : List ℕ) (g : Raising)
      → ((ps : Parameters) → Within (length s + weight size ps) (plain_of s g ps))
      × ((w : Pending) (ps : Parameters) → Within (suc (length s) + weight size ps) (percent_of s w g ps))
  unfolding plain_of
  walk-within [] g = (λ ps. omega arith, λ w ps. not_nine UnknownSequence (omega arith))
  walk-within (b ∷ s) g =
      let ih = walk-within s g in (
        λ ps. pick_all (Within (suc (length s) + weight size ps)) (eqb b 37) (ih.1 Letter ps)
            (then-within (length s + weight size ps) _ (b ∷ []) (plain_of s g ps) (omega arith) (ih.0 ps)),
        λ w ps. on_byte-within (length s) g ps _ ih.0 (read_byte w b) _ (read_narrow w b) (λ v. ih.1 v ps),
      )

  -- ---- the compensations

  owed_length : (ps : Parameters) → length (compensations back up ps) ≤ weight size ps
  unfolding compensations
  owed_length (TwoUnused p q) = omega arith
  owed_length (OneUnused u p) = omega (arith, repeated-length u.compensations (compensation back up u.parameter))
  owed_length (AllUsed u v) =
      let one = repeated-length u.compensations (compensation back up u.parameter) in
      let other = repeated-length v.compensations (compensation back up v.parameter) in
      rw length-append (omega arith)

  -- a byte stands for an empty back string
  back-size : length (pick (is_empty back) (8 ∷ []) back) ≤ length back + 1
  back-size = go back
    where
      go : (l : List ℕ) → length (pick (is_empty l) (8 ∷ []) l) ≤ length l + 1
      go [] = omega arith
      go (b ∷ l) = omega arith

  -- ---- the body and its compensations

  fill-short : (cmd : List ℕ) (n row column : ℕ) → length cmd ≤ n → Short (room n back up) (fill_in cmd row column back up)
  unfolding fill_in
  fill-short cmd n row column h =
      let g = raising_for back up in
      go (plain_of cmd g (at_place row column)) ((walk-within cmd g).0 (at_place row column))
    where
      go : (f : Filled) → Within (length cmd + weight size (at_place row column)) f → Short (room n back up) (compensated back up f)
      go (filled l ps) w = rw length-append (omega (arith, owed_length ps, back-size))
      go (refused r) w = w

-- ---- the finished command

abbrev pub Ready : ℕ → Prepared → Type 0
Ready n (finished f) = length f.bytes ≤ n
Ready n (Prepared.refused r) = r ≡ NoRoom → ⊥

pub prepared_ready : (cmd : List ℕ) → Ready (length cmd) (prepared cmd)
unfolding prepared
prepared_ready cmd = go (prefix_of cmd) (body-short cmd)
  where
    go : (x : Prefix) → Shortened (length cmd) x → Ready (length cmd) (copied x)
    go (Prefix.split p) h = h
    go (Prefix.refused r) h = h

pub filled_ready : (cmd : List ℕ) (row column : ℕ) (back up : List ℕ) → Ready (room (length cmd) back up) (prepared_at cmd row column back up)
unfolding prepared_at
filled_ready cmd row column back up =
    pick_all (Ready n) (good_place row column) (by-prefix (prefix_of cmd) (body-short cmd)) (not_nine OutOfRange (omega arith))
  where
    n : ℕ
    n = room (length cmd) back up

    by-body : (p : Split) (t : Body) → Short n t → Ready n (with_bytes p t)
    by-body p (body l) h = h
    by-body p (fault r) h = h

    by-prefix : (x : Prefix) → Shortened (length cmd) x → Ready n (filled_in x row column back up)
    by-prefix (Prefix.split p) h = by-body p (fill_in p.body row column back up) (fill-short back up p.body (length cmd) row column h)
    by-prefix (Prefix.refused r) h = h
