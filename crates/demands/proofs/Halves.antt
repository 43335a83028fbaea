-- Ask 7's statement: Send at equals its two halves in a row.
-- Assumes nothing.
use Rattle.std.specs.Prelude.{Result, Ok, Err}
use Prim.Native.Nat.{ℕ, ◌≤◌, ◌<◌}
use mathlib.Core.Path.{◌≡◌, refl}
use mathlib.Core.Bool.{Bool, true, false}
use mathlib.Core.List.{List, ◌++◌}
use native.Mathlib.Omega.{arith}
use borrow.Author.Tests.{le-leb}
use lib.Dec.{leb}
use lib.ListN.{length, drop}
use lib.Seq.{take-append_seam}
use Rattle.spec.specs.Choice.{pick}
use Rattle.spec.specs.Padding.{Prefix, Split, prefix_of}
use Rattle.laws.proofs.PaddingLaws.{Splits, delay-below}
use Rattle.spec.specs.Position.{Body, body, fault, fill_in}
use Rattle.spec.specs.Answers.{Outcome, keeping, put}
use Rattle.spec.specs.Sending.{
  Prepared,
  finished,
  refused,
  with_bytes,
  filled_in,
  good_place,
  prepared_at,
  padded,
  delivered,
  send_at_outcome,
  filled_answer,
  filled_into,
  fill_outcome,
  pad_outcome,
}
use Rattle.spec.specs.declared.Refusal.TheVariants.{NoRoom, OutOfRange}
use Rattle.spec.specs.declared.Finished.{Finished as FinishedCommand}
use Rattle.demands.specs.Halves.{RoomBetween, and_then, TwoInARow, DelayTaken, Halves}
use Rattle.spec.specs.declared.Refusal.{Refusal}

-- ---- the delay that the first half gives is never refused by the second

abbrev pub SmallDelay : Prepared → Type 0
SmallDelay (finished f) = f.delay ≤ 99999
SmallDelay (refused r) = Unit {0}

filled-small : (p : Split) (t : Body) → p.delay ≤ 99999 → SmallDelay (with_bytes p t)
filled-small p (body l) h = h
filled-small p (fault r) h = tt

prefix-small : (x : Prefix) (row column : ℕ) (back up : List ℕ) → Splits (λ (p : Split). p.delay ≤ 99999) x
    → SmallDelay (filled_in x row column back up)
prefix-small (Prefix.split p) row column back up h = filled-small p (fill_in p.body row column back up) h
prefix-small (Prefix.refused r) row column back up h = tt

weaker : (x : Prefix) → Splits (λ (p : Split). p.delay < 100000) x → Splits (λ (p : Split). p.delay ≤ 99999) x
weaker (Prefix.split p) h = omega (arith, h)
weaker (Prefix.refused r) h = tt

pub prepared-small : (cmd : List ℕ) (row column : ℕ) (back up : List ℕ) → SmallDelay (prepared_at cmd row column back up)
unfolding prepared_at
prepared-small cmd row column back up = go (good_place row column)
  where
    go : (t : Bool) → SmallDelay (pick t (filled_in (prefix_of cmd) row column back up) (refused OutOfRange))
    go true = prefix-small (prefix_of cmd) row column back up (weaker (prefix_of cmd) (delay-below cmd))
    go false = tt

-- ---- the two in a row, of a command that is prepared

module _ (lines speed pad : ℕ) (between buffer : List ℕ) where
  in_a_row : (p : Prepared) → SmallDelay p → RoomBetween (filled_into p between).answer
      → delivered (padded p lines speed pad) buffer ≡ and_then (filled_into p between).answer (filled_into p between).buffer lines speed pad buffer
  unfolding pad_outcome delivered put
  in_a_row (finished f) small room = go (leb (length f.bytes) (length between)) room
    where
      full : Outcome (Result ℕ Refusal)
      full = record { answer = Ok (length f.bytes); buffer = f.bytes ++ drop (length f.bytes) between }

      kept : Outcome (Result ℕ Refusal)
      kept = keeping (Err NoRoom) between

      go : (t : Bool) → RoomBetween (filled_answer f.delay f.star (pick t full kept).answer)
          → delivered (padded (finished f) lines speed pad) buffer
          ≡ and_then (filled_answer f.delay f.star (pick t full kept).answer) (pick t full kept).buffer lines speed pad buffer
      go true h = rw (take-append_seam f.bytes (drop (length f.bytes) between), le-leb f.delay 99999 small)
      go false h = absurd (h refl)
  in_a_row (refused r) small room = refl

two_in_a_row : TwoInARow
unfolding send_at_outcome fill_outcome
two_in_a_row cmd row column back up between lines speed pad buffer room =
    in_a_row lines speed pad between buffer (prepared_at cmd row column back up) (prepared-small cmd row column back up) room

answer-small : (p : Prepared) (between : List ℕ) (f : FinishedCommand) → SmallDelay p → (filled_into p between).answer ≡ Ok f → f.delay ≤ 99999
answer-small (finished g) between f small e = go (put g.bytes (length g.bytes) between).answer e
  where
    go : (w : Result ℕ Refusal) → filled_answer g.delay g.star w ≡ Ok f → f.delay ≤ 99999
    go (Ok n) e = let same : record { delay = g.delay; star = g.star; count = n } ≡ f = cc in rw (← same) small
    go (Err r) e = let z : ◌≡◌ {A = ℕ} 0 1 = cc in absurd (omega arith)
answer-small (refused r) between f small e = let z : ◌≡◌ {A = ℕ} 0 1 = cc in absurd (omega arith)

delay_taken : DelayTaken
unfolding fill_outcome
delay_taken cmd row column back up between f e = answer-small (prepared_at cmd row column back up) between f (prepared-small cmd row column back up) e

pub halves : Halves
halves = record { two_in_a_row = two_in_a_row; delay_taken = delay_taken }
