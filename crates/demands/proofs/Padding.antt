-- Demand 2's padding law holds of what Send, Send at and its second half write and report. Assumes nothing.
use Rattle.std.specs.Prelude.{Result, Ok, Err}
use mathlib.Core.Path.{◌≡◌, refl, sym, ap, ◌∙◌}
use mathlib.Core.Bool.{Bool, true, false}
use mathlib.Core.List.{List, ◌++◌}
use Prim.Native.Nat.{ℕ, ◌+◌}
use native.Mathlib.Omega.{arith}
use lib.Dec.{leb}
use lib.ListN.{length, drop, replicate, length-append, length-replicate}
use Rattle.spec.specs.Choice.{pick}
use Rattle.spec.specs.Padding.{Prefix, Split, prefix_of, delay_for, pad_count}
use Rattle.spec.specs.Position.{Body, body, fault, fill_in}
use Rattle.spec.specs.Answers.{Outcome, put, keeping}
use Rattle.spec.specs.Sending.{
  Finished,
  Prepared,
  finished,
  refused,
  copied,
  with_bytes,
  filled_in,
  prepared,
  prepared_at,
  sends,
  stops,
  pads_of,
  padded,
  good_speed,
  good_place,
  delivered,
  send_outcome,
  send_at_outcome,
  pad_outcome,
}
use Rattle.laws.proofs.PaddingLaws.{pads_last, pads_fewest, pads_no_delay, pads_no_speed}
use Rattle.spec.specs.declared.Refusal.{Refusal}
use Rattle.spec.specs.declared.Refusal.TheVariants.{NoRoom, OutOfRange}
use Rattle.demands.specs.Padding.{PaddingLaw, Padded, PaddingDemand}

padding_law : (delay speed : ℕ) → PaddingLaw delay speed (pad_count delay speed)
padding_law d s =
    record { lasts = pads_last d s; one_fewer = pads_fewest d s; no_delay = pads_no_delay d s; no_speed = pads_no_speed d s }

-- ---- what is delivered and counted is all that goes out; a refusal is no count

not_counted : {A : Type 0} (r : Refusal) (n : ℕ) → Err r ≡ Ok n → A
not_counted r n e = let z : ◌≡◌ {A = ℕ} 0 1 = cc in absurd (omega arith)

not_stopped : {A : Type 0} (r : Refusal) (buffer : List ℕ) (n : ℕ) → (delivered (stops r) buffer).answer ≡ Ok n → A
unfolding delivered
not_stopped r buffer n e = not_counted r n e

abbrev AllOut : List ℕ → List ℕ → ℕ → Outcome (Result ℕ Refusal) → Type 0
AllOut l buffer n o = (length l ≡ n) × (o.buffer ≡ l ++ drop n buffer)

all_out : (l buffer : List ℕ) (n : ℕ) → (delivered (sends l) buffer).answer ≡ Ok n → AllOut l buffer n (delivered (sends l) buffer)
unfolding delivered put
all_out l buffer n = go (leb (length l) (length buffer))
  where
    whole : Outcome (Result ℕ Refusal)
    whole = record { answer = Ok (length l); buffer = l ++ drop (length l) buffer }

    go : (t : Bool) → (pick t whole (keeping (Err NoRoom) buffer)).answer ≡ Ok n → AllOut l buffer n (pick t whole (keeping (Err NoRoom) buffer))
    go true e = let same : length l ≡ n = cc in (same, rw same)
    go false e = not_counted NoRoom n e

module _ (lines speed pad : ℕ) (buffer : List ℕ) (n : ℕ) where
  -- Finished bytes are padded and counted, or 12.
  padded-by : (f : Finished) → (delivered (padded (finished f) lines speed pad) buffer).answer ≡ Ok n
      → Padded f.delay f.star f.bytes lines speed pad buffer (delivered (padded (finished f) lines speed pad) buffer) n
  unfolding pads_of
  padded-by f = by_speed (good_speed lines speed)
    where
      pads : ℕ
      pads = pad_count (delay_for f.delay f.star lines) speed

      sent : List ℕ
      sent = f.bytes ++ replicate pads pad

      by_speed : (t : Bool) → (delivered (pick t (sends sent) (stops OutOfRange)) buffer).answer ≡ Ok n
          → Padded f.delay f.star f.bytes lines speed pad buffer (delivered (pick t (sends sent) (stops OutOfRange)) buffer) n
      by_speed true h =
          let out = all_out sent buffer n h in
          record {
            pads = pads;
            law = padding_law (delay_for f.delay f.star lines) speed;
            counted = sym out.0 ∙ length-append f.bytes (replicate pads pad) ∙ ap (λ (k : ℕ). length f.bytes + k) (length-replicate pads pad);
            written = out.1;
          }
      by_speed false h = not_stopped OutOfRange buffer n h

  pad-pads : (delay : ℕ) (star : Bool) (bytes : List ℕ) → (pad_outcome delay star bytes lines speed pad buffer).answer ≡ Ok n
      → Padded delay star bytes lines speed pad buffer (pad_outcome delay star bytes lines speed pad buffer) n
  unfolding pad_outcome
  pad-pads delay star bytes = by-delay (leb delay 99999)
    where
      apart : Finished
      apart = record { delay = delay; star = star; bytes = bytes }

      by-delay : (t : Bool) → (delivered (padded (pick t (finished apart) (refused OutOfRange)) lines speed pad) buffer).answer ≡ Ok n
          → Padded delay star bytes lines speed pad buffer (delivered (padded (pick t (finished apart) (refused OutOfRange)) lines speed pad) buffer) n
      by-delay true h = padded-by apart h
      by-delay false h = not_stopped OutOfRange buffer n h

  module _ (cmd : List ℕ) where
    abbrev Sent : Prepared → Type 0
    Sent x = (delivered (padded x lines speed pad) buffer).answer ≡ Ok n
        → (p : Split)
        × (prefix_of cmd ≡ Prefix.split p)
        × Padded p.delay p.star p.body lines speed pad buffer (delivered (padded x lines speed pad) buffer) n

    send-pads : Sent (prepared cmd)
    unfolding prepared
    send-pads = by-prefix (prefix_of cmd) refl
      where
        by-prefix : (x : Prefix) → prefix_of cmd ≡ x → Sent (copied x)
        by-prefix (Prefix.split p) e h = (p, e, padded-by (record { delay = p.delay; star = p.star; bytes = p.body }) h)
        by-prefix (Prefix.refused r) e h = not_stopped r buffer n h

    module _ (row column : ℕ) (back up : List ℕ) where
      abbrev SentAt : Prepared → Type 0
      SentAt x = (delivered (padded x lines speed pad) buffer).answer ≡ Ok n
          → (p : Split)
          × (l : List ℕ)
          × (prefix_of cmd ≡ Prefix.split p)
          × (fill_in p.body row column back up ≡ body l)
          × Padded p.delay p.star l lines speed pad buffer (delivered (padded x lines speed pad) buffer) n

      send-at-pads : SentAt (prepared_at cmd row column back up)
      unfolding prepared_at
      send-at-pads = by_place (good_place row column)
        where
          by-body : (p : Split) (t : Body) → prefix_of cmd ≡ Prefix.split p → fill_in p.body row column back up ≡ t → SentAt (with_bytes p t)
          by-body p (body l) e f h = (p, l, e, f, padded-by (record { delay = p.delay; star = p.star; bytes = l }) h)
          by-body p (fault r) e f h = not_stopped r buffer n h

          by-prefix : (x : Prefix) → prefix_of cmd ≡ x → SentAt (filled_in x row column back up)
          by-prefix (Prefix.split p) e h = by-body p (fill_in p.body row column back up) e refl h
          by-prefix (Prefix.refused r) e h = not_stopped r buffer n h

          by_place : (t : Bool) → SentAt (pick t (filled_in (prefix_of cmd) row column back up) (refused OutOfRange))
          by_place true h = by-prefix (prefix_of cmd) refl h
          by_place false h = not_stopped OutOfRange buffer n h

pub padding_demand : PaddingDemand
unfolding send_outcome send_at_outcome
padding_demand = record {
  send = λ cmd lines speed pad buffer n h. send-pads lines speed pad buffer n cmd h;
  send_at = λ cmd row column back up lines speed pad buffer n h. send-at-pads lines speed pad buffer n cmd row column back up h;
  pad = λ delay star bytes lines speed pad buffer n h. pad-pads lines speed pad buffer n delay star bytes h;
}
