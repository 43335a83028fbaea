-- What goes out, by what the place, the prefix and the speed are. Assumes nothing.
use mathlib.Core.Path.{◌≡◌, refl, sym, ap, subst}
use mathlib.Core.Bool.{Bool, true, false}
use mathlib.Core.List.{List, ◌++◌, append-nil}
use Prim.Native.Nat.{ℕ, ◌≤◌, ◌<◌}
use borrow.Author.Tests.{le-leb, lt-leb}
use lib.ListN.{drop, replicate}
use Rattle.spec.specs.Choice.{pick}
use Rattle.spec.specs.Padding.{Prefix, Split, prefix_of, delay_for, pad_count}
use Rattle.spec.specs.Position as Position
use Rattle.spec.specs.Position.{body, fault, fill_in}
use Rattle.spec.specs.Sending.{
  refused,
  with_bytes,
  filled_in,
  prepared,
  prepared_at,
  sends,
  stops,
  pads_of,
  padded,
  good_speed,
  good_place,
  delivered,
  filled_answer,
  filled_into,
  handed,
}
use Rattle.laws.proofs.PaddingLaws.{Splits, delay-below}
use Rattle.position.proofs.FillSteps.{part, part_is}
use Rattle.padding.specs.Reading.{PrefixRead}
use Rattle.padding.specs.declared.Prefix.{Prefix as ReadPrefix}
use Rattle.sending.specs.Steps.{CommandJudged, apart, fault_or, with_pads}
use Rattle.std.specs.Prelude.{Ok, Err}
use Rattle.spec.specs.declared.Refusal.{Refusal}
use Rattle.spec.specs.declared.Refusal.TheVariants.{OutOfRange}

pub delay-small : (cmd : List ℕ) (p : ReadPrefix) → PrefixRead cmd (Ok p) → p.delay < 100000
delay-small cmd p r = subst (Splits (λ (q : Split). q.delay < 100000)) r.0 (delay-below cmd)

-- ---- Send

module _ (cmd : List ℕ) (lines speed pad : ℕ) where
  pub send-refused : (r : Refusal) → prefix_of cmd ≡ Prefix.refused r → padded (prepared cmd) lines speed pad ≡ stops r
  unfolding prepared
  send-refused r e = rw e

  pub send-split : (delay : ℕ) (star : Bool) (from : ℕ) → prefix_of cmd ≡ Prefix.split (record { delay = delay; star = star; body = drop from cmd })
      → padded (prepared cmd) lines speed pad ≡ padded (apart delay star (part cmd from)) lines speed pad
  unfolding prepared
  send-split delay star from e = rw (e, part_is cmd from)

-- ---- finished bytes, by the speed; and those that are handed to the second half, by their delay

module _ (delay : ℕ) (star : Bool) (bytes : List ℕ) (lines speed pad : ℕ) where
  pub apart_slow : good_speed lines speed ≡ false → padded (apart delay star bytes) lines speed pad ≡ stops OutOfRange
  apart_slow e = rw e

  pub apart_fast : good_speed lines speed ≡ true
      → padded (apart delay star bytes) lines speed pad ≡ sends (bytes ++ replicate (pad_count (delay_for delay star lines) speed) pad)
  unfolding pads_of
  apart_fast e = rw e

  pub handed_long : 99999 < delay → padded (handed delay star bytes) lines speed pad ≡ stops OutOfRange
  handed_long h = rw (lt-leb delay 99999 h)

  pub handed-short : delay ≤ 99999 → handed delay star bytes ≡ apart delay star bytes
  handed-short h = rw (le-leb delay 99999 h)

-- ---- a body that is filled in: at a good speed, at another one, and without pads

body_fast : (p : Split) (t : Position.Body) (lines speed pad : ℕ) → good_speed lines speed ≡ true
    → padded (with_bytes p t) lines speed pad ≡ with_pads t (pad_count (delay_for p.delay p.star lines) speed) pad
unfolding pads_of
body_fast p (body l) lines speed pad e = rw e
body_fast p (fault r) lines speed pad e = refl

body_slow : (p : Split) (t : Position.Body) (lines speed pad : ℕ) → good_speed lines speed ≡ false
    → padded (with_bytes p t) lines speed pad ≡ stops (fault_or t)
body_slow p (body l) lines speed pad e = rw e
body_slow p (fault r) lines speed pad e = refl

body-alone : (p : Split) (t : Position.Body) (out : List ℕ)
    → filled_into (with_bytes p t) out
    ≡ record {
      answer = filled_answer p.delay p.star (delivered (with_pads t 0 0) out).answer;
      buffer = (delivered (with_pads t 0 0) out).buffer;
    }
unfolding delivered
body-alone p (body l) out = rw (append-nil l)
body-alone p (fault r) out = refl

-- ---- Send at and its first half, by what the command was judged to be

module _ (cmd : List ℕ) (row column : ℕ) (back up : List ℕ) where
  pub at-refused : (r : Refusal) → CommandJudged cmd (good_place row column) (Err r) → prepared_at cmd row column back up ≡ refused r
  unfolding prepared_at
  at-refused r = go (good_place row column)
    where
      go : (t : Bool) → CommandJudged cmd t (Err r) → pick t (filled_in (prefix_of cmd) row column back up) (refused OutOfRange) ≡ refused r
      go true j = rw j
      go false j = ap refused (sym j)

  module _ (p : ReadPrefix) (j : CommandJudged cmd (good_place row column) (Ok p)) where
    abbrev Filled : Position.Body
    Filled = fill_in (part cmd p.from) row column back up

    abbrev parted : Split
    parted = record { delay = p.delay; star = p.star; body = drop p.from cmd }

    at_split : prepared_at cmd row column back up ≡ with_bytes parted Filled
    unfolding prepared_at
    at_split = rw (j.0, j.1, part_is cmd p.from)

    pub at_slow : (lines speed pad : ℕ) → good_speed lines speed ≡ false
        → padded (prepared_at cmd row column back up) lines speed pad ≡ stops (fault_or Filled)
    at_slow lines speed pad s = rw at_split (body_slow parted Filled lines speed pad s)

    pub at_fast : (lines speed pad : ℕ) → good_speed lines speed ≡ true
        → padded (prepared_at cmd row column back up) lines speed pad ≡ with_pads Filled (pad_count (delay_for p.delay p.star lines) speed) pad
    at_fast lines speed pad s = rw at_split (body_fast parted Filled lines speed pad s)

    pub at-alone : (out : List ℕ) → filled_into (prepared_at cmd row column back up) out
        ≡ record { answer = filled_answer p.delay p.star (delivered (with_pads Filled 0 0) out).answer; buffer = (delivered (with_pads Filled 0 0) out).buffer }
    at-alone out = rw at_split (body-alone parted Filled out)
