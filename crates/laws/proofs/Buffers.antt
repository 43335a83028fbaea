-- What a call with output does to the lent buffer.
-- Assumes nothing.
use Rattle.std.specs.Prelude.{Result, Ok, Err}
use Prim.Native.Nat.{ℕ, ◌≤◌, ◌<◌}
use mathlib.Core.Path.{◌≡◌, refl, ap}
use mathlib.Core.Bool.{Bool, true, false}
use mathlib.Core.List.{List, ◌++◌}
use native.Mathlib.Omega.{arith}
use borrow.Author.Tests.{le-leb, lt-leb}
use lib.Dec.{leb}
use lib.ListN.{length, drop}
use Rattle.spec.specs.Choice.{pick}
use Rattle.spec.specs.Refusals.{refusal_number}
use Rattle.spec.specs.declared.Refusal.{Refusal}
use Rattle.spec.specs.declared.Refusal.TheVariants.{NoRoom}
use Rattle.spec.specs.Answers.{Outcome, put}

-- A refusal with another number is not for want of room.
pub not_nine : (r : Refusal) → (refusal_number r ≡ 9 → ⊥) → r ≡ NoRoom → ⊥
not_nine r h e = h (ap refusal_number e)

module _ (bytes : List ℕ) (n : ℕ) (buffer : List ℕ) where
  pub put-fits : length bytes ≤ length buffer → put bytes n buffer ≡ record { answer = Ok n; buffer = bytes ++ drop (length bytes) buffer }
  unfolding put
  put-fits h = rw (le-leb (length bytes) (length buffer) h)

  pub put_full : length buffer < length bytes → put bytes n buffer ≡ record { answer = Err NoRoom; buffer = buffer }
  unfolding put
  put_full h = rw (lt-leb (length bytes) (length buffer) h)

  abbrev full : Outcome (Result ℕ Refusal)
  full = record { answer = Ok n; buffer = bytes ++ drop (length bytes) buffer }

  abbrev kept : Outcome (Result ℕ Refusal)
  kept = record { answer = Err NoRoom; buffer = buffer }

  -- A refusal keeps every byte.
  pub put_refused : (r : Refusal) → (put bytes n buffer).answer ≡ Err r → (put bytes n buffer).buffer ≡ buffer
  unfolding put
  put_refused r = go (leb (length bytes) (length buffer))
    where
      go : (x : Bool) → (pick x full kept).answer ≡ Err r → (pick x full kept).buffer ≡ buffer
      go true e = let z : ◌≡◌ {A = ℕ} 0 1 = cc in absurd (omega arith)
      go false e = refl
