-- What is delivered: a refusal keeps the buffer; bytes and pads go out where they fit, and are 9 where they do not. Assumes nothing.
use Rattle.std.specs.Prelude.{Result, Ok, Err}
use mathlib.Core.Path.{◌≡◌, refl, ap, ◌∙◌}
use mathlib.Core.List.{List, ◌++◌}
use Prim.Native.Nat.{ℕ, ◌+◌, ◌≤◌, ◌<◌}
use native.Mathlib.Omega.{arith}
use lib.ListN.{length, drop, replicate, length-append, length-replicate}
use Rattle.spec.specs.Answers.{Outcome}
use Rattle.spec.specs.Sending.{Outgoing, sends, stops, delivered}
use Rattle.laws.proofs.Buffers.{put-fits, put_full}
use Rattle.spec.specs.declared.Refusal.{Refusal}
use Rattle.spec.specs.declared.Refusal.TheVariants.{NoRoom}

-- An answer and the buffer afterwards are an outcome's.
abbrev pub Gives : Outcome (Result ℕ Refusal) → Result ℕ Refusal → List ℕ → Type 0
Gives x r o = (r ≡ x.answer) × (o ≡ x.buffer)

pub stopped : (x : Outgoing) (r : Refusal) (out : List ℕ) → x ≡ stops r → Gives (delivered x out) (Err r) out
unfolding delivered
stopped x r out e = rw e (refl, refl)

pub padded-length : (l : List ℕ) (n pad : ℕ) → length (l ++ replicate n pad) ≡ length l + n
padded-length l n pad = length-append l (replicate n pad) ∙ ap (λ (x : ℕ). length l + x) (length-replicate n pad)

module _ (l out : List ℕ) (n pads pad : ℕ) (e : length l ≡ n) where
  pub too_long : length out < n + pads → Gives (delivered (sends (l ++ replicate pads pad)) out) (Err NoRoom) out
  unfolding delivered
  too_long h =
      let k = padded-length l pads pad in
      rw (put_full (l ++ replicate pads pad) (length (l ++ replicate pads pad)) out (omega arith)) (refl, refl)

  pub fits : n + pads ≤ length out → (o : List ℕ) → o ≡ l ++ replicate pads pad ++ drop (n + pads) out
      → Gives (delivered (sends (l ++ replicate pads pad)) out) (Ok (n + pads)) o
  unfolding delivered
  fits h o eo =
      let k = padded-length l pads pad in
      rw (put-fits (l ++ replicate pads pad) (length (l ++ replicate pads pad)) out (omega arith), k, e) (refl, eo)
