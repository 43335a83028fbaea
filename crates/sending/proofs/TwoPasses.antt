-- The pass beside the buffer, and the pass that writes. Assumes nothing.
use mathlib.Core.Path.{◌≡◌, sym, ap, ◌∙◌}
use mathlib.Core.List.{List, ◌++◌}
use Prim.Native.Nat.{ℕ, ◌≤◌}
use native.Mathlib.Omega.{arith}
use lib.ListN.{length, drop, replicate}
use lib.Seq.{sets}
use Rattle.spec.specs.Position.{Body, body, fault}
use Rattle.spec.specs.Sending.{sends, stops}
use Rattle.spec.specs.declared.Refusal.{Refusal}
use Rattle.compensations.specs.Appending.{BodyFilledIn}
use Rattle.std.specs.Prelude.{Option, Some, None, Result, Ok, Err}
use Rattle.sending.specs.Steps.{with_pads}
use Rattle.sending.proofs.LentTail.{set_front}

module _ (t : Body) (pads pad : ℕ) where
  pub sends-fault : (r : Refusal) → t ≡ fault r → with_pads t pads pad ≡ stops r
  sends-fault r e = rw e

  pub sends-body : (l : List ℕ) → t ≡ body l → with_pads t pads pad ≡ sends (l ++ replicate pads pad)
  sends-body l e = rw e

-- What was measured to fit is written in the second pass.
pub written : (t : Body) (l : List ℕ) (n : ℕ) (out : List ℕ) (r : Result (Option ℕ) Refusal) (o : List ℕ) → t ≡ body l → n ≡ length l → n ≤ length out
    → BodyFilledIn t (length out) out r o → o ≡ l ++ drop n out
written t l n out (Ok (Some end)) o e k h f =
    let same : f.0 ≡ l = let b : body f.0 ≡ body l = sym f.1 ∙ e in cc in
    f.4 ∙ ap (sets out 0) same ∙ set_front l out n (sym k) h
written t l n out (Ok None) o e k h f =
    let same : f.0 ≡ l = let b : body f.0 ≡ body l = sym f.1 ∙ e in cc in
    absurd (omega (arith, f.2, ap length same))
written t l n out (Err r) o e k h f = let z : ◌≡◌ {A = ℕ} 0 1 = let b : body l ≡ fault r = sym e ∙ f in cc in absurd (omega arith)
