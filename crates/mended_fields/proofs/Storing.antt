-- Bytes stored one part after another: what is stored, and what is left.
-- Assumes nothing.
use Prim.Native.Nat.{ℕ, ◌+◌, ◌≤◌}
use mathlib.Core.Path.{◌≡◌, refl, ◌∙◌, ap, sym}
use mathlib.Core.List.{List, [], ◌∷◌, ◌++◌, append_assoc, append-nil}
use native.Mathlib.Omega.{arith}
use lib.ListN.{length, set, length-append}
use Rattle.laws.proofs.Stores.{stored-append}
use Rattle.mended_fields.specs.Parts.{Put}

pub put_then : (x y out : List ℕ) (at : ℕ) (out₁ : List ℕ) (n : ℕ) (out₂ : List ℕ) (m : ℕ) → Put x out at out₁ n → Put y out₁ (at + n) out₂ m
    → Put (x ++ y) out at out₂ (n + m)
put_then x y out at out₁ n out₂ m p q = record {
  count = omega (arith, p.count, q.count, length-append x y);
  stored = q.stored ∙ rw (p.count, p.stored) (sym (stored-append out at x y));
}

pub put_one : (b : ℕ) (out : List ℕ) (at : ℕ) (out' : List ℕ) → out' ≡ set out at b → Put (b ∷ []) out at out' 1
put_one b out at out' e = record { count = refl; stored = e }

pub put_nothing : (out : List ℕ) (at : ℕ) → Put [] out at out 0
put_nothing out at = record { count = refl; stored = refl }

-- Of bytes that are stored from a place on, n are in the buffer, and the rest is left.
pub record Storing (all out₀ : List ℕ) (to : ℕ) (out : List ℕ) (n : ℕ) (rest : List ℕ) : Type 0 where
  pub done : List ℕ
  pub whole : all ≡ done ++ rest
  pub put : Put done out₀ to out n
  pub kept : length out ≡ length out₀

pub storing_none : (all out : List ℕ) (to : ℕ) → Storing all out to out 0 all
storing_none all out to = record { done = []; whole = refl; put = put_nothing out to; kept = refl }

module _ (all out₀ : List ℕ) (to : ℕ) (out : List ℕ) (n : ℕ) (rest : List ℕ) (q : Storing all out₀ to out n rest) where
  pub storing_bound : n + length rest ≡ length all
  storing_bound = omega (arith, ap length q.whole, q.put.count, length-append q.done rest)

  pub storing_more : (x rest' out' : List ℕ) (at m : ℕ) → rest ≡ x ++ rest' → Put x out at out' m → n + m ≤ length all
  storing_more x rest' out' at m e p = omega (arith, storing_bound, ap length e, length-append x rest', p.count)

  pub storing_on : (x rest' out' : List ℕ) (m : ℕ) → rest ≡ x ++ rest' → Put x out (to + n) out' m → length out' ≡ length out
      → Storing all out₀ to out' (n + m) rest'
  storing_on x rest' out' m e p k = record {
    done = q.done ++ x;
    whole = q.whole ∙ ap (λ (l : List ℕ). q.done ++ l) e ∙ sym (append_assoc q.done x rest');
    put = put_then q.done x out₀ to out n out' m q.put p;
    kept = k ∙ q.kept;
  }

  pub storing_done : rest ≡ [] → Put all out₀ to out n
  storing_done e =
      let w : all ≡ q.done = q.whole ∙ rw e (append-nil q.done) in
      rw w q.put

  pub storing_last : (b : ℕ) (out' : List ℕ) → rest ≡ b ∷ [] → out' ≡ set out (to + n) b → Put all out₀ to out' (n + 1)
  storing_last b out' e f = rw (q.whole, e) (put_then q.done (b ∷ []) out₀ to out n out' 1 q.put (put_one b out (to + n) out' f))
