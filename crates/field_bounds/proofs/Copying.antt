-- A text copied to a buffer byte by byte: what is stored, and what is left.
-- Assumes nothing.
use Prim.Native.Nat.{ℕ, suc, ◌+◌, ◌≤◌, ◌<◌}
use mathlib.Core.Path.{◌≡◌, refl, ◌∙◌, ap, sym}
use mathlib.Core.List.{List, [], ◌∷◌}
use native.Mathlib.Omega.{arith}
use native.Mathlib.Nat.{add-zero}
use lib.ListN.{length, set, length-set}
use lib.Seq.{sets}
use Rattle.field_bounds.specs.Answers.{field_at}

-- `k` bytes of the field at `at` are in the buffer, and those from the place `i` on are left.
pub record Copying (s : List ℕ) (at : ℕ) (out₀ : List ℕ) (to : ℕ) (out : List ℕ) (i k : ℕ) : Type 0 where
  pub few : k ≤ i
  pub count : length (field_at s at) ≡ k + length (field_at s i)
  pub bytes : sets out₀ to (field_at s at) ≡ sets out (to + k) (field_at s i)
  pub kept : length out ≡ length out₀

pub copying_none : (s : List ℕ) (at : ℕ) (out : List ℕ) (to : ℕ) → Copying s at out to out at 0
copying_none s at out to = record {
  few = omega arith;
  count = omega arith;
  bytes = rw add-zero;
  kept = refl;
}

module _ (s : List ℕ) (at : ℕ) (out₀ : List ℕ) (to : ℕ) (out : List ℕ) (i k : ℕ) (q : Copying s at out₀ to out i k) where
  pub copying_on : (b n : ℕ) (stored : List ℕ) → field_at s i ≡ b ∷ field_at s n → i < n → stored ≡ set out (to + k) b → Copying s at out₀ to stored n (k + 1)
  copying_on b n stored e h f =
      let next : suc (to + k) ≡ to + (k + 1) = omega arith in
      record {
        few = omega (arith, q.few);
        count = omega (arith, q.count, ap length e);
        bytes = q.bytes ∙ ap (sets out (to + k)) e ∙ ap (λ (j : ℕ). sets (set out (to + k) b) j (field_at s n)) next
            ∙ ap (λ (l : List ℕ). sets l (to + (k + 1)) (field_at s n)) (sym f);
        kept = ap length f ∙ simp length-set q.kept;
      }

  pub copying_done : field_at s i ≡ [] → (k ≡ length (field_at s at)) × (out ≡ sets out₀ to (field_at s at))
  copying_done e = (omega (arith, q.count, ap length e), sym (q.bytes ∙ ap (sets out (to + k)) e))
