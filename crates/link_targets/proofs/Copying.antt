-- A name copied to a buffer byte by byte: what is stored, and what is left.
-- Assumes nothing.
use Prim.Native.Nat.{ℕ, suc, ◌+◌, ◌≤◌, ◌<◌}
use mathlib.Core.Path.{◌≡◌, ◌∙◌, ap, sym}
use mathlib.Core.List.{List, [], ◌∷◌}
use native.Mathlib.Omega.{arith}
use native.Mathlib.Nat.{add-zero}
use mathlib.Core.Logic.{◌⊎◌}
use lib.ListN.{length, take, drop, set}
use lib.Seq.{sets, sets-eq, length-sets, take_at}
use Rattle.spec.specs.Lines.{end, byte, text_at, line_text, first_name}
use Rattle.spec.specs.Lists.{upto}
use Rattle.laws.proofs.TextSteps as Laws
use Rattle.link_targets.specs.Targets.{name_at}

-- `k` bytes of the name at `at` are in the buffer, and those from the place `i` on are left.
pub record Copying (s : List ℕ) (at : ℕ) (out₀ : List ℕ) (to : ℕ) (out : List ℕ) (i k : ℕ) : Type 0 where
  pub few : k ≤ i
  pub count : length (name_at s at) ≡ k + length (name_at s i)
  pub bytes : sets out₀ to (name_at s at) ≡ sets out (to + k) (name_at s i)

pub copying_none : (s : List ℕ) (at : ℕ) (out : List ℕ) (to : ℕ) → Copying s at out to out at 0
copying_none s at out to = record {
  few = omega arith;
  count = omega arith;
  bytes = rw add-zero;
}

module _ (s : List ℕ) (at : ℕ) (out₀ : List ℕ) (to : ℕ) (out : List ℕ) (i k : ℕ) (q : Copying s at out₀ to out i k) where
  pub copying_on : (b n : ℕ) (stored : List ℕ) → name_at s i ≡ b ∷ name_at s n → i < n → stored ≡ set out (to + k) b → Copying s at out₀ to stored n (k + 1)
  copying_on b n stored e h f =
      let next : suc (to + k) ≡ to + (k + 1) = omega arith in
      record {
        few = omega (arith, q.few);
        count = omega (arith, q.count, ap length e);
        bytes =
            q.bytes ∙ ap (sets out (to + k)) e ∙ ap (λ (j : ℕ). sets (set out (to + k) b) j (name_at s n)) next
            ∙ ap (λ (l : List ℕ). sets l (to + (k + 1)) (name_at s n)) (sym f);
      }

  pub copying_done : name_at s i ≡ [] → (k ≡ length (name_at s at)) × (out ≡ sets out₀ to (name_at s at))
  copying_done e = (omega (arith, q.count, ap length e), sym (q.bytes ∙ ap (sets out (to + k)) e))

-- ---- the name at a place, byte by byte

module _ (db : List ℕ) (at b n : ℕ) (e : text_at db at ≡ byte b n (text_at db n)) where
  pub name-stops : (b ≡ 10) ⊎ ((b ≡ 58) ⊎ (b ≡ 124)) → name_at db at ≡ []
  unfolding name_at
  name-stops h = rw e (Laws.name-end _ _ _ h)

  pub name-goes_on : ((b ≡ 10) ⊎ ((b ≡ 58) ⊎ (b ≡ 124)) → ⊥) → name_at db at ≡ b ∷ name_at db n
  unfolding name_at
  name-goes_on h = rw e (Laws.name_on _ _ _ h)

pub name-ends : (db : List ℕ) (at : ℕ) → text_at db at ≡ end → name_at db at ≡ []
unfolding name_at first_name upto line_text
name-ends db at e = rw e

-- ---- a copy read back

pub read_back : (w room copy : List ℕ) (n : ℕ) → copy ≡ sets room 0 w → n ≡ length w → n ≤ length room → take n copy ≡ w
read_back w room copy n c e h =
    let m : 0 + length w ≤ length room = omega arith in
    rw (c, sets-eq w room 0 m) (take_at w (drop (0 + length w) room) n (sym e))

pub part_length : (w room copy : List ℕ) (n : ℕ) → copy ≡ sets room 0 w → n ≡ length w → n ≤ length room → n ≡ length (take n copy)
part_length w room copy n c e h = e ∙ sym (ap length (read_back w room copy n c e h))

pub copy_length : (w room copy : List ℕ) → copy ≡ sets room 0 w → length copy ≡ length room
copy_length w room copy c = ap length c ∙ length-sets room 0 w
