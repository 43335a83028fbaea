-- What the joined text has at a place, by the raw bytes there.
-- Assumes nothing.
use Prim.Native.Nat.{ℕ, ◌+◌, ◌≤◌, ◌<◌}
use mathlib.Core.Path.{◌≡◌, refl, sym, ◌∙◌}
use mathlib.Core.Bool.{Bool, true, false}
use mathlib.Core.List.{List}
use native.Mathlib.Omega.{arith}
use borrow.Author.Tests.{eqb-true, eqb-false, ltb-true, ltb-false}
use lib.Dec.{eqb, ltb}
use lib.ListN.{length, get_or, get_or-eq_default}
use Rattle.spec.specs.Lines.{byte, text_at}
use Rattle.laws.proofs.TextSteps as Laws

-- A backslash (92) and a newline (10) that vanish together.
abbrev pub Pair : List ℕ → ℕ → Type 0
Pair s i = (get_or s i 0 ≡ 92) × (get_or s (i + 1) 0 ≡ 10)

-- Nothing any more, a pair, or a byte.
pub data Look (s : List ℕ) (i : ℕ) : Type 0 where
  over : length s ≤ i → Look s i
  pair : i + 1 < length s → Pair s i → text_at s i ≡ text_at s (i + 1 + 1) → Look s i
  one : i < length s → (Pair s i → ⊥) → text_at s i ≡ byte (get_or s i 0) (i + 1) (text_at s (i + 1)) → Look s i

pub look : (s : List ℕ) (i : ℕ) → Look s i
look s i = inside (ltb i (length s)) refl
  where
    newline : i + 1 < length s → get_or s i 0 ≡ 92 → (x : Bool) → eqb (get_or s (i + 1) 0) 10 ≡ x → Look s i
    newline l e true x = pair l (e, eqb-true _ _ x) (Laws.text_pair s i l e (eqb-true _ _ x))
    newline l e false x = one (omega arith) (λ p. eqb-false _ _ x p.1) (Laws.text-slash s i l (eqb-false _ _ x))

    last : i < length s → get_or s i 0 ≡ 92 → (x : Bool) → ltb (i + 1) (length s) ≡ x → Look s i
    last l e true x = newline (ltb-true _ _ x) e (eqb (get_or s (i + 1) 0) 10) refl
    last l e false x =
        let m = ltb-false _ _ x in
        one l (λ p. let z : ◌≡◌ {A = ℕ} 0 10 = sym (get_or-eq_default s 0 m) ∙ p.1 in absurd (omega arith)) (Laws.text_last s i (omega arith))

    slash : i < length s → (x : Bool) → eqb (get_or s i 0) 92 ≡ x → Look s i
    slash l true x = last l (eqb-true _ _ x) (ltb (i + 1) (length s)) refl
    slash l false x = one l (λ p. eqb-false _ _ x p.0) (Laws.text-byte s i l (eqb-false _ _ x))

    inside : (x : Bool) → ltb i (length s) ≡ x → Look s i
    inside true x = slash (ltb-true _ _ x) (eqb (get_or s i 0) 92) refl
    inside false x = over (ltb-false _ _ x)
