-- The digits at the start of a text, and what stands behind them. Assumes nothing.
use mathlib.Core.Path.{◌≡◌, refl, ap}
use mathlib.Core.Bool.{Bool, true, false}
use mathlib.Core.List.{List, [], ◌∷◌, ◌++◌}
use Prim.Native.Nat.{ℕ}
use lib.ListN.{length, drop}
use Rattle.spec.specs.Choice.{pick}
use Rattle.spec.specs.Digits.{is_digit, are_digits, leading, trailing}

module _ (base : ℕ) where
  pub leading_digits : (s : List ℕ) → are_digits base (leading base s) ≡ true
  unfolding leading are_digits
  leading_digits [] = refl
  leading_digits (c ∷ s) = go (is_digit base c) refl (leading_digits s)
    where
      go : (t : Bool) → is_digit base c ≡ t → are_digits base (leading base s) ≡ true → are_digits base (pick t (c ∷ leading base s) []) ≡ true
      go true e h = rw (e, h)
      go false e h = refl

  pub leading-trailing : (s : List ℕ) → leading base s ++ trailing base s ≡ s
  unfolding leading trailing
  leading-trailing [] = refl
  leading-trailing (c ∷ s) = go (is_digit base c) (leading-trailing s)
    where
      go : (t : Bool) → leading base s ++ trailing base s ≡ s → pick t (c ∷ leading base s) [] ++ pick t (trailing base s) (c ∷ s) ≡ c ∷ s
      go true h = ap (λ (l : List ℕ). c ∷ l) h
      go false h = refl

  pub trailing-drop : (s : List ℕ) → trailing base s ≡ drop (length (leading base s)) s
  unfolding leading trailing
  trailing-drop [] = refl
  trailing-drop (c ∷ s) = go (is_digit base c) (trailing-drop s)
    where
      go : (t : Bool) → trailing base s ≡ drop (length (leading base s)) s → pick t (trailing base s) (c ∷ s) ≡ drop (length (pick t (c ∷ leading base s) []))
          (c ∷ s)
      go true h = h
      go false h = refl

  -- one byte more
  module _ (c : ℕ) (s : List ℕ) where
    pub leading_digit : is_digit base c ≡ true → leading base (c ∷ s) ≡ c ∷ leading base s
    unfolding leading
    leading_digit e = rw e

    pub leading-other : is_digit base c ≡ false → leading base (c ∷ s) ≡ []
    unfolding leading
    leading-other e = rw e
