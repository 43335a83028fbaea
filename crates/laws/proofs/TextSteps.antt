-- The laws of the joined text at a place, as the code moves from place to place.
-- Assumes nothing.
use Rattle.std.specs.Prelude.{Some}
use Prim.Native.Nat.{ℕ, zero, suc, ◌+◌, ◌≤◌, ◌<◌}
use mathlib.Core.Path.{◌≡◌, refl, ◌∙◌}
use mathlib.Core.Bool.{true, false}
use mathlib.Core.List.{List, [], ◌∷◌}
use native.Mathlib.Numerals.{add-one}
use native.Mathlib.Omega.{arith}
use borrow.Author.Tests.{eq-eqb, ne_eqb}
use lib.Dec.{eqb, eqb-zero-suc, eqb-suc-suc}
use native.Mathlib.Nat.{not-suc-le-zero, le_of_suc-le-suc}
use lib.ListN.{length, drop, get_or, drop_of_length-le}
use lib.Seq.{drop-cons}
use mathlib.Core.Logic.{◌⊎◌, inl, inr}
use Rattle.spec.specs.Lines.{Text, end, byte, join, text_at, line_text, later_lines, lines_from, first_name, later_names, blank, is_ignored, has_name, find}
use Rattle.spec.specs.Lists.{upto, later_pieces, same, among}
use Rattle.laws.proofs.Tests.{both_false}

-- the raw list from a place on, by its first element; `i + 1` is the code's
pub drop-next : (s : List ℕ) (i : ℕ) → i < length s → drop i s ≡ get_or s i 0 ∷ drop (i + 1) s
drop-next s i h = rw (add-one, drop-cons s i 0)

pub join-byte : (at b : ℕ) (s : List ℕ) → (b ≡ 92 → ⊥) → join at (b ∷ s) ≡ byte b (at + 1) (join (at + 1) s)
unfolding join
join-byte at b [] n = refl
join-byte at b (c ∷ s) n = rw (ne_eqb b 92 n)

module _ (s : List ℕ) (at : ℕ) where
  pub text-end : length s ≤ at → text_at s at ≡ end
  unfolding text_at join
  text-end h = rw (drop_of_length-le s h)

  pub text_pair : at + 1 < length s → get_or s at 0 ≡ 92 → get_or s (at + 1) 0 ≡ 10 → text_at s at ≡ text_at s (at + 1 + 1)
  unfolding text_at join
  text_pair h e f =
      let h₀ : at < length s = omega arith in
      rw (drop-next s at h₀, drop-next s (at + 1) h, eq-eqb _ _ e, eq-eqb _ _ f)

  pub text_last : at + 1 ≡ length s → text_at s at ≡ byte (get_or s at 0) (at + 1) (text_at s (at + 1))
  unfolding text_at join
  text_last h =
      let h₀ : at < length s = omega arith in
      let h₁ : length s ≤ at + 1 = omega arith in
      rw (drop-next s at h₀, drop_of_length-le s h₁)

  pub text-byte : at < length s → (get_or s at 0 ≡ 92 → ⊥) → text_at s at ≡ byte (get_or s at 0) (at + 1) (text_at s (at + 1))
  unfolding text_at
  text-byte h n = rw (drop-next s at h) (join-byte at _ _ n)

  pub text-slash : at + 1 < length s → (get_or s (at + 1) 0 ≡ 10 → ⊥) → text_at s at ≡ byte (get_or s at 0) (at + 1) (text_at s (at + 1))
  unfolding text_at join
  text-slash h n =
      let h₀ : at < length s = omega arith in
      rw (drop-next s at h₀, drop-next s (at + 1) h, ne_eqb _ _ n, both_false)

-- ---- a byte of the text, and the later lines

pub lines_end : later_lines end ≡ []
unfolding later_lines
lines_end = refl

module _ (b n : ℕ) (t : Text) where
  pub lines_cut : b ≡ 10 → later_lines (byte b n t) ≡ lines_from n t
  unfolding later_lines
  lines_cut e = rw (eq-eqb b 10 e)

  pub lines_on : (b ≡ 10 → ⊥) → later_lines (byte b n t) ≡ later_lines t
  unfolding later_lines
  lines_on h = rw (ne_eqb b 10 h)

  -- ---- and the line's text, its blanks and its names

  pub line-end : b ≡ 10 → line_text (byte b n t) ≡ []
  unfolding line_text
  line-end e = rw (eq-eqb b 10 e)

  pub line_on : (b ≡ 10 → ⊥) → line_text (byte b n t) ≡ b ∷ line_text t
  unfolding line_text
  line_on h = rw (ne_eqb b 10 h)

  pub blank_not : (b ≡ 10 → ⊥) → ((b ≡ 9) ⊎ (b ≡ 32) → ⊥) → blank (line_text (byte b n t)) ≡ false
  unfolding blank
  blank_not h k = rw (line_on h, ne_eqb b 32 (λ e. k (inr e)), ne_eqb b 9 (λ e. k (inl e)))

  pub name-end : (b ≡ 10) ⊎ ((b ≡ 58) ⊎ (b ≡ 124)) → first_name (line_text (byte b n t)) ≡ []
  unfolding first_name upto
  name-end (inl e) = rw (line-end e)
  name-end (inr (inl e)) = rw (line_on (omega arith), eq-eqb b 58 e)
  name-end (inr (inr e)) = rw (line_on (omega arith), ne_eqb b 58 (omega arith), eq-eqb b 124 e)

  pub name_on : ((b ≡ 10) ⊎ ((b ≡ 58) ⊎ (b ≡ 124)) → ⊥) → first_name (line_text (byte b n t)) ≡ b ∷ first_name (line_text t)
  unfolding first_name upto
  name_on h = rw (line_on (λ e. h (inl e)), ne_eqb b 58 (λ e. h (inr (inl e))), ne_eqb b 124 (λ e. h (inr (inr e))))

  pub names-end : (b ≡ 10) ⊎ (b ≡ 58) → later_names (line_text (byte b n t)) ≡ []
  unfolding later_names upto later_pieces
  names-end (inl e) = rw (line-end e)
  names-end (inr e) = rw (line_on (omega arith), eq-eqb b 58 e)

  pub names-cut : b ≡ 124 → later_names (line_text (byte b n t)) ≡ first_name (line_text t) ∷ later_names (line_text t)
  unfolding later_names first_name upto later_pieces
  names-cut e = rw (line_on (omega arith), ne_eqb b 58 (omega arith), eq-eqb b 124 e)

  pub names_on : ((b ≡ 10) ⊎ (b ≡ 58) → ⊥) → (b ≡ 124 → ⊥) → later_names (line_text (byte b n t)) ≡ later_names (line_text t)
  unfolding later_names upto later_pieces
  names_on h k = rw (line_on (λ e. h (inl e)), ne_eqb b 58 (λ e. h (inr e)), ne_eqb b 124 k)

-- ---- comparison

-- What is left of a name after its first k bytes. It is shut, so that a law's `_` is found where it stands.
unfoldable pub rest : List ℕ → ℕ → List ℕ
rest s k = drop k s

-- what is left of a name, against nothing, and against a byte and more
nil_same : (s : List ℕ) (k : ℕ) → k ≤ length s → eqb k (length s) ≡ same (drop k s) []
unfolding same
nil_same [] zero h = refl
nil_same [] (suc k) h = absurd (not-suc-le-zero h)
nil_same (x ∷ s) zero h = eqb-zero-suc (length s)
nil_same (x ∷ s) (suc k) h = eqb-suc-suc k (length s) ∙ nil_same s k (le_of_suc-le-suc h)

module _ (s : List ℕ) (k : ℕ) where
  pub same_nil : k ≤ length s → eqb k (length s) ≡ same (rest s k) []
  unfolding rest
  same_nil h = nil_same s k h

  pub same_next : (b : ℕ) (l : List ℕ) → k < length s → get_or s k 0 ≡ b → same (rest s k) (b ∷ l) ≡ same (rest s (k + 1)) l
  unfolding same rest
  same_next b l h e = rw (drop-next s k h, eq-eqb _ _ e)

  pub same_differs : (b : ℕ) (l : List ℕ) → k < length s → (get_or s k 0 ≡ b → ⊥) → same (rest s k) (b ∷ l) ≡ false
  unfolding same rest
  same_differs b l h n = rw (drop-next s k h, ne_eqb _ _ n)

  pub same-short : (b : ℕ) (l : List ℕ) → length s ≤ k → same (rest s k) (b ∷ l) ≡ false
  unfolding same rest
  same-short b l h = rw (drop_of_length-le s h)

-- ---- the search

module _ (n m : List ℕ) (ms : List (List ℕ)) where
  pub among_here : same n m ≡ true → among n (m ∷ ms) ≡ true
  unfolding among
  among_here e = rw e

  pub among_next : same n m ≡ false → among n (m ∷ ms) ≡ among n ms
  unfolding among
  among_next e = rw e

  pub among_last : same n m ≡ false → ms ≡ [] → among n (m ∷ ms) ≡ false
  unfolding among
  among_last e f = rw (e, f)

module _ (n : List ℕ) (at : ℕ) (t : Text) where
  pub find_here : is_ignored (line_text t) ≡ false → has_name n (line_text t) ≡ true → find n (lines_from at t) ≡ Some at
  unfolding find
  find_here e f = rw (e, f)

  pub find_past : is_ignored (line_text t) ≡ true → find n (lines_from at t) ≡ find n (later_lines t)
  unfolding find
  find_past e = rw e

  pub find_on : has_name n (line_text t) ≡ false → find n (lines_from at t) ≡ find n (later_lines t)
  unfolding find
  find_on e = rw (e, both_false)
