-- The bounds of a field of which bytes are passed already, by the bounds of its rest.
-- Assumes nothing.
use Rattle.std.specs.Prelude.{Some, None}
use Prim.Native.Nat.{ℕ, ◌+◌, ◌≤◌}
use mathlib.Core.Path.{◌≡◌, refl, ◌∙◌, ap, sym}
use mathlib.Core.Bool.{false}
use mathlib.Core.List.{List, [], ◌∷◌}
use native.Mathlib.Omega.{arith}
use lib.ListN.{length}
use Rattle.spec.specs.Lists.{upto, holds, past}
use Rattle.spec.specs.Lines.{line_at}
use Rattle.spec.specs.Fields.{split, size}
use Rattle.laws.proofs.FieldSteps.{split_first, split_nil}
use Rattle.field_bounds.specs.Answers.{field_at, Passed, Bounded}
use Rattle.field_bounds.proofs.Pieces.{piece_none, piece_last, fields-none}
use Rattle.field_bounds.proofs.LineBounds.{last_field, field_inside, size_bound}

pub split-some : (l : List ℕ) → (l ≡ [] → ⊥) → split l ≡ upto 58 l ∷ split (past 58 l)
split-some [] n = absurd (n refl)
split-some (b ∷ l) n = split_first b l

pub split-none : (l : List ℕ) → split l ≡ [] → l ≡ []
split-none [] e = refl
split-none (b ∷ l) e =
    let f = split_first b l in
    let z : ◌≡◌ {A = ℕ} 0 1 = cc in
    absurd (omega arith)

pub no_field : (l f : List ℕ) (fs : List (List ℕ)) → split l ≡ f ∷ fs → l ≡ [] → ⊥
no_field l f fs e h =
    let n : split l ≡ [] = ap split h ∙ split_nil in
    let z : ◌≡◌ {A = ℕ} 0 1 = cc in
    omega arith

-- a field is no longer than what it is read from
pub field_bound : (s : List ℕ) (at n next : ℕ) → Bounded s at (Some (record { length = n; next = next })) → n ≤ length s
unfolding size
field_bound s at n next p = omega (arith, size_bound s at, ap size p.0, p.1)

module _ (s : List ℕ) (at i n : ℕ) (q : Passed s at i n) where
  rest_empty : line_at s at ≡ [] → line_at s i ≡ []
  unfolding holds upto
  rest_empty e =
      let none : length (field_at s i) ≡ 0 = omega (arith, q.count, ap (λ (l : List ℕ). length (upto 58 l)) e) in
      piece_none _ (sym q.colon ∙ ap (holds 58) e) none

  pub bounds_over : (m next : ℕ) → Bounded s i (Some (record { length = m; next = next })) → Bounded s at (Some (record { length = (n + m); next = next }))
  bounds_over m next p =
      let whole = split-some (line_at s at) (λ e. no_field (line_at s i) _ _ p.0 (rest_empty e)) in
      let here = split-some (line_at s i) (no_field (line_at s i) _ _ p.0) in
      let later : split (past 58 (line_at s i)) ≡ split (line_at s next) = cc in (
        whole ∙ ap (λ (fs : List (List ℕ)). field_at s at ∷ fs) (ap split q.rest ∙ later),
        omega (arith, q.count, p.1),
        omega (arith, q.onward, p.2),
        p.3,
      )

  module _ (p : split (line_at s i) ≡ []) where
    no_colon_lem : holds 58 (line_at s at) ≡ false
    unfolding holds
    no_colon_lem = q.colon ∙ ap (holds 58) (split-none _ p)

    all-passed : length (field_at s at) ≡ n
    unfolding upto
    all-passed = omega (arith, q.count, ap (λ (l : List ℕ). length (upto 58 l)) (split-none _ p))

    pub bounds_none : n ≡ 0 → Bounded s at None
    bounds_none e = fields-none _ no_colon_lem (all-passed ∙ e)

    pub bounds_last : (n ≡ 0 → ⊥) → Bounded s at (Some (record { length = n; next = (length s) }))
    bounds_last h =
        let last = piece_last _ no_colon_lem (λ e. h (sym all-passed ∙ e)) in
        (last_field s at _ last, all-passed, field_inside s at _ _ last, omega arith)
