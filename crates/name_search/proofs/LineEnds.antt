-- The end of a line: a newline that no backslash takes away, or the end of the database. The later lines are those behind it.
-- Assumes nothing.
use Rattle.std.specs.Prelude.{None}
use Prim.Native.Nat.{ℕ, zero, suc, ◌+◌, ◌≤◌, ◌<◌}
use mathlib.Core.Path.{◌≡◌, refl, ◌∙◌, ap, sym}
use mathlib.Core.Bool.{Bool, true, false}
use mathlib.Core.List.{List}
use native.Mathlib.Omega.{arith}
use borrow.Author.Tests.{eqb-true, eqb-false}
use lib.Dec.{eqb}
use lib.ListN.{length, get_or}
use Rattle.spec.specs.Lines.{byte, text_at, later_lines, lines_from, find, extent}
use Rattle.laws.proofs.TextSteps as Laws
use Rattle.laws.proofs.Extents.{extent-end, extent-newline, extent_on}
use Rattle.name_search.specs.Candidates.{Closes}
use Rattle.name_search.proofs.Looking.{Pair, Look, over, pair, one, look}

-- A line starts at the place i: no pair has its newline there.
abbrev pub Apart : List ℕ → ℕ → Type 0
Apart s i = (k : ℕ) → k + 1 ≡ i → Pair s k → ⊥

-- The place e is the end of the line at i.
pub record EndOf (s : List ℕ) (i e : ℕ) : Type 0 where
  pub lines : later_lines (text_at s i) ≡ later_lines (text_at s e)
  pub closes : e < length s → Closes s e

same-extent : (s : List ℕ) (i j : ℕ) → text_at s i ≡ text_at s j → extent s i ≡ extent s j
unfolding extent
same-extent s i j t = rw t

abbrev EndTo : List ℕ → ℕ → Type 0
EndTo s d = (i : ℕ) → i ≤ length s → length s < i + d → Apart s i → EndOf s i (extent s i)

end_step : (s : List ℕ) (d : ℕ) → EndTo s d → EndTo s (suc d)
end_step s d more i m h apart = go (look s i)
  where
    at_byte : i < length s → (Pair s i → ⊥) → text_at s i ≡ byte (get_or s i 0) (i + 1) (text_at s (i + 1)) → (x : Bool) → eqb (get_or s i 0) 10 ≡ x → EndOf s i
        (extent s i)
    at_byte l n t true x =
        let e : extent s i ≡ i = extent-newline s i _ _ _ t (eqb-true _ _ x) ∙ omega arith in
        rw e (record {
          lines = refl;
          closes = λ m. record
              { newline = eqb-true _ _ x; alone = λ k f g. apart k f (g, ap (λ (j : ℕ). get_or s j 0) f ∙ eqb-true _ _ x) };
        })
    at_byte l n t false x =
        let e = extent_on s i _ _ t (eqb-false _ _ x) in
        let w = more (i + 1) (omega arith) (omega arith) (λ k f p. n (rw (shift k f) p)) in
        rw e (record { lines = ap later_lines t ∙ Laws.lines_on _ _ _ (eqb-false _ _ x) ∙ w.lines; closes = w.closes })
      where
        shift : (k : ℕ) → k + 1 ≡ i + 1 → i ≡ k
        shift k f = omega arith

    go : Look s i → EndOf s i (extent s i)
    go (over l) =
        let e = extent-end s i (Laws.text-end s i l) in
        rw e (record { lines = ap later_lines (Laws.text-end s i l ∙ sym (Laws.text-end s (length s) (omega arith))); closes = λ m. absurd (omega arith) })
    go (pair l p t) =
        let e : extent s i ≡ extent s (i + 1 + 1) = same-extent s _ _ t in
        let w = more (i + 1 + 1) (omega arith) (omega arith) (λ k f q. absurd (both_bytes (shift k f) p.1 q.0)) in
        rw e (record { lines = ap later_lines t ∙ w.lines; closes = w.closes })
      where
        shift : (k : ℕ) → k + 1 ≡ i + 1 + 1 → k ≡ i + 1
        shift k f = omega arith

        both_bytes : {k : ℕ} → k ≡ i + 1 → get_or s (i + 1) 0 ≡ 10 → get_or s k 0 ≡ 92 → ⊥
        both_bytes f a b = let z : ◌≡◌ {A = ℕ} 10 92 = sym a ∙ sym (ap (λ (j : ℕ). get_or s j 0) f) ∙ b in omega arith
    go (one l n t) = at_byte l n t (eqb (get_or s i 0) 10) refl

end-to : (s : List ℕ) (d : ℕ) → EndTo s d
end-to s zero = λ i m h. absurd (omega arith)
end-to s (suc d) = end_step s d (end-to s d)

pub end_of : (s : List ℕ) (i : ℕ) → i ≤ length s → Apart s i → EndOf s i (extent s i)
end_of s i m apart = end-to s (length s + 1) i m (omega arith) apart

-- ---- the lines behind the end of the database, and behind a newline that ends a line

pub none-behind : (s n : List ℕ) → find n (later_lines (text_at s (length s))) ≡ None
unfolding find
none-behind s n = rw (Laws.text-end s (length s) (omega arith), Laws.lines_end)

pub next-behind : (s n : List ℕ) (e : ℕ) → e < length s → Closes s e → find n (later_lines (text_at s e)) ≡ find n (lines_from (e + 1) (text_at s (e + 1)))
next-behind s n e l x =
    let f = x.newline in
    ap (find n) (ap later_lines (Laws.text-byte s e l (omega arith)) ∙ Laws.lines_cut _ _ _ f)

-- ---- a line starts behind a newline that ends one, and at the start of the database

pub apart-behind : (s : List ℕ) (r e : ℕ) → (f : ℕ) × (r ≡ f + 1) × (e ≤ f) × Closes s f → Apart s r
apart-behind s r e w k f p =
    let same : k ≡ w.0 = omega (arith, w.1) in
    let z : ◌≡◌ {A = ℕ} 10 92 = sym w.3.newline ∙ sym (ap (λ (j : ℕ). get_or s j 0) same) ∙ p.0 in
    omega arith

pub apart-start : (s : List ℕ) → Apart s 0
apart-start s k f p = omega arith
