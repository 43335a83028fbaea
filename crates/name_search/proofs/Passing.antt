-- Lines are passed over as a whole: where each place up to the end of a line is settled, no line up to there has the name.
-- Assumes nothing.
use Rattle.std.specs.Prelude.{None}
use Prim.Native.Nat.{ℕ, zero, suc, ◌+◌, ◌-◌, ◌≤◌, ◌<◌}
use mathlib.Core.Path.{◌≡◌, refl, ◌∙◌, ap, sym}
use mathlib.Core.Bool.{Bool, true, false}
use mathlib.Core.List.{List, []}
use mathlib.Core.Logic.{◌⊎◌, inl, inr, ⊎_elim}
use native.Mathlib.Omega.{arith}
use borrow.Author.Tests.{eqb-true, eqb-false, ltb-true, ltb-false}
use lib.Dec.{eqb, ltb}
use lib.ListN.{length, get_or}
use Rattle.spec.specs.Lines.{Text, byte, text_at, line_text, later_lines, first_name, later_names, find}
use Rattle.spec.specs.Lists.{upto, later_pieces, same, among}
use Rattle.laws.proofs.TextSteps as Laws
use Rattle.laws.proofs.TextSteps.{rest}
use Rattle.name_places.specs.Marks.{Separator, Alone, Ending, Stops, Inside, AllSettled, Other}
use Rattle.name_search.specs.Candidates.{Closes, LineOf, Candidate}
use Rattle.name_search.proofs.LineEnds.{Apart, none-behind, next-behind}
use Rattle.name_search.proofs.Looking.{Pair, Look, over, pair, one, look}
use Rattle.name_search.proofs.Spelling.{Stands, Begins, with_pair, with_byte, some_left, begins, ends, first_end, text_done}

none_end : (n : List ℕ) (t : Text) → line_text t ≡ [] → among n (later_names (line_text t)) ≡ false
unfolding among later_names upto later_pieces
none_end n t e = rw e

among_nil : (n : List ℕ) → among n [] ≡ false
unfolding among
among_nil n = refl

all_left : (s n : List ℕ) (p : ℕ) → same n (first_name (line_text (text_at s p))) ≡ true → Stands s n 0 p
unfolding rest
all_left s n p x = x

moved : (s : List ℕ) {i j : ℕ} → i ≡ j → Stops s i → Stops s j
moved s e x = rw (← e) x

stop_at : (s : List ℕ) (p : ℕ) → (Ending (get_or s p 0) ⊎ Pair s p) ⊎ (length s ≤ p) → Stops s p
stop_at s p (inl (inl (inl e))) = inl (inl e)
stop_at s p (inl (inl (inr (inl e)))) = inl (inr (inl e))
stop_at s p (inl (inl (inr (inr e)))) = inl (inr (inr (inr e)))
stop_at s p (inl (inr x)) = inl (inr (inr (inl x.0)))
stop_at s p (inr h) = inr h

-- what may follow a pair inside the name
pub may_follow : (s n : List ℕ) (i p : ℕ) → i < length n → Begins s n i p → Inside n (get_or s p 0)
may_follow s n i p h (with_pair q x t) = inr x.0
may_follow s n i p h (with_byte e f x) = inl (i, h, sym e)

-- ---- up to the end of a line at e

module _ {s n : List ℕ} {a b e : ℕ} (settled : AllSettled s n a b) (inside : e ≤ length s) (closes : e < length s → Closes s e) (near : e ≤ b + 2) where
  ended : line_text (text_at s e) ≡ []
  ended = go (ltb e (length s)) refl
    where
      go : (x : Bool) → ltb e (length s) ≡ x → line_text (text_at s e) ≡ []
      go true x =
          let l = ltb-true _ _ x in
          let f = (closes l).newline in
          ap line_text (Laws.text-byte s e l (omega arith)) ∙ Laws.line-end _ _ _ f
      go false x = text_done _ (Laws.text-end s e (ltb-false _ _ x))

  -- a pair before e leaves e alone
  clear_of_end : (i : ℕ) → i < e → i + 1 < length s → get_or s i 0 ≡ 92 → i + 1 < e
  clear_of_end i l m f = go (ltb (i + 1) e) refl
    where
      go : (x : Bool) → ltb (i + 1) e ≡ x → i + 1 < e
      go true x = ltb-true (i + 1) e x
      go false x =
          let w : e ≤ i + 1 = ltb-false (i + 1) e x in
          absurd ((closes (omega arith)).alone i (omega arith) f)

  -- what is left of the name after i bytes, d bytes, is spelled behind the place j: no pair cuts it, and no byte ends it before
  abbrev SpelledAt : ℕ → ℕ → ℕ → Type 0
  SpelledAt i j d = Stops s (j + 1 + d) × ((m : ℕ) → m < d → (get_or s (j + 1 + m) 0 ≡ get_or n (i + m) 0) × (Ending (get_or s (j + 1 + m) 0) → ⊥))

  abbrev SpelledTo : ℕ → Type 0
  SpelledTo d =
      (i j : ℕ) → i + d ≡ length n → a ≤ j → j + 1 ≤ e → (get_or s j 0 ≡ 58 → ⊥) → Stands s n i (j + 1)
      → SpelledAt i j d

  spelled_step : (d : ℕ) → SpelledTo d → SpelledTo (suc d)
  spelled_step d more i j h l m f x = go (eqb (j + 1) e) refl
    where
      some : i < length n
      some = omega arith

      no_cut : j + 1 < e → j + 1 + 1 < length s → Pair s (j + 1) → text_at s (j + 1) ≡ text_at s (j + 1 + 1 + 1) → ⊥
      no_cut p q y t =
          let far = clear_of_end (j + 1) p q y.0 in
          let second : j + 1 + 1 ≡ j + 2 = omega arith in
          let third : j + 1 + 1 + 1 ≡ j + 3 = omega arith in
          let after = may_follow s n i (j + 1 + 1 + 1) some (begins s n i (j + 1 + 1 + 1) some (rw t at x)) in
          (settled.holds j l (omega arith)).uncut (rw second at y.1) y.0 f (rw third at after)

      on : j + 1 < e → get_or s (j + 1) 0 ≡ get_or n i 0 → (Ending (get_or s (j + 1) 0) → ⊥) → Stands s n (i + 1) (j + 1 + 1) → SpelledAt i j (suc d)
      on p c g y =
          (moved s (omega arith) w.0, λ k u. byte_at k u (eqb k 0) refl)
        where
          w : SpelledAt (i + 1) (j + 1) d
          w = more (i + 1) (j + 1) (omega arith) (omega arith) (omega arith) (λ z. g (inr (inl z))) y

          byte_at : (k : ℕ) → k < suc d → (v : Bool) → eqb k 0 ≡ v → (get_or s (j + 1 + k) 0 ≡ get_or n (i + k) 0) × (Ending (get_or s (j + 1 + k) 0) → ⊥)
          byte_at k u true v =
              let z : k ≡ 0 = eqb-true k 0 v in
              let left : j + 1 + k ≡ j + 1 = omega arith in
              let right : i + k ≡ i = omega arith in
              rw (left, right) (c, g)
          byte_at k u false v =
              let z = eqb-false k 0 v in
              let left : j + 1 + k ≡ j + 1 + 1 + (k - 1) = omega arith in
              let right : i + k ≡ i + 1 + (k - 1) = omega arith in
              rw (left, right) (w.1 (k - 1) (omega arith))

      inner : j + 1 < e → Begins s n i (j + 1) → SpelledAt i j (suc d)
      inner p (with_pair q y t) = absurd (no_cut p q y t)
      inner p (with_byte c g y) = on p c g y

      go : (y : Bool) → eqb (j + 1) e ≡ y → SpelledAt i j (suc d)
      go true y =
          let z = eqb-true (j + 1) e y in
          absurd (some_left s n i (j + 1) some x (rw z (first_end _ ended)))
      go false y =
          let z = eqb-false (j + 1) e y in
          inner (omega arith) (begins s n i (j + 1) some x)

  spelled : (d : ℕ) → SpelledTo d
  spelled zero = λ i j h l m f x. (moved s (omega arith) (stop_at s _ (ends s n i (j + 1) (omega arith) x)), λ k u. absurd (omega arith))
  spelled (suc d) = spelled_step d (spelled d)

  -- the name behind a separator
  other_at : (i : ℕ) → a + 2 ≤ i → i < e → Separator (get_or s i 0) → Alone (get_or s (i - 1) 0) (get_or s i 0) → Other s n (i + 1)
  other_at i h l sep alone = go (same n (first_name (line_text (text_at s (i + 1))))) refl
    where
      no_colon_lem : Separator (get_or s i 0) → get_or s i 0 ≡ 58 → ⊥
      no_colon_lem (inl e) f = omega arith
      no_colon_lem (inr e) f = omega arith

      go : (z : Bool) → same n (first_name (line_text (text_at s (i + 1)))) ≡ z → Other s n (i + 1)
      go true z =
          let here : i ≡ i - 2 + 2 = omega arith in
          rw next ((settled.holds (i - 2) (omega arith) (omega arith)).other
          (record { separator = rw here at sep; alone = unpaired; stops = rw next at w.0 }) (λ k u. shifted k (w.1 k u).0)
          (record { holds = λ k u v. unbroken k u v }))
        where
          w : SpelledAt 0 i (length n)
          w = spelled (length n) 0 i (omega arith) (omega arith) (omega arith) (no_colon_lem sep) (all_left s n (i + 1) z)

          next : i + 1 ≡ i - 2 + 3
          next = omega arith

          unpaired : Alone (get_or s (i - 2 + 1) 0) (get_or s (i - 2 + 2) 0)
          unpaired f g =
              let here : i - 2 + 2 ≡ i = omega arith in
              let before : i - 2 + 1 ≡ i - 1 = omega arith in
              alone (rw here at f) (rw before at g)

          shifted : (k : ℕ) → get_or s (i + 1 + k) 0 ≡ get_or n (0 + k) 0 → get_or s (i - 2 + 3 + k) 0 ≡ get_or n k 0
          shifted k x =
              let left : i + 1 + k ≡ i - 2 + 3 + k = omega arith in
              let right : 0 + k ≡ k = omega arith in
              rw (left, right) at x

          unbroken : (k : ℕ) → i - 2 + 3 ≤ k → k < i - 2 + 3 + length n → Ending (get_or s k 0) → ⊥
          unbroken k u v x =
              let place : k ≡ i + 1 + (k - (i + 1)) = omega arith in
              (w.1 (k - (i + 1)) (omega arith)).1 (rw place at x)
      go false z = z

  -- the names behind the place i
  abbrev OthersTo : ℕ → Type 0
  OthersTo d = (i : ℕ) → a + 2 ≤ i → i ≤ e → e < i + d → among n (later_names (line_text (text_at s i))) ≡ false

  others_step : (d : ℕ) → OthersTo d → OthersTo (suc d)
  others_step d more i h l m = go (eqb i e) refl
    where
      at_byte : i < e → (x y z : Bool) → eqb (get_or s i 0) 10 ≡ x → eqb (get_or s i 0) 58 ≡ y → eqb (get_or s i 0) 124 ≡ z → among n
          (later_names (line_text (byte (get_or s i 0) (i + 1) (text_at s (i + 1))))) ≡ false
      at_byte p true y z u v w = rw (Laws.names-end _ _ _ (inl (eqb-true _ _ u))) (among_nil n)
      at_byte p false true z u v w = rw (Laws.names-end _ _ _ (inr (eqb-true _ _ v))) (among_nil n)
      at_byte p false false true u v w =
          rw (Laws.names-cut _ _ _ (eqb-true _ _ w))
          (Laws.among_next _ _ _ (other_at i h p (inr (eqb-true _ _ w)) (λ x. absurd (eqb-false _ _ u x))) ∙ more (i + 1) (omega arith) (omega arith)
          (omega arith))
      at_byte p false false false u v w =
          rw (Laws.names_on _ _ _ (⊎_elim (eqb-false _ _ u) (eqb-false _ _ v)) (eqb-false _ _ w)) (more (i + 1) (omega arith) (omega arith) (omega arith))

      inner : i < e → Look s i → among n (later_names (line_text (text_at s i))) ≡ false
      inner p (over q) = absurd (omega (arith, inside))
      inner p (pair q x t) =
          let far = clear_of_end i p q x.0 in
          rw t (more (i + 1 + 1) (omega arith) (omega arith) (omega arith))
      inner p (one q x t) = rw t (at_byte p (eqb (get_or s i 0) 10) (eqb (get_or s i 0) 58) (eqb (get_or s i 0) 124) refl refl refl)

      go : (x : Bool) → eqb i e ≡ x → among n (later_names (line_text (text_at s i))) ≡ false
      go true x =
          let z = eqb-true i e x in
          rw z (none_end n _ ended)
      go false x =
          let z = eqb-false i e x in
          inner (omega arith) (look s i)

  others : (d : ℕ) → OthersTo d
  others zero = λ i h l m. absurd (omega arith)
  others (suc d) = others_step d (others d)

  -- the lines behind the place i
  abbrev PassTo : ℕ → Type 0
  PassTo d = (i : ℕ) → a + 2 ≤ i → i ≤ e → e < i + d → Apart s i → find n (later_lines (text_at s i)) ≡ find n (later_lines (text_at s e))

  pass_step : (d : ℕ) → PassTo d → PassTo (suc d)
  pass_step d more i h l m apart = go (eqb i e) refl
    where
      alone : get_or s i 0 ≡ 10 → get_or s (i - 1) 0 ≡ 92 → ⊥
      alone f g =
          let next : i - 1 + 1 ≡ i = omega arith in
          apart (i - 1) next (g, rw next f)

      behind_one : (Pair s i → ⊥) → Apart s (i + 1)
      behind_one x k f p =
          let same : i ≡ k = omega arith in
          x (rw same p)

      behind_pair : Pair s i → Apart s (i + 1 + 1)
      behind_pair x k f p =
          let same : k ≡ i + 1 = omega arith in
          let z : ◌≡◌ {A = ℕ} 10 92 = sym x.1 ∙ sym (ap (λ (j : ℕ). get_or s j 0) same) ∙ p.0 in
          omega arith

      at_byte :
          i < e → (Pair s i → ⊥) → (x : Bool) → eqb (get_or s i 0) 10 ≡ x
          → find n (later_lines (byte (get_or s i 0) (i + 1) (text_at s (i + 1)))) ≡ find n (later_lines (text_at s e))
      at_byte p y true x =
          let none = Laws.among_next _ _ _ (other_at i h p (inl (eqb-true _ _ x)) alone) ∙ others (e + 1) (i + 1) (omega arith) (omega arith) (omega arith) in
          ap (find n) (Laws.lines_cut _ _ _ (eqb-true _ _ x)) ∙ Laws.find_on n (i + 1) (text_at s (i + 1)) none ∙ more (i + 1) (omega arith) (omega arith)
          (omega arith) (behind_one y)
      at_byte p y false x = ap (find n) (Laws.lines_on _ _ _ (eqb-false _ _ x)) ∙ more (i + 1) (omega arith) (omega arith) (omega arith) (behind_one y)

      inner : i < e → Look s i → find n (later_lines (text_at s i)) ≡ find n (later_lines (text_at s e))
      inner p (over q) = absurd (omega (arith, inside))
      inner p (pair q x t) =
          let far = clear_of_end i p q x.0 in
          rw t (more (i + 1 + 1) (omega arith) (omega arith) (omega arith) (behind_pair x))
      inner p (one q x t) = rw t (at_byte p x (eqb (get_or s i 0) 10) refl)

      go : (x : Bool) → eqb i e ≡ x → find n (later_lines (text_at s i)) ≡ find n (later_lines (text_at s e))
      go true x = let z = eqb-true i e x in rw z
      go false x =
          let z = eqb-false i e x in
          inner (omega arith) (look s i)

  pass : (d : ℕ) → PassTo d
  pass zero = λ i h l m y. absurd (omega arith)
  pass (suc d) = pass_step d (pass d)

  pub passed : (i : ℕ) → i ≡ a + 2 → i ≤ e → Apart s i → find n (later_lines (text_at s i)) ≡ find n (later_lines (text_at s e))
  passed i f h apart = pass (e + 1) i (omega arith) h (omega arith) apart

-- ---- from the end of a line: to the start of the next, to that of another, and to the end of the database

pub next-line : (s n : List ℕ) (e : ℕ) → e < length s → Closes s e → Candidate s n e (e + 1)
next-line s n e h x = record { inside = omega arith; starts = (e, refl, omega arith, x); passed = next-behind s n e h x }

module _ {s n : List ℕ} {end b : ℕ} (low : 2 ≤ end) (closes : Closes s end) (settled : AllSettled s n (end - 2) b) where
  apart : Apart s end
  apart k f p = closes.alone k f p.0

  pub passed-line : (r : ℕ) → b + 2 < length s → LineOf s end (b + 3) r → Candidate s n end r
  passed-line r h x = go x.starts
    where
      go : (f : ℕ) × (r ≡ f + 1) × (end ≤ f) × Closes s f → Candidate s n end r
      go w =
          let f = w.0 in
          let z : r ≡ f + 1 = w.1 in
          let u = x.upto in
          let v = w.2 in
          record {
            inside = omega arith;
            starts = x.starts;
            passed = rw z (passed settled (omega arith) (λ y. w.3) (omega arith) end (omega arith) v apart ∙ next-behind s n f (omega arith) w.3);
          }

  pub passed-all : end ≤ length s → length s ≤ b + 2 → find n (later_lines (text_at s end)) ≡ None
  passed-all h l = passed settled (omega arith) (λ x. absurd (omega arith)) l end (omega arith) h apart ∙ none-behind s n
