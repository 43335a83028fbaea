-- The lines of a file of which one line is replaced: those before it stay, those behind it have the same texts at moved places.
-- Assumes nothing.
use Rattle.std.specs.Prelude.{Option, Some, None}
use Prim.Native.Nat.{ℕ, zero, suc, ◌+◌, ◌≤◌, ◌<◌}
use mathlib.Core.Path.{◌≡◌, refl, sym, subst}
use mathlib.Core.Bool.{Bool, true, false, not}
use mathlib.Core.Logic.{◌⊎◌, inl, inr, ⊎_elim}
use mathlib.Core.List.{List, [], ◌∷◌, ◌++◌}
use native.Mathlib.Omega.{arith}
use borrow.Author.Tests.{eqb-true}
use lib.Dec.{eqb}
use lib.ListN.{length, take, drop}
use lib.Seq.{length-take-le, drop-append-le}
use Rattle.spec.specs.Choice.{pick, both}
use Rattle.spec.specs.Lines.{end, byte, join, text_at, Line, line_text, later_lines, lines_from, is_ignored, has_name, find, find_line, line_at}
use Rattle.laws.proofs.Tests.{clash}
use Rattle.laws.proofs.TextSteps as Laws
use Rattle.laws.proofs.WholeLines.{line_shift}

-- ---- whole lines: the last byte is a newline that ends one

unfoldable ends_line : List ℕ → Bool
ends_line [] = false
ends_line (b ∷ []) = eqb b 10
ends_line (b ∷ c ∷ s) =
    let pair = ends_line s in
    let on = ends_line (c ∷ s) in
    pick (both (eqb b 92) (eqb c 10)) pair on

-- Starts of lines below a place.
abbrev pub Below : ℕ → List Line → Type 0
Below n [] = Unit {0}
Below n (l ∷ ls) = (l.start < n) × Below n ls

-- The first line of whole lines, and those that start before their end, do not depend on what stands behind.
record Whole (i : ℕ) (u : List ℕ) : Type 0 where
  later : List Line
  below : Below (i + length u) later
  first : (v : List ℕ) → line_text (join i (u ++ v)) ≡ line_text (join i u)
  lines : (v : List ℕ) → later_lines (join i (u ++ v)) ≡ later ++ lines_from (i + length u) (join (i + length u) v)

below_at : (m n : ℕ) (ls : List Line) → m ≡ n → Below m ls → Below n ls
below_at m n ls e h = rw (← e) h

lines_at : (m n : ℕ) (v : List ℕ) → m ≡ n → lines_from m (join m v) ≡ lines_from n (join n v)
lines_at m n v e = rw e

newline_first : (i : ℕ) (v : List ℕ) → join i (10 ∷ v) ≡ byte 10 (i + 1) (join (i + 1) v)
newline_first i v = Laws.join-byte i 10 v (λ q. omega arith)

whole_lines : (i : ℕ) (u : List ℕ) → ends_line u ≡ true → Whole i u
unfolding ends_line
whole_lines i [] e = clash (sym e)
whole_lines i (b ∷ []) e =
    let n : b ≡ 10 = eqb-true b 10 e in
    rw n (record {
      later = [];
      below = tt;
      first = λ v. rw (newline_first i v, newline_first i []) (unfold line_text in refl);
      lines = λ v. rw (newline_first i v) (unfold later_lines in refl);
    })
whole_lines i (b ∷ c ∷ s) e = go (both (eqb b 92) (eqb c 10)) refl e (whole_lines (i + 1 + 1) s) (whole_lines (i + 1) (c ∷ s))
  where
    two : i + 1 + 1 + length s ≡ i + length (b ∷ c ∷ s)
    two = omega arith

    one : i + 1 + length (c ∷ s) ≡ i + length (b ∷ c ∷ s)
    one = omega arith

    kept : (y : Bool) → eqb b 10 ≡ y → Whole (i + 1) (c ∷ s) → both (eqb b 92) (eqb c 10) ≡ false → Whole i (b ∷ c ∷ s)
    kept true h k f =
        record {
          later = record { start = i + 1; text = line_text (join (i + 1) (c ∷ s)) } ∷ k.later;
          below = (omega arith, below_at (i + 1 + length (c ∷ s)) (i + length (b ∷ c ∷ s)) k.later one k.below);
          first = λ v. unfold join line_text in rw (f, h);
          lines = λ v. unfold join later_lines in rw (f, h, k.first v, k.lines v, lines_at _ _ v one);
        }
    kept false h k f =
        record {
          later = k.later;
          below = below_at (i + 1 + length (c ∷ s)) (i + length (b ∷ c ∷ s)) k.later one k.below;
          first = λ v. unfold join line_text in rw (f, h, k.first v);
          lines = λ v. unfold join later_lines in rw (f, h, k.lines v, lines_at _ _ v one);
        }

    go : (x : Bool) → both (eqb b 92) (eqb c 10) ≡ x → pick x (ends_line s) (ends_line (c ∷ s)) ≡ true
        → (ends_line s ≡ true → Whole (i + 1 + 1) s) → (ends_line (c ∷ s) ≡ true → Whole (i + 1) (c ∷ s)) → Whole i (b ∷ c ∷ s)
    go true f h skip keep =
        let k = skip h in
        record {
          later = k.later;
          below = below_at (i + 1 + 1 + length s) (i + length (b ∷ c ∷ s)) k.later two k.below;
          first = λ v. unfold join in rw (f, k.first v);
          lines = λ v. unfold join in rw (f, k.lines v, lines_at _ _ v two);
        }
    go false f h skip keep = kept (eqb b 10) refl (keep h) f

-- ---- a line that is found starts behind whole lines, or at the start

find_cons : (n : List ℕ) (l : Line) (ls : List Line) (a : ℕ) → find n (l ∷ ls) ≡ Some a → (a ≡ l.start) ⊎ (find n ls ≡ Some a)
unfolding find
find_cons n l ls a e = go (both (not (is_ignored l.text)) (has_name n l.text)) e
  where
    go : (x : Bool) → pick x (Some l.start) (find n ls) ≡ Some a → (a ≡ l.start) ⊎ (find n ls ≡ Some a)
    go true q = inl cc
    go false q = inr q

-- The first bytes of s are whole lines, and a is the place behind them.
record Behind (i : ℕ) (s : List ℕ) (a : ℕ) : Type 0 where
  count : ℕ
  place : a ≡ i + count
  inside : count ≤ length s
  ends : ends_line (take count s) ≡ true

ends_nil : (s : List ℕ) → ends_line (take 0 s) ≡ true → ⊥
unfolding ends_line
ends_nil s e = clash (sym e)

-- The third case below, with what is known behind a pair and behind a byte.
module _ (n : List ℕ) (i b c : ℕ) (s : List ℕ) (a : ℕ) where
  rest : List Line
  rest = later_lines (join (i + 1) (c ∷ s))

  later : (k : Behind (i + 1) (c ∷ s) a) → both (eqb b 92) (eqb c 10) ≡ false → Behind i (b ∷ c ∷ s) a
  unfolding ends_line
  later k f = at k.count refl
    where
      at : (m : ℕ) → k.count ≡ m → Behind i (b ∷ c ∷ s) a
      at zero q = absurd (ends_nil (c ∷ s) (rw q at k.ends))
      at (suc m) q =
          record {
            count = suc (suc m);
            place = omega (arith, k.place, q);
            inside = omega (arith, k.inside, q);
            ends = rw f (rw q at k.ends);
          }

  kept_behind : (y : Bool) → eqb b 10 ≡ y → both (eqb b 92) (eqb c 10) ≡ false → (find n rest ≡ Some a → Behind (i + 1) (c ∷ s) a)
      → find n (pick y (record { start = i + 1; text = line_text (join (i + 1) (c ∷ s)) } ∷ rest) rest) ≡ Some a → Behind i (b ∷ c ∷ s) a
  unfolding ends_line rest
  kept_behind true h f keep q =
      ⊎_elim (λ e. record { count = 1; place = e; inside = omega arith; ends = h }) (λ e. later (keep e) f) (find_cons n _ rest a q)
  kept_behind false h f keep q = later (keep q) f

  either_behind : (x : Bool) → both (eqb b 92) (eqb c 10) ≡ x
      → find n (later_lines (pick x (join (i + 1 + 1) s) (byte b (i + 1) (join (i + 1) (c ∷ s))))) ≡ Some a
      → (find n (later_lines (join (i + 1 + 1) s)) ≡ Some a → Behind (i + 1 + 1) s a)
      → (find n (later_lines (join (i + 1) (c ∷ s))) ≡ Some a → Behind (i + 1) (c ∷ s) a)
      → Behind i (b ∷ c ∷ s) a
  unfolding ends_line later_lines rest
  either_behind true f q skip keep =
      let k = skip q in
      record {
        count = suc (suc k.count);
        place = omega (arith, k.place);
        inside = omega (arith, k.inside);
        ends = rw f k.ends;
      }
  either_behind false f q skip keep = kept_behind (eqb b 10) refl f keep q

find_none : (n : List ℕ) (a : ℕ) → find n [] ≡ Some a → ⊥
unfolding find
find_none n a e = cc

last_behind : (n : List ℕ) (i b a : ℕ) (x : Bool) → eqb b 10 ≡ x → find n (pick x (record { start = i + 1; text = line_text end } ∷ []) []) ≡ Some a
    → Behind i (b ∷ []) a
unfolding ends_line
last_behind n i b a true h q =
    ⊎_elim (λ e. record { count = 1; place = e; inside = omega arith; ends = h }) (λ e. absurd (find_none n a e)) (find_cons n _ [] a q)
last_behind n i b a false h q = absurd (find_none n a q)

found-behind : (n : List ℕ) (i : ℕ) (s : List ℕ) (a : ℕ) → find n (later_lines (join i s)) ≡ Some a → Behind i s a
unfolding join later_lines
found-behind n i [] a e = absurd (find_none n a e)
found-behind n i (b ∷ []) a e = last_behind n i b a (eqb b 10) refl e
found-behind n i (b ∷ c ∷ s) a e =
    either_behind n i b c s a (both (eqb b 92) (eqb c 10)) refl e (found-behind n (i + 1 + 1) s a) (found-behind n (i + 1) (c ∷ s) a)

-- ---- the lines of a file up to a line that is found, whatever stands from there on

-- Whole lines from any place of theirs on end a line.
ends_tail : (b c : ℕ) (s : List ℕ) → ends_line (b ∷ c ∷ s) ≡ true → ends_line (c ∷ s) ≡ true
unfolding ends_line
ends_tail b c s e = go (eqb b 92) (eqb c 10) refl e
  where
    newline : (s : List ℕ) → ends_line s ≡ true → ends_line (10 ∷ s) ≡ true
    newline [] h = clash (sym h)
    newline (d ∷ s) h = h

    go : (x y : Bool) → eqb c 10 ≡ y → pick (both x y) (ends_line s) (ends_line (c ∷ s)) ≡ true → ends_line (c ∷ s) ≡ true
    go true true f h = subst (λ (d : ℕ). ends_line (d ∷ s) ≡ true) (sym (eqb-true c 10 f)) (newline s h)
    go true false f h = h
    go false y f h = h

ends-drop : (i : ℕ) (u : List ℕ) → i < length u → ends_line u ≡ true → ends_line (drop i u) ≡ true
ends-drop zero u l e = e
ends-drop (suc i) [] l e = absurd (omega arith)
ends-drop (suc i) (b ∷ []) l e = absurd (omega arith)
ends-drop (suc i) (b ∷ c ∷ s) l e = ends-drop i (c ∷ s) (omega arith) (ends_tail b c s e)

-- A line that starts in whole lines does not depend on what stands behind them.
whole-text : (i : ℕ) (u v : List ℕ) → i < length u → ends_line u ≡ true → line_at (u ++ v) i ≡ line_at u i
unfolding line_at text_at
whole-text i u v l e = rw (drop-append-le i u v (omega arith)) ((whole_lines i (drop i u) (ends-drop i u l e)).first v)

pub record Cut (f : List ℕ) (a : ℕ) : Type 0 where
  pub before : List Line
  pub below : Below a before
  pub inside : a ≤ length f
  pub lines : (v : List ℕ) → lines_from 0 (join 0 (take a f ++ v)) ≡ before ++ lines_from a (join a v)
  pub texts : (i : ℕ) (v : List ℕ) → i < a → line_at (take a f ++ v) i ≡ line_at (take a f) i

cut-behind : (f : List ℕ) (a : ℕ) → Behind 0 f a → Cut f a
cut-behind f a k =
    let e : a ≡ k.count = omega (arith, k.place) in
    rw e (made (whole_lines 0 (take k.count f) k.ends) (length-take-le k.count f k.inside) (positive k.count refl))
  where
    positive : (m : ℕ) → k.count ≡ m → 0 < k.count
    positive zero q = absurd (ends_nil f (rw q at k.ends))
    positive (suc m) q = omega (arith, q)

    made : Whole 0 (take k.count f) → length (take k.count f) ≡ k.count → 0 < k.count → Cut f k.count
    made c n p =
        let m : 0 + length (take k.count f) ≡ k.count = omega (arith, n) in
        record {
          before = record { start = 0; text = line_text (join 0 (take k.count f)) } ∷ c.later;
          below = (p, below_at (0 + length (take k.count f)) k.count c.later m c.below);
          inside = k.inside;
          lines = λ v. rw (c.first v, c.lines v, m);
          texts = λ i v l. whole-text i (take k.count f) v (omega (arith, n)) k.ends;
        }

pub found-cut : (n f : List ℕ) (a : ℕ) → find_line f n ≡ Some a → Cut f a
unfolding find_line text_at
found-cut n f a e =
    ⊎_elim (λ z. rw z first) (λ q. cut-behind f a (found-behind n 0 f a q))
    (find_cons n (record { start = 0; text = line_text (join 0 f) }) (later_lines (join 0 f)) a e)
  where
    first : Cut f 0
    first = record { before = []; below = tt; inside = omega arith; lines = λ v. refl; texts = λ i v l. absurd (omega arith) }

-- ---- the same bytes at another place: the same lines, moved

abbrev pub Shifted : ℕ → ℕ → Option ℕ → Option ℕ → Type 0
Shifted i j (Some p) (Some q) = (d : ℕ) × (p ≡ i + d) × (q ≡ j + d)
Shifted i j (Some p) None = ⊥
Shifted i j None (Some q) = ⊥
Shifted i j None None = Unit {0}

shifted_down : (m i j : ℕ) (x y : Option ℕ) → Shifted (i + m) (j + m) x y → Shifted i j x y
shifted_down m i j (Some p) (Some q) h = (m + h.0, omega (arith, h.1), omega (arith, h.2))
shifted_down m i j (Some p) None h = h
shifted_down m i j None (Some q) h = h
shifted_down m i j None None h = tt

module _ (n : List ℕ) where
  -- what is found in the lines of s from a place on, and in those behind its first line
  abbrev found : ℕ → List ℕ → Option ℕ
  found i s = find n (lines_from i (join i s))

  abbrev found_later : ℕ → List ℕ → Option ℕ
  found_later i s = find n (later_lines (join i s))

  line_shifted : (i j : ℕ) (s : List ℕ) → Shifted i j (found_later i s) (found_later j s) → Shifted i j (found i s) (found j s)
  unfolding find
  line_shifted i j s h = rw (line_shift j i s) (go (both (not (is_ignored (line_text (join i s)))) (has_name n (line_text (join i s)))))
    where
      go : (x : Bool) → Shifted i j (pick x (Some i) (found_later i s)) (pick x (Some j) (found_later j s))
      go true = (0, omega arith, omega arith)
      go false = h

  later_shifted : (i j : ℕ) (s : List ℕ) → Shifted i j (found_later i s) (found_later j s)
  unfolding join later_lines
  later_shifted i j [] = unfold find in tt
  later_shifted i j (b ∷ []) = go (eqb b 10)
    where
      go : (x : Bool) → Shifted i j (find n (pick x (lines_from (i + 1) end) [])) (find n (pick x (lines_from (j + 1) end) []))
      go true = shifted_down 1 i j (find n (lines_from (i + 1) end)) (find n (lines_from (j + 1) end)) (line_shifted (i + 1) (j + 1) [] (unfold find in tt))
      go false = unfold find in tt
  later_shifted i j (b ∷ c ∷ s) = go (both (eqb b 92) (eqb c 10)) (later_shifted (i + 1 + 1) (j + 1 + 1) s) (later_shifted (i + 1) (j + 1) (c ∷ s))
    where
      after : (x : Bool) → Shifted (i + 1) (j + 1) (found_later (i + 1) (c ∷ s)) (found_later (j + 1) (c ∷ s))
          → Shifted i j (find n (pick x (lines_from (i + 1) (join (i + 1) (c ∷ s))) (later_lines (join (i + 1) (c ∷ s)))))
          (find n (pick x (lines_from (j + 1) (join (j + 1) (c ∷ s))) (later_lines (join (j + 1) (c ∷ s)))))
      after true keep = shifted_down 1 i j (found (i + 1) (c ∷ s)) (found (j + 1) (c ∷ s)) (line_shifted (i + 1) (j + 1) (c ∷ s) keep)
      after false keep = shifted_down 1 i j (found_later (i + 1) (c ∷ s)) (found_later (j + 1) (c ∷ s)) keep

      go : (x : Bool) → Shifted (i + 1 + 1) (j + 1 + 1) (found_later (i + 1 + 1) s) (found_later (j + 1 + 1) s)
          → Shifted (i + 1) (j + 1) (found_later (i + 1) (c ∷ s)) (found_later (j + 1) (c ∷ s))
          → Shifted i j (find n (later_lines (pick x (join (i + 1 + 1) s) (byte b (i + 1) (join (i + 1) (c ∷ s))))))
          (find n (later_lines (pick x (join (j + 1 + 1) s) (byte b (j + 1) (join (j + 1) (c ∷ s))))))
      go true skip keep =
          shifted_down 1 i j (found_later (i + 1 + 1) s) (found_later (j + 1 + 1) s)
          (shifted_down 1 (i + 1) (j + 1) (found_later (i + 1 + 1) s) (found_later (j + 1 + 1) s) skip)
      go false skip keep = after (eqb b 10) keep

  pub lines_shifted : (i j : ℕ) (s : List ℕ) → Shifted i j (find n (lines_from i (join i s))) (find n (lines_from j (join j s)))
  lines_shifted i j s = line_shifted i j s (later_shifted i j s)
