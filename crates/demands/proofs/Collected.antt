-- What a run over the joined text collects: the first line that is not ignored and has the asked name.
-- Assumes nothing.
use Prim.Native.Nat.{ℕ, ◌+◌, ◌≤◌, ◌<◌}
use mathlib.Core.Path.{◌≡◌, refl, ◌∙◌, sym}
use mathlib.Core.Logic.{◌⊎◌, inl, inr}
use mathlib.Core.Bool.{Bool, true, false, not}
use mathlib.Core.List.{List, [], ◌∷◌}
use native.Mathlib.Numerals.{add-one}
use native.Mathlib.Omega.{arith}
use borrow.Author.Tests.{eq-eqb, ne_eqb, eqb-true, eqb-false, ltb-true, ltb-false, le-leb, lt-leb, leb-true, leb-false}
use lib.Dec.{eqb, ltb, leb}
use lib.ListN.{length, get_or, set, length-set, drop_of_length-le}
use lib.Seq.{drop-cons}
use Rattle.spec.specs.Choice.{pick, both, either}
use Rattle.spec.specs.Lists.{upto, later_pieces, same, among}
use Rattle.spec.specs.Lines.{Text, end, byte, line_text, blank, comment, is_ignored, first_name, later_names, has_name}
use Rattle.spec.specs.Finder.{Collecting, collecting, line_start, collect, matched_after, names_byte, line_byte, line_ends, joined_byte}
use Rattle.laws.proofs.Tests.{clash, both_false}
use Rattle.laws.proofs.TextSteps.{rest, same_nil, line-end, line_on, blank_not, name-end, name_on, names-end, names-cut, names_on}
use Rattle.demands.proofs.Cutting.{run}

-- ---- a line that has the name, and one that cannot have it

-- The line's bytes collected one after the other, and the line complete.
unfoldable pub gathered : ℕ → List ℕ → List ℕ → Collecting
gathered c t [] = collecting 4 0 c t
gathered c t (b ∷ l) =
    let stored = gathered (c + 1) (set t c b) l in
    let left = gathered c t l in
    pick (ltb c 16385) stored left

-- From the next line on.
unfoldable pub after_line : List ℕ → List ℕ → Text → Collecting
after_line name t end = line_start t
after_line name t (byte b n u) = pick (eqb b 10) (run name (line_start t) u) (after_line name t u)

pub after_on : (name t : List ℕ) (b n : ℕ) (u : Text) → (b ≡ 10 → ⊥) → after_line name t (byte b n u) ≡ after_line name t u
unfolding after_line
after_on name t b n u h = rw (ne_eqb b 10 h)

pub after-cut : (name t : List ℕ) (b n : ℕ) (u : Text) → b ≡ 10 → after_line name t (byte b n u) ≡ run name (line_start t) u
unfolding after_line
after-cut name t b n u e = rw (eq-eqb b 10 e)

module _ (name : List ℕ) where
  found_stays : (c : ℕ) (t : List ℕ) (u : Text) → run name (collecting 4 0 c t) u ≡ collecting 4 0 c t
  unfolding run joined_byte line_byte line_ends
  found_stays c t end = refl
  found_stays c t (byte b n u) = go (eqb b 10) (found_stays c t u)
    where
      go : (x : Bool) → run name (collecting 4 0 c t) u ≡ collecting 4 0 c t
          → run name (pick x (collecting 4 0 c t) (collecting 4 0 c t)) u ≡ collecting 4 0 c t
      go true e = e
      go false e = e

  passing : (c : ℕ) (t : List ℕ) (u : Text) → run name (collecting 3 0 c t) u ≡ after_line name t u
  unfolding run joined_byte line_byte line_ends after_line
  passing c t end = refl
  passing c t (byte b n u) = go (eqb b 10) (passing c t u)
    where
      go : (x : Bool) → run name (collecting 3 0 c t) u ≡ after_line name t u
          → run name (pick x (line_start t) (collecting 3 0 c t)) u ≡ pick x (run name (line_start t) u) (after_line name t u)
      go true e = refl
      go false e = e

  -- a byte is collected: it is stored and counted, or the line is too long already
  collected : (s m c : ℕ) (t : List ℕ) (b : ℕ) → collect (collecting s m c t) b ≡ pick (ltb c 16385) (collecting s m (c + 1) (set t c b)) (collecting s m c t)
  unfolding collect
  collected s m c t b = refl

  collect_matching : (c : ℕ) (t : List ℕ) (b : ℕ) (l : List ℕ) (u : Text) → ((c' : ℕ) (t' : List ℕ) → run name (collecting 2 0 c' t') u ≡ gathered c' t' l)
      → run name (collect (collecting 2 0 c t) b) u ≡ gathered c t (b ∷ l)
  unfolding gathered
  collect_matching c t b l u ih = rw (collected 2 0 c t b) (go (ltb c 16385))
    where
      go : (x : Bool) → run name (pick x (collecting 2 0 (c + 1) (set t c b)) (collecting 2 0 c t)) u ≡ pick x (gathered (c + 1) (set t c b) l) (gathered c t l)
      go true = ih (c + 1) (set t c b)
      go false = ih c t

  matching : (u : Text) (c : ℕ) (t : List ℕ) → run name (collecting 2 0 c t) u ≡ gathered c t (line_text u)
  unfolding run joined_byte line_byte line_ends line_text
  matching end c t = unfold gathered in refl
  matching (byte b n u) c t = go (eqb b 10) (λ c' t'. matching u c' t')
    where
      go : (x : Bool) → ((c' : ℕ) (t' : List ℕ) → run name (collecting 2 0 c' t') u ≡ gathered c' t' (line_text u))
          → run name (pick x (collecting 4 0 c t) (collect (collecting 2 0 c t) b)) u ≡ gathered c t (pick x [] (b ∷ line_text u))
      go true ih = unfold gathered in found_stays c t u
      go false ih = collect_matching c t b (line_text u) u ih

-- ---- the names of a line, from the present one on

module _ (name : List ℕ) (short : length name ≤ 64) where
  -- the present name, of which so many bytes are matched, goes on as the asked one
  unfoldable completes : ℕ → List ℕ → Bool
  completes k l = both (leb k (length name)) (same (rest name k) (first_name l))

  completes_end : (k : ℕ) (l : List ℕ) → first_name l ≡ [] → completes k l ≡ eqb k (length name)
  unfolding completes
  completes_end k l e = rw e (go (leb k (length name)) refl)
    where
      go : (x : Bool) → leb k (length name) ≡ x → both x (same (rest name k) []) ≡ eqb k (length name)
      go true h = sym (same_nil name k (leb-true k (length name) h))
      go false h = let n : length name < k = leb-false k (length name) h in sym (ne_eqb k (length name) (omega arith))

  completes_byte : (k b : ℕ) (l m : List ℕ) → first_name m ≡ b ∷ first_name l → completes (matched_after name k b) l ≡ completes k m
  unfolding completes matched_after rest same
  completes_byte k b l m e = rw e (go (ltb k (length name)) refl (eqb (get_or name k 256) b) refl)
    where
      over : leb 65 (length name) ≡ false
      over = lt-leb 65 (length name) (omega arith)

      go : (x : Bool) → ltb k (length name) ≡ x → (y : Bool) → eqb (get_or name k 256) b ≡ y
          → both (leb (pick y (k + 1) 65) (length name)) (same (rest name (pick y (k + 1) 65)) (first_name l)) ≡ both (leb k (length name)) (same
          (rest name k) (b ∷ first_name l))
      go true h true q =
          let i : k < length name = ltb-true k (length name) h in
          let j : k + 1 ≤ length name = omega arith in
          let o : k ≤ length name = omega arith in
          rw (le-leb (k + 1) (length name) j, le-leb k (length name) o, drop-cons name k 256 i, q, add-one)
      go true h false q =
          let i : k < length name = ltb-true k (length name) h in
          rw (over, drop-cons name k 256 i, q, both_false)
      go false h true q =
          let i : length name ≤ k = ltb-false k (length name) h in
          let j : length name < k + 1 = omega arith in
          rw (lt-leb (k + 1) (length name) j, drop_of_length-le name i, both_false)
      go false h false q =
          let i : length name ≤ k = ltb-false k (length name) h in
          rw (over, drop_of_length-le name i, both_false)

  -- whether the line is one that is searched for, where y tells that a byte was not blank
  unfoldable wanted : Bool → ℕ → List ℕ → Bool
  wanted y k l = both (either y (not (blank l))) (either (completes k l) (among name (later_names l)))

  -- how a run ends: with the line, or after it, with something left in the buffer
  abbrev pub Reached : Bool → ℕ → List ℕ → Text → Collecting → Type 0
  Reached true c t u z = z ≡ gathered c t (line_text u)
  Reached false c t u z = (t' : List ℕ) × (length t' ≡ length t) × (z ≡ after_line name t' u)

  onward : (w : Bool) (s m c : ℕ) (t : List ℕ) (b n : ℕ) (u : Text) → (b ≡ 10 → ⊥)
      → ((c' : ℕ) (t' : List ℕ) → (c' ≡ 0 → ⊥) → Reached w c' t' u (run name (collecting s m c' t') u))
      → Reached w c t (byte b n u) (run name (collect (collecting s m c t) b) u)
  onward w s m c t b n u h ih = rw (collected name s m c t b) (go w (ltb c 16385) refl ih)
    where
      go : (w x : Bool) → ltb c 16385 ≡ x
          → ((c' : ℕ) (t' : List ℕ) → (c' ≡ 0 → ⊥) → Reached w c' t' u (run name (collecting s m c' t') u))
          → Reached w c t (byte b n u) (run name (pick x (collecting s m (c + 1) (set t c b)) (collecting s m c t)) u)
      go true true e ih = rw (line_on b n u h) (unfold gathered in rw e (ih (c + 1) (set t c b) (omega arith)))
      go true false e ih =
          let i : 16385 ≤ c = ltb-false c 16385 e in
          rw (line_on b n u h) (unfold gathered in rw e (ih c t (omega arith)))
      go false true e ih =
          let r = ih (c + 1) (set t c b) (omega arith) in
          (r.0, r.1 ∙ length-set t c b, r.2 ∙ sym (after_on name r.0 b n u h))
      go false false e ih =
          let i : 16385 ≤ c = ltb-false c 16385 e in
          let r = ih c t (omega arith) in
          (r.0, r.1, r.2 ∙ sym (after_on name r.0 b n u h))

  -- ---- what each kind of byte makes of the question

  either_true : (x : Bool) → either x true ≡ true
  either_true true = refl
  either_true false = refl

  -- at a byte that ends the present name and the names
  wanted_end : (y : Bool) (k : ℕ) (l : List ℕ) → either y (not (blank l)) ≡ true → first_name l ≡ [] → later_names l ≡ [] → wanted y k l ≡ eqb k (length name)
  unfolding wanted among
  wanted_end y k l h e f = rw (h, completes_end k l e, f) (go (eqb k (length name)))
    where
      go : (x : Bool) → either x false ≡ x
      go true = refl
      go false = refl

  wanted_blank : (k : ℕ) → wanted false k [] ≡ false
  unfolding wanted blank
  wanted_blank k = refl

  wanted_bar : (y : Bool) (k : ℕ) (l m : List ℕ) → blank m ≡ false → first_name m ≡ [] → later_names m ≡ first_name l ∷ later_names l
      → eqb k (length name) ≡ false → wanted true 0 l ≡ wanted y k m
  unfolding wanted
  wanted_bar y k l m h e f q = rw (h, either_true y, completes_end k m e, q, f) (unfold completes among rest in rw (le-leb 0 (length name) (omega arith)))

  wanted_bar_asked : (y : Bool) (k : ℕ) (m : List ℕ) → blank m ≡ false → first_name m ≡ [] → eqb k (length name) ≡ true → wanted y k m ≡ true
  unfolding wanted
  wanted_bar_asked y k m h e q = rw (h, either_true y, completes_end k m e, q)

  wanted_byte : (y : Bool) (k b : ℕ) (l m : List ℕ) → blank m ≡ both (either (eqb b 32) (eqb b 9)) (blank l) → first_name m ≡ b ∷ first_name l
      → later_names m ≡ later_names l
      → wanted (either y (not (either (eqb b 32) (eqb b 9)))) (matched_after name k b) l ≡ wanted y k m
  unfolding wanted
  wanted_byte y k b l m h e f = rw (h, f, completes_byte k b l m e, go y (either (eqb b 32) (eqb b 9)) (blank l))
    where
      go : (y x z : Bool) → either (either y (not x)) (not z) ≡ either y (not (both x z))
      go true x z = refl
      go false true z = refl
      go false false z = refl

  -- ---- the bytes of the names

  names-line : (y : Bool) (k c : ℕ) (t : List ℕ) (b : ℕ) → (b ≡ 10 → ⊥)
      → joined_byte name (collecting (pick y 1 0) k c t) b ≡ names_byte name (collecting (pick y 1 0) k c t) b
  unfolding joined_byte line_byte
  names-line true k c t b h = rw (ne_eqb b 10 h)
  names-line false k c t b h = rw (ne_eqb b 10 h)

  no_comment : (c b : ℕ) → (c ≡ 0 → eqb b 35 ≡ false) → both (eqb c 0) (eqb b 35) ≡ false
  no_comment c b h = go (eqb c 0) refl
    where
      go : (x : Bool) → eqb c 0 ≡ x → both x (eqb b 35) ≡ false
      go true e = h (eqb-true c 0 e)
      go false e = refl

  module _ (s k c : ℕ) (t : List ℕ) (b : ℕ) (free : c ≡ 0 → eqb b 35 ≡ false) where
    at-colon : b ≡ 58 → names_byte name (collecting s k c t) b ≡ pick (eqb k (length name)) (collect (collecting 2 0 c t) b) (collecting 3 0 c t)
    unfolding names_byte
    at-colon e = rw (no_comment c b free, eq-eqb b 58 e)

    at_bar : b ≡ 124 → names_byte name (collecting s k c t) b ≡ collect (collecting (pick (eqb k (length name)) 2 1) 0 c t) b
    unfolding names_byte
    at_bar e = rw (no_comment c b free, ne_eqb b 58 (omega arith), eq-eqb b 124 e)

    at_other : (b ≡ 58 → ⊥) → (b ≡ 124 → ⊥)
        → names_byte name (collecting s k c t) b ≡ collect (collecting (pick (either (eqb b 32) (eqb b 9)) s 1) (matched_after name k b) c t) b
    unfolding names_byte
    at_other h g = rw (no_comment c b free, ne_eqb b 58 h, ne_eqb b 124 g)

  stage_is : (y x : Bool) → pick {A = ℕ} x (pick y 1 0) 1 ≡ pick (either y (not x)) 1 0
  stage_is true true = refl
  stage_is true false = refl
  stage_is false true = refl
  stage_is false false = refl

  -- a line's end, in its names
  names_stop : (y : Bool) (k c : ℕ) (t : List ℕ)
      → line_ends name (collecting (pick y 1 0) k c t) ≡ pick (both y (eqb k (length name))) (collecting 4 0 c t) (line_start t)
  unfolding line_ends
  names_stop true k c t = refl
  names_stop false k c t = refl

  wanted_stop : (y : Bool) (k : ℕ) → wanted y k [] ≡ both y (eqb k (length name))
  wanted_stop true k = wanted_end true k [] (unfold blank in refl) (unfold first_name upto in refl) (unfold later_names upto later_pieces in refl)
  wanted_stop false k = wanted_blank k

  blank-byte : (b n : ℕ) (u : Text) → (b ≡ 10 → ⊥) → blank (line_text (byte b n u)) ≡ both (either (eqb b 32) (eqb b 9)) (blank (line_text u))
  unfolding blank
  blank-byte b n u h = rw (line_on b n u h)

  first_byte : (b n : ℕ) (u : Text) → (b ≡ 10 → ⊥) → comment (line_text (byte b n u)) ≡ eqb b 35
  unfolding comment
  first_byte b n u h = rw (line_on b n u h)

  run_byte : (x : Collecting) (b n : ℕ) (u : Text) → run name x (byte b n u) ≡ run name (joined_byte name x b) u
  unfolding run
  run_byte x b n u = refl

  -- ---- THE NAMES: a run from within them, by its first byte

  module _ (y : Bool) (k c : ℕ) (t : List ℕ) (b n : ℕ) (u : Text) where
    abbrev From : Type 0
    From = Reached (wanted y k (line_text (byte b n u))) c t (byte b n u) (run name (joined_byte name (collecting (pick y 1 0) k c t) b) u)

    newline : b ≡ 10 → From
    unfolding joined_byte
    newline i = rw (eq-eqb b 10 i, line-end b n u i, wanted_stop y k, names_stop y k c t) (go (both y (eqb k (length name))))
      where
        go : (x : Bool) → Reached x c t (byte b n u) (run name (pick x (collecting 4 0 c t) (line_start t)) u)
        go true = rw (line-end b n u i) (unfold gathered in found_stays name c t u)
        go false = (t, refl, sym (after-cut name t b n u i))

    complete : (b ≡ 10 → ⊥) → run name (collect (collecting 2 0 c t) b) u ≡ gathered c t (line_text (byte b n u))
    complete h = rw (line_on b n u h) (collect_matching name c t b (line_text u) u (λ c' t'. matching name u c' t'))

    colon : (c ≡ 0 → eqb b 35 ≡ false) → b ≡ 58 → From
    colon free i =
        let h : b ≡ 10 → ⊥ = λ e. omega arith in
        let shown : either y (not (blank (line_text (byte b n u)))) ≡ true = rw (blank_not b n u h (λ e. off e)) (either_true y) in
        rw (
          wanted_end y k (line_text (byte b n u)) shown (name-end b n u (inr (inl i))) (names-end b n u (inr i)),
          names-line y k c t b h,
          at-colon
              (pick y 1 0) k c t b free i,
        ) (go h (eqb k (length name)))
      where
        off : (b ≡ 9) ⊎ (b ≡ 32) → ⊥
        off (inl e) = omega arith
        off (inr e) = omega arith

        go : (b ≡ 10 → ⊥) → (x : Bool) → Reached x c t (byte b n u) (run name (pick x (collect (collecting 2 0 c t) b) (collecting 3 0 c t)) u)
        go h true = complete h
        go h false = (t, refl, passing name c t u ∙ sym (after_on name t b n u h))

    bar : (c ≡ 0 → eqb b 35 ≡ false) → b ≡ 124
        → ((c' : ℕ) (t' : List ℕ) → (c' ≡ 0 → ⊥) → Reached (wanted true 0 (line_text u)) c' t' u (run name (collecting 1 0 c' t') u)) → From
    bar free i ih =
        let h : b ≡ 10 → ⊥ = λ e. omega arith in
        rw (names-line y k c t b h, at_bar (pick y 1 0) k c t b free i) (go h (eqb k (length name)) refl)
      where
        off : (b ≡ 9) ⊎ (b ≡ 32) → ⊥
        off (inl e) = omega arith
        off (inr e) = omega arith

        go : (b ≡ 10 → ⊥) → (x : Bool) → eqb k (length name) ≡ x
            → Reached (wanted y k (line_text (byte b n u))) c t (byte b n u) (run name (collect (collecting (pick x 2 1) 0 c t) b) u)
        go h true e = rw (wanted_bar_asked y k (line_text (byte b n u)) (blank_not b n u h off) (name-end b n u (inr (inr i))) e) (complete h)
        go h false e =
            rw (← wanted_bar y k (line_text u) (line_text (byte b n u)) (blank_not b n u h off) (name-end b n u (inr (inr i))) (names-cut b n u i) e)
            (onward (wanted true 0 (line_text u)) 1 0 c t b n u h ih)

    other : (c ≡ 0 → eqb b 35 ≡ false) → (b ≡ 10 → ⊥) → (b ≡ 58 → ⊥) → (b ≡ 124 → ⊥)
        → ((c' : ℕ) (t' : List ℕ) → (c' ≡ 0 → ⊥)
        → Reached (wanted (either y (not (either (eqb b 32) (eqb b 9)))) (matched_after name k b) (line_text u)) c' t' u
        (run name (collecting (pick (either y (not (either (eqb b 32) (eqb b 9)))) 1 0) (matched_after name k b) c' t') u)) → From
    other free h f g ih =
        rw (
          names-line y k c t b h,
          at_other (pick y 1 0) k c t b free f g,
          stage_is y (either (eqb b 32) (eqb b 9)),
          ← wanted_byte y k b (line_text u) (line_text (byte b n u)) (blank-byte b n u h) (name_on b n u stops) (names_on b n u ends g),
        )
        (onward (wanted (either y (not (either (eqb b 32) (eqb b 9)))) (matched_after name k b) (line_text u)) (pick (either y (not (either (eqb b 32)
        (eqb b 9)))) 1 0) (matched_after name k b) c t b n u h ih)
      where
        stops : (b ≡ 10) ⊎ ((b ≡ 58) ⊎ (b ≡ 124)) → ⊥
        stops (inl e) = h e
        stops (inr (inl e)) = f e
        stops (inr (inr e)) = g e

        ends : (b ≡ 10) ⊎ (b ≡ 58) → ⊥
        ends (inl e) = h e
        ends (inr e) = f e

  names_run : (u : Text) (y : Bool) (k c : ℕ) (t : List ℕ) → (c ≡ 0 → comment (line_text u) ≡ false)
      → Reached (wanted y k (line_text u)) c t u (run name (collecting (pick y 1 0) k c t) u)
  names_run end y k c t q = unfold run line_text in rw (wanted_stop y k, names_stop y k c t) (go (both y (eqb k (length name))))
    where
      go : (x : Bool) → Reached x c t end (pick x (collecting 4 0 c t) (line_start t))
      go true = unfold line_text gathered in refl
      go false = (t, refl, unfold after_line in refl)
  names_run (byte b n u) y k c t q =
      rw (run_byte (collecting (pick y 1 0) k c t) b n u) (by (eqb b 10) refl (eqb b 58) refl (eqb b 124) refl (λ y' k' c' t' q'. names_run u y' k' c' t' q'))
    where
      free : eqb b 10 ≡ false → c ≡ 0 → eqb b 35 ≡ false
      free e i = sym (first_byte b n u (eqb-false b 10 e)) ∙ q i

      by : (p : Bool) → eqb b 10 ≡ p → (r : Bool) → eqb b 58 ≡ r → (v : Bool) → eqb b 124 ≡ v
          → ((y' : Bool) (k' c' : ℕ) (t' : List ℕ) → (c' ≡ 0 → comment (line_text u) ≡ false)
          → Reached (wanted y' k' (line_text u)) c' t' u (run name (collecting (pick y' 1 0) k' c' t') u))
          → Reached (wanted y k (line_text (byte b n u))) c t (byte b n u) (run name (joined_byte name (collecting (pick y 1 0) k c t) b) u)
      by true e r f v g ih = newline y k c t b n u (eqb-true b 10 e)
      by false e true f v g ih = colon y k c t b n u (free e) (eqb-true b 58 f)
      by false e false f true g ih = bar y k c t b n u (free e) (eqb-true b 124 g) (λ c' t' z. ih true 0 c' t' (λ i. absurd (z i)))
      by false e false f false g ih =
          other y k c t b n u (free e) (eqb-false b 10 e) (eqb-false b 58 f) (eqb-false b 124 g)
          (λ c' t' z. ih (either y (not (either (eqb b 32) (eqb b 9)))) (matched_after name k b) c' t' (λ i. absurd (z i)))

  -- ---- A LINE: a run from its start

  at-comment : (s k : ℕ) (t : List ℕ) (b : ℕ) → eqb b 35 ≡ true → names_byte name (collecting s k 0 t) b ≡ collecting 3 0 0 t
  unfolding names_byte
  at-comment s k t b e = rw e

  comment-line : (u : Text) (t : List ℕ) → comment (line_text u) ≡ true → run name (line_start t) u ≡ after_line name t u
  comment-line end t e = clash (sym e ∙ unfold comment line_text in refl)
  comment-line (byte b n u) t e = go (eqb b 10) refl
    where
      go : (x : Bool) → eqb b 10 ≡ x → run name (line_start t) (byte b n u) ≡ after_line name t (byte b n u)
      go true h = clash (sym e ∙ rw (line-end b n u (eqb-true b 10 h)) (unfold comment in refl))
      go false h =
          let m : eqb b 35 ≡ true = sym (first_byte b n u (eqb-false b 10 h)) ∙ e in
          rw (run_byte (line_start t) b n u, names-line false 0 0 t b (eqb-false b 10 h), at-comment 0 0 t b m, after_on name t b n u (eqb-false b 10 h))
          (passing name 0 t u)

  wanted_line : (l : List ℕ) → wanted false 0 l ≡ both (not (blank l)) (has_name name l)
  unfolding wanted completes rest among
  wanted_line l = rw (le-leb 0 (length name) (omega arith))

  pub line_run : (u : Text) (t : List ℕ) → Reached (both (not (is_ignored (line_text u))) (has_name name (line_text u))) 0 t u (run name (line_start t) u)
  line_run u t = go (comment (line_text u)) refl
    where
      go : (x : Bool) → comment (line_text u) ≡ x → Reached (both (not (is_ignored (line_text u))) (has_name name (line_text u))) 0 t u (run name (line_start t) u)
      go true e = rw e (t, refl, comment-line u t e)
      go false e = rw (e, ← wanted_line (line_text u)) (names_run u false 0 0 t (λ i. e))
