-- THE LISTS ARE THE DEFINITION'S LINKS: by where the lines start and where the names are found.
-- Assumes nothing.
use Rattle.std.specs.Prelude.{Option, Some, None}
use Prim.Native.Nat.{ℕ, zero, suc, ◌+◌, ◌≤◌, ◌<◌}
use mathlib.Core.Path.{◌≡◌, refl, ◌∙◌, ap}
use mathlib.Core.Bool.{Bool, true, false, not}
use mathlib.Core.List.{List, [], ◌∷◌}
use native.Mathlib.Omega.{arith}
use borrow.Author.Tests.{ne_eqb}
use lib.Dec.{eqb}
use lib.ListN.{length, get_or}
use Rattle.spec.specs.Choice.{pick, both}
use Rattle.spec.specs.Lists.{upto}
use Rattle.spec.specs.Refusals.{good_name}
use Rattle.laws.proofs.Judging.{reading-good, good-name-short}
use Rattle.spec.specs.Lines.{Text, end, byte, join, text_at, Line, line_text, later_lines, is_ignored, has_name, find}
use Rattle.spec.specs.Fields.{Reading, malformed, ignored, link, capability, reading, Verdict, malformed_line, no_link, link_to}
use Rattle.spec.specs.Repair.{lines_of, is_dropped, left, field_pieces, first_link, link_of, line_link}
use Rattle.spec.specs.Repair.{Link, with_link, links_among, removed_links, reason_at, link_removals}
use Rattle.laws.proofs.RisingLines.{Rising, rising-from, rising-left, rising_lines}
use Rattle.link_targets.specs.Targets.{name_at, place_of, Targets, ShortNames}
use Rattle.link_rings.specs.Rings.{found_of, links_of, reasons_of, Starts}
use Rattle.link_rings.proofs.Removals.{reasons_removed, others_kept}
use Rattle.link_list.specs.Listing.{start_of, link_starts, name_of, link_names, names_at, Reasons}

-- ---- lines start inside the database

abbrev pub Inside : ℕ → List Line → Type 0
Inside size [] = Unit {0}
Inside size (l ∷ ls) = (l.start ≤ size) × Inside size ls

found_within : (size : ℕ) (name : List ℕ) (ls : List Line) (p : ℕ) → Inside size ls → find name ls ≡ Some p → p ≤ size
unfolding find
found_within size name [] p i e = let z : ◌≡◌ {A = ℕ} 0 1 = cc in absurd (omega arith)
found_within size name (l ∷ ls) p i e = go (both (not (is_ignored l.text)) (has_name name l.text)) e (found_within size name ls p i.1)
  where
    go : (x : Bool) → pick x (Some l.start) (find name ls) ≡ Some p → (find name ls ≡ Some p → p ≤ size) → p ≤ size
    go true q ih = let s : l.start ≡ p = cc in omega (arith, i.0)
    go false q ih = ih q

-- a place as a number, and back
there_and_back : (f : Option ℕ) → ((p : ℕ) → f ≡ Some p → p ≤ 1048576) → found_of (place_of f) ≡ f
unfolding found_of place_of
there_and_back None h = refl
there_and_back (Some p) h =
    let m = h p refl in
    let n : p ≡ 1048577 → ⊥ = λ e. omega arith in
    rw (ne_eqb p 1048577 n)

module _ (db : List ℕ) (among : List Line) (inside : Inside 1048576 among) where
  -- the targets of the names, one after the other
  abbrev pub Leads : List ℕ → List ℕ → Type 0
  Leads names tos = (k : ℕ) → k < length names → get_or tos k 0 ≡ place_of (find (name_at db (get_or names k 0)) among)

  one_link : (at : ℕ) (v : Verdict) (ls : List Line) (ts : List (List ℕ)) (starts : List ℕ) (ks : List Link)
      → ((names tos : List ℕ) → names_at db names ≡ ts → length tos ≡ length names → Leads names tos → ks ≡ links_of starts tos)
      → (names tos : List ℕ) → names_at db names ≡ name_of v ts → length tos ≡ length names → Leads names tos → with_link among at v ks
      ≡ links_of (start_of at v starts) tos
  unfolding with_link start_of name_of links_of names_at
  one_link at malformed_line ls ts starts ks ih names tos e l t = ih names tos e l t
  one_link at no_link ls ts starts ks ih names tos e l t = ih names tos e l t
  one_link at (link_to n) ls ts starts ks ih [] tos e l t = let z : ◌≡◌ {A = ℕ} 0 1 = cc in absurd (omega arith)
  one_link at (link_to n) ls ts starts ks ih (p ∷ names) [] e l t = absurd (omega arith)
  one_link at (link_to n) ls ts starts ks ih (p ∷ names) (v ∷ tos) e l t =
      let first : name_at db p ≡ n = cc in
      let rest : names_at db names ≡ ts = cc in
      let to : v ≡ place_of (find n among) = t 0 (omega arith) ∙ ap (λ (m : List ℕ). place_of (find m among)) first in
      let back : found_of v ≡ find n among = ap found_of to ∙ there_and_back (find n among) (λ q s. found_within 1048576 n among q inside s) in
      rw (back, ih names tos rest (omega arith) (λ k h. t (suc k) (omega arith)))

  links_are : (ls : List Line) (names tos : List ℕ) → names_at db names ≡ link_names ls → length tos ≡ length names → Leads names tos → links_among among ls
      ≡ links_of (link_starts ls) tos
  unfolding links_among link_starts link_names
  links_are [] names tos e l t = unfold links_of in refl
  links_are (l ∷ ls) names tos e m t =
      one_link l.start (line_link l.text) ls (link_names ls) (link_starts ls) (links_among among ls) (links_are ls) names tos e m t

-- THE LISTS: what `list_links` lists and `find_targets` finds are the links of the definition.
pub links_found : (db names tos : List ℕ) → Inside 1048576 (left (lines_of db)) → names_at db names ≡ link_names (left (lines_of db))
    → length tos ≡ length names → Targets db names tos (length names)
    → links_among (left (lines_of db)) (left (lines_of db)) ≡ links_of (link_starts (left (lines_of db))) tos
unfolding Targets
links_found db names tos i e l t = links_are db (left (lines_of db)) i (left (lines_of db)) names tos e l t

-- ---- no two lines of the list start at one place

abbrev Above : ℕ → List ℕ → Type 0
Above a l = (i : ℕ) → i < length l → a ≤ get_or l i 0

above_start : (a at : ℕ) (v : Verdict) (l : List ℕ) → a ≤ at → Above a l → Above a (start_of at v l)
unfolding start_of
above_start a at malformed_line l h b = b
above_start a at no_link l h b = b
above_start a at (link_to n) l h b = go
  where
    go : (i : ℕ) → i < suc (length l) → a ≤ get_or (at ∷ l) i 0
    go zero g = h
    go (suc i) g = b i (omega arith)

starts_above : (a : ℕ) (ls : List Line) → Rising a ls → Above a (link_starts ls)
unfolding link_starts
starts_above a [] r = λ i h. absurd (omega arith)
starts_above a (l ∷ ls) r =
    above_start a l.start (line_link l.text) (link_starts ls) r.0 (starts_above a ls (rising-from a (suc l.start) ls (omega (arith, r.0)) r.1))

abbrev Different : List ℕ → Type 0
Different l = (i j : ℕ) → i < length l → j < length l → get_or l i 0 ≡ get_or l j 0 → i ≡ j

apart-start : (at : ℕ) (v : Verdict) (l : List ℕ) → Above (suc at) l → Different l → Different (start_of at v l)
unfolding start_of
apart-start at malformed_line l b d = d
apart-start at no_link l b d = d
apart-start at (link_to n) l b d = go
  where
    go : (i j : ℕ) → i < suc (length l) → j < suc (length l) → get_or (at ∷ l) i 0 ≡ get_or (at ∷ l) j 0 → i ≡ j
    go zero zero g h e = refl
    go zero (suc j) g h e = let z = b j (omega arith) in absurd (omega (arith, z, e))
    go (suc i) zero g h e = let z = b i (omega arith) in absurd (omega (arith, z, e))
    go (suc i) (suc j) g h e = ap suc (d i j (omega arith) (omega arith) e)

starts_apart : (a : ℕ) (ls : List Line) → Rising a ls → Different (link_starts ls)
unfolding link_starts
starts_apart a [] r = λ i j h g e. absurd (omega arith)
starts_apart a (l ∷ ls) r =
    apart-start l.start (line_link l.text) (link_starts ls) (starts_above (suc l.start) ls r.1) (starts_apart (suc l.start) ls r.1)

abbrev Within : ℕ → List ℕ → Type 0
Within size l = (i : ℕ) → i < length l → get_or l i 0 ≤ size

within-start : (size at : ℕ) (v : Verdict) (l : List ℕ) → at ≤ size → Within size l → Within size (start_of at v l)
unfolding start_of
within-start size at malformed_line l h b = b
within-start size at no_link l h b = b
within-start size at (link_to n) l h b = go
  where
    go : (i : ℕ) → i < suc (length l) → get_or (at ∷ l) i 0 ≤ size
    go zero g = h
    go (suc i) g = b i (omega arith)

starts-within : (size : ℕ) (ls : List Line) → Inside size ls → Within size (link_starts ls)
unfolding link_starts
starts-within size [] r = λ i h. absurd (omega arith)
starts-within size (l ∷ ls) r = within-start size l.start (line_link l.text) (link_starts ls) r.0 (starts-within size ls r.1)

-- ---- the lines of a database start inside it

inside-byte : (size b n : ℕ) (t : Text) → n ≤ size → Inside size (later_lines t) → Inside size (later_lines (byte b n t))
unfolding later_lines
inside-byte size b n t h i = go (eqb b 10)
  where
    go : (x : Bool) → Inside size (pick x (record { start = n; text = line_text t } ∷ later_lines t) (later_lines t))
    go true = (h, i)
    go false = i

inside_later : (size at : ℕ) (s : List ℕ) → at + length s ≤ size → Inside size (later_lines (join at s))
unfolding join
inside_later size at [] h = unfold later_lines in tt
inside_later size at (b ∷ []) h = inside-byte size b (at + 1) end (omega arith) (unfold later_lines in tt)
inside_later size at (b ∷ c ∷ s) h =
    go (both (eqb b 92) (eqb c 10)) (inside_later size (at + 1 + 1) s (omega arith)) (inside_later size (at + 1) (c ∷ s) (omega arith))
  where
    go : (x : Bool) → Inside size (later_lines (join (at + 1 + 1) s)) → Inside size (later_lines (join (at + 1) (c ∷ s)))
        → Inside size (later_lines (pick x (join (at + 1 + 1) s) (byte b (at + 1) (join (at + 1) (c ∷ s)))))
    go true p q = p
    go false p q = inside-byte size b (at + 1) (join (at + 1) (c ∷ s)) (omega arith) q

inside-left : (size : ℕ) (ls : List Line) → Inside size ls → Inside size (left ls)
unfolding left
inside-left size [] i = tt
inside-left size (l ∷ ls) i = go (is_dropped l.text) (inside-left size ls i.1)
  where
    go : (x : Bool) → Inside size (left ls) → Inside size (pick x (left ls) (l ∷ left ls))
    go true h = h
    go false h = (i.0, h)

lines_inside : (size : ℕ) (db : List ℕ) → length db ≤ size → Inside size (left (lines_of db))
lines_inside size db h = inside-left size (lines_of db) (unfold lines_of text_at in (omega arith, inside_later size 0 db (omega arith)))

-- ---- THE WHOLE: which links go

-- What `judge_links` requires of the starts.
pub starts-good : (db : List ℕ) → length db ≤ 1048576 → Starts (link_starts (left (lines_of db)))
starts-good db h =
    record {
      apart = starts_apart 0 (left (lines_of db)) (rising-left 0 (lines_of db) (rising_lines db));
      inside = starts-within 1048576 (left (lines_of db))
          (lines_inside 1048576 db h);
    }

module _ (db names tos : List ℕ) (small : length db ≤ 1048576) (texts : names_at db names ≡ link_names (left (lines_of db))) (same : length tos ≡ length names)
    (found : Targets db names tos (length names)) where
  removals : link_removals (lines_of db) ≡ removed_links [] (links_of (link_starts (left (lines_of db))) tos)
  removals = unfold link_removals in ap (removed_links []) (links_found db names tos (lines_inside 1048576 db small) texts same found)

  -- the reasons that the code stores are those of the third pass, for the line of each link,
  pub reasons_right : length tos ≡ length (link_starts (left (lines_of db))) → (reasons : List ℕ) → reasons
      ≡ reasons_of (links_of (link_starts (left (lines_of db))) tos)
      → (i : ℕ) → i < length (link_starts (left (lines_of db))) → reason_at (link_removals (lines_of db)) (get_or (link_starts (left (lines_of db))) i 0)
      ≡ get_or reasons i 0
  reasons_right e reasons r i h = rw (removals, r) (reasons_removed (link_starts (left (lines_of db))) tos i (starts-good db small) e h)

  -- and a line without a link has none.
  pub others_right : (p : ℕ) → ((i : ℕ) → i < length (link_starts (left (lines_of db))) → get_or (link_starts (left (lines_of db))) i 0 ≡ p → ⊥)
      → reason_at (link_removals (lines_of db)) p ≡ 0
  others_right p n = rw removals (others_kept (link_starts (left (lines_of db))) tos p (starts-good db small) n)

-- ---- the names that are listed are short, as `find_targets` requires

abbrev Short : List (List ℕ) → Type 0
Short [] = Unit {0}
Short (n ∷ ns) = (length n ≤ 64) × Short ns

link-good : (fs : List (List ℕ)) (n : List ℕ) → link_of fs ≡ link_to n → good_name n ≡ true
unfolding link_of first_link
link-good [] n e = let z : ◌≡◌ {A = ℕ} 0 1 = cc in absurd (omega arith)
link-good (f ∷ fs) n e = go (reading (upto 58 f)) refl e (link-good fs n)
  where
    go : (r : Reading) → reading (upto 58 f) ≡ r → first_link r (link_of fs) ≡ link_to n → (link_of fs ≡ link_to n → good_name n ≡ true) → good_name n ≡ true
    go malformed s q ih = ih q
    go ignored s q ih = ih q
    go (link m) s q ih = let same : m ≡ n = cc in rw (← same) (reading-good (upto 58 f) m s)
    go (capability a b c) s q ih = ih q

line-good : (l n : List ℕ) → line_link l ≡ link_to n → good_name n ≡ true
unfolding line_link
line-good l n e = go (is_ignored l) e
  where
    go : (x : Bool) → pick x no_link (link_of (field_pieces l)) ≡ link_to n → good_name n ≡ true
    go true q = let z : ◌≡◌ {A = ℕ} 0 1 = cc in absurd (omega arith)
    go false q = link-good (field_pieces l) n q

names-short : (ls : List Line) → Short (link_names ls)
unfolding link_names name_of
names-short [] = tt
names-short (l ∷ ls) = go (line_link l.text) refl (names-short ls)
  where
    go : (v : Verdict) → line_link l.text ≡ v → Short (link_names ls) → Short (name_of v (link_names ls))
    go malformed_line e ih = ih
    go no_link e ih = ih
    go (link_to n) e ih = (good-name-short n (line-good l.text n e), ih)

short_each : (db names : List ℕ) → Short (names_at db names) → (k : ℕ) → k < length names → length (name_at db (get_or names k 0)) ≤ 64
unfolding names_at
short_each db [] s k h = absurd (omega arith)
short_each db (p ∷ names) s zero h = s.0
short_each db (p ∷ names) s (suc k) h = short_each db names s.1 k (omega arith)

pub names-good : (db names : List ℕ) → names_at db names ≡ link_names (left (lines_of db)) → ShortNames db names
unfolding ShortNames
names-good db names e = short_each db names (rw e (names-short (left (lines_of db))))

-- ---- as the code has it

pub listed-starts : (db ats : List ℕ) → length db ≤ 1048576 → ats ≡ link_starts (left (lines_of db)) → Starts ats
listed-starts db ats h e = rw e (starts-good db h)

pub listed_reasons : (db ats names tos reasons : List ℕ) → length db ≤ 1048576 → ats ≡ link_starts (left (lines_of db)) → names_at db names
    ≡ link_names (left (lines_of db))
    → length names ≡ length ats → length tos ≡ length ats → Targets db names tos (length names)
    → reasons ≡ reasons_of (links_of ats tos) → Reasons db ats reasons
unfolding Reasons
listed_reasons db ats names tos reasons small e texts n t found r i h =
    let same : length tos ≡ length names = omega arith in
    let starts : length tos ≡ length (link_starts (left (lines_of db))) = t ∙ ap length e in
    let judged : reasons ≡ reasons_of (links_of (link_starts (left (lines_of db))) tos) = r ∙ ap (λ (l : List ℕ). reasons_of (links_of l tos)) e in
    let inside : i < length (link_starts (left (lines_of db))) = omega (arith, ap length e) in
    ap (λ (l : List ℕ). reason_at (link_removals (lines_of db)) (get_or l i 0)) e
    ∙ reasons_right db names tos small texts same found starts reasons judged i inside
