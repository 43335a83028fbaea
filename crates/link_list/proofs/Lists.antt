-- The lists as they grow, line by line.
-- Assumes nothing.
use Rattle.std.specs.Prelude.{Option, Some, None}
use Prim.Native.Nat.{ℕ, ◌+◌, ◌≤◌, ◌<◌}
use mathlib.Core.Path.{◌≡◌, refl, ◌∙◌, ap, sym}
use mathlib.Core.Bool.{Bool, true, false, not}
use mathlib.Core.List.{List, [], ◌∷◌, ◌++◌, append_assoc, append-nil}
use native.Mathlib.Omega.{arith}
use native.Mathlib.Numerals.{add-one}
use borrow.Author.Tests.{lt-ltb, le-ltb}
use mir.Val.{bool_byte}
use lib.ListN.{length, take, drop, set, length-set}
use lib.Seq.{take-suc-set, drop-set-lt, drop-drop}
use Rattle.spec.specs.Choice.{pick}
use Rattle.spec.specs.Lists.{holds}
use Rattle.spec.specs.Lines.{Line, text_at, line_text, line_at, later_lines, lines_from, is_ignored}
use Rattle.spec.specs.Fields.{Verdict, no_link, link_to}
use Rattle.spec.specs.Repair.{lines_of, is_dropped, left, line_link, descriptions, too_many_lines}
use Rattle.laws.proofs.Tests.{both_true, not_is_true}
use Rattle.link_targets.specs.Targets.{name_at}
use Rattle.link_list.specs.Listing.{start_of, link_starts, name_of, link_names, names_at, Linked, PutLink, Wanted}
use Rattle.link_list.proofs.Links.{dropped_line, linked-line}

-- ---- a line more

dropped_none : (l : List ℕ) → is_dropped l ≡ true → line_link l ≡ no_link
unfolding is_dropped
dropped_none l e =
    let w = both_true (not (is_ignored l)) (not (holds 58 l)) e in
    dropped_line l (not_is_true _ w.0) (not_is_true _ w.1)

start_none : (at : ℕ) (rest : List ℕ) → start_of at no_link rest ≡ rest
unfolding start_of
start_none at rest = refl

start_one : (at : ℕ) (n rest : List ℕ) → start_of at (link_to n) rest ≡ at ∷ rest
unfolding start_of
start_one at n rest = refl

name-none : (rest : List (List ℕ)) → name_of no_link rest ≡ rest
unfolding name_of
name-none rest = refl

name_one : (n : List ℕ) (rest : List (List ℕ)) → name_of (link_to n) rest ≡ n ∷ rest
unfolding name_of
name_one n rest = refl

starts_step : (l : Line) (ls : List Line) → link_starts (left (l ∷ ls)) ≡ start_of l.start (line_link l.text) (link_starts (left ls))
unfolding left
starts_step l ls = go (is_dropped l.text) refl
  where
    go : (x : Bool) → is_dropped l.text ≡ x → link_starts (pick x (left ls) (l ∷ left ls)) ≡ start_of l.start (line_link l.text) (link_starts (left ls))
    go true e =
        sym (ap (λ (v : Verdict). start_of l.start v (link_starts (left ls))) (dropped_none l.text e) ∙ start_none l.start (link_starts (left ls)))
    go false e = unfold link_starts in refl

names_step : (l : Line) (ls : List Line) → link_names (left (l ∷ ls)) ≡ name_of (line_link l.text) (link_names (left ls))
unfolding left
names_step l ls = go (is_dropped l.text) refl
  where
    go : (x : Bool) → is_dropped l.text ≡ x → link_names (pick x (left ls) (l ∷ left ls)) ≡ name_of (line_link l.text) (link_names (left ls))
    go true e = sym (ap (λ (v : Verdict). name_of v (link_names (left ls))) (dropped_none l.text e) ∙ name-none (link_names (left ls)))
    go false e = unfold link_names in refl

count_step : (l : Line) (ls : List Line) → descriptions (l ∷ ls) ≡ pick (is_ignored l.text) 0 1 + descriptions ls
unfolding descriptions
count_step l ls = go (is_ignored l.text)
  where
    go : (x : Bool) → pick x (descriptions ls) (descriptions ls + 1) ≡ pick x 0 1 + descriptions ls
    go true = omega arith
    go false = omega arith

names-append : (db a b : List ℕ) → names_at db (a ++ b) ≡ names_at db a ++ names_at db b
unfolding names_at
names-append db [] b = refl
names-append db (p ∷ a) b = ap (λ (l : List (List ℕ)). name_at db p ∷ l) (names-append db a b)

names_one : (db : List ℕ) (a : ℕ) → names_at db (a ∷ []) ≡ name_at db a ∷ []
unfolding names_at
names_one db a = refl

take_more : (l : List ℕ) (n v : ℕ) → n < length l → take (n + 1) (set l n v) ≡ take n l ++ v ∷ []
take_more l n v h = rw add-one (take-suc-set l n v h)

kept_more : (l l₀ : List ℕ) (n v : ℕ) → drop n l ≡ drop n l₀ → drop (n + 1) (set l n v) ≡ drop (n + 1) l₀
kept_more l l₀ n v e =
    let above : n < n + 1 = omega arith in
    drop-set-lt (n + 1) l n v above ∙ sym (drop-drop 1 n l) ∙ ap (drop 1) e ∙ drop-drop 1 n l₀

-- What is listed so far, and what the lines that come have, is all.
pub record Listing (db ats₀ names₀ ats names : List ℕ) (ls : List Line) (lines n : ℕ) : Type 0 where
  pub small : n ≤ lines
  pub few : lines ≤ 4096
  pub ats_room : length ats ≡ 4096
  pub names-room : length names ≡ 4096
  pub ats_kept : drop n ats ≡ drop n ats₀
  pub names-kept : drop n names ≡ drop n names₀
  pub counts : descriptions (lines_of db) ≡ lines + descriptions ls
  pub starts : link_starts (left (lines_of db)) ≡ take n ats ++ link_starts (left ls)
  pub texts : link_names (left (lines_of db)) ≡ names_at db (take n names) ++ link_names (left ls)

pub listing_first : (db ats names : List ℕ) → length ats ≡ 4096 → length names ≡ 4096 → Listing db ats names ats names (lines_from 0 (text_at db 0)) 0 0
unfolding lines_of names_at
listing_first db ats names e f =
    record {
      small = omega arith;
      few = omega arith;
      ats_room = e;
      names-room = f;
      ats_kept = refl;
      names-kept = refl;
      counts = omega arith;
      starts = refl;
      texts = refl;
    }

module _ (db ats₀ names₀ ats names : List ℕ) (l : Line) (ls : List Line) (lines n c : ℕ) (q : Listing db ats₀ names₀ ats names (l ∷ ls) lines n)
    (e : c ≡ pick (is_ignored l.text) 0 1) where
  counted_on : descriptions (lines_of db) ≡ lines + c + descriptions ls
  counted_on = omega (arith, q.counts, count_step l ls, e)

  pub too_many : 4096 < lines + c → too_many_lines db ≡ true
  unfolding too_many_lines
  too_many h =
      let m : 4096 < descriptions (lines_of db) = omega (arith, counted_on) in
      lt-ltb 4096 (descriptions (lines_of db)) m

  module _ (h : lines + c ≤ 4096) (ats' names' : List ℕ) (m : ℕ) where
    pub passed : (r : Option ℕ) → Linked db (line_link l.text) r → PutLink r l.start ats names n ats' names' m
        → Listing db ats₀ names₀ ats' names' ls (lines + c) m
    passed None v p =
        let start = starts_step l ls ∙ ap (λ (v : Verdict). start_of l.start v (link_starts (left ls))) v ∙ start_none l.start _ in
        let name = names_step l ls ∙ ap (λ (v : Verdict). name_of v (link_names (left ls))) v ∙ name-none _ in
        record {
          small = omega (arith, q.small, p.2);
          few = h;
          ats_room = ap length p.0 ∙ q.ats_room;
          names-room = ap length p.1 ∙ q.names-room;
          ats_kept = rw (p.0, p.2) q.ats_kept;
          names-kept = rw (p.1, p.2) q.names-kept;
          counts = counted_on;
          starts = rw (p.0, p.2) (q.starts ∙ ap (λ (k : List ℕ). take n ats ++ k) start);
          texts = rw (p.1, p.2) (q.texts ∙ ap (λ (k : List (List ℕ)). names_at db (take n names) ++ k) name);
        }
    passed (Some a) v p =
        let one : c ≡ 1 = e ∙ ap (λ (x : Bool). pick x 0 1) (linked-line l.text (name_at db a) v) in
        let less : n < length ats = omega (arith, q.small, q.ats_room) in
        let less' : n < length names = omega (arith, q.small, q.names-room) in
        let more : take m ats' ≡ take n ats ++ l.start ∷ [] = rw (p.0, p.2) (take_more ats n l.start less) in
        let taken : take m names' ≡ take n names ++ a ∷ [] = rw (p.1, p.2) (take_more names n a less') in
        let more' : names_at db (take m names') ≡ names_at db (take n names) ++ name_at db a ∷ [] =
        ap (names_at db) taken ∙ names-append db (take n names) (a ∷ []) ∙ ap (λ (k : List (List ℕ)). names_at db (take n names) ++ k) (names_one db a) in
        let start = starts_step l ls ∙ ap (λ (v : Verdict). start_of l.start v (link_starts (left ls))) v ∙ start_one l.start (name_at db a) _ in
        let name = names_step l ls ∙ ap (λ (v : Verdict). name_of v (link_names (left ls))) v ∙ name_one (name_at db a) _ in
        record {
          small = omega (arith, q.small, p.2);
          few = h;
          ats_room = ap length p.0 ∙ length-set ats n l.start ∙ q.ats_room;
          names-room = ap length p.1 ∙ length-set names n a ∙ q.names-room;
          ats_kept = rw (p.0, p.2) (kept_more ats ats₀ n l.start q.ats_kept);
          names-kept = rw (p.1, p.2) (kept_more names names₀ n a q.names-kept);
          counts = counted_on;
          starts =
              q.starts
              ∙ ap (λ (k : List ℕ). take n ats ++ k) start
              ∙ sym (append_assoc (take n ats) (l.start ∷ []) (link_starts (left ls)))
              ∙ ap (λ (k : List ℕ). k ++ link_starts (left ls)) (sym more);
          texts =
              q.texts
              ∙ ap (λ (k : List (List ℕ)). names_at db (take n names) ++ k) name
              ∙ sym (append_assoc (names_at db (take n names)) (name_at db a ∷ []) (link_names (left ls)))
              ∙ ap (λ (k : List (List ℕ)). k ++ link_names (left ls)) (sym more');
        }

-- a line at a place, as the code sees it
pub passed-at : (db ats₀ names₀ ats names : List ℕ) (at lines n c : ℕ) → Listing db ats₀ names₀ ats names (lines_from at (text_at db at)) lines n
    → c ≡ pick (is_ignored (line_text (text_at db at))) 0 1 → lines + c ≤ 4096 → (ats' names' : List ℕ) (m : ℕ) (r : Option ℕ)
    → Linked db (line_link (line_at db at)) r → PutLink r at ats names n ats' names' m
    → Listing db ats₀ names₀ ats' names' (later_lines (text_at db at)) (lines + c) m
unfolding line_at
passed-at db ats₀ names₀ ats names at lines n c q e h ats' names' m r v p =
    passed db ats₀ names₀ ats names (record { start = at; text = line_text (text_at db at) }) (later_lines (text_at db at)) lines n c q e h ats' names' m r v p

pub listing_done : (db ats₀ names₀ ats names : List ℕ) (ls : List Line) (lines n : ℕ) → Listing db ats₀ names₀ ats names ls lines n → ls ≡ []
    → Wanted db ats₀ names₀ ats names n
listing_done db ats₀ names₀ ats names ls lines n q e =
    record {
      fits = omega (arith, q.small, q.few, q.ats_room);
      few = few_lines;
      starts = sym (q.starts ∙ ap (λ (l : List Line). take n ats ++ link_starts (left l)) e ∙ no_starts);
      texts = sym (q.texts ∙ ap (λ (l : List Line). names_at db (take n names) ++ link_names (left l)) e ∙ no_names);
      ats_kept = q.ats_kept;
      names-kept = q.names-kept;
    }
  where
    zero_lines : descriptions [] ≡ 0
    zero_lines = unfold descriptions in refl

    none : descriptions ls ≡ 0
    none = ap descriptions e ∙ zero_lines

    no_starts : take n ats ++ link_starts (left []) ≡ take n ats
    no_starts = unfold left link_starts in append-nil (take n ats)

    no_names : names_at db (take n names) ++ link_names (left []) ≡ names_at db (take n names)
    no_names = unfold left link_names in append-nil (names_at db (take n names))

    few_lines : too_many_lines db ≡ false
    few_lines =
        let m : descriptions (lines_of db) ≤ 4096 = omega (arith, q.counts, none, q.few) in
        unfold too_many_lines in le-ltb 4096 (descriptions (lines_of db)) m

-- ---- a line counted

pub count_of : (c : ℕ) (r x : Bool) → c ≡ bool_byte (not r) → r ≡ x → c ≡ pick x 0 1
count_of c r true e f = e ∙ ap (λ (b : Bool). bool_byte (not b)) f
count_of c r false e f = e ∙ ap (λ (b : Bool). bool_byte (not b)) f

pub at_most_one : (c : ℕ) (x : Bool) → c ≡ pick x 0 1 → c ≤ 1
at_most_one c true e = omega arith
at_most_one c false e = omega arith
