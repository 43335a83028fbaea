-- An edited buffer: bytes of one file are replaced, and the ends from it on move. Its files are the old ones but for that one.
-- Assumes nothing.
use Prim.Native.Nat.{ℕ, zero, suc, ◌+◌, ◌-◌, ◌≤◌, ◌<◌}
use mathlib.Core.Path.{◌≡◌, refl, ◌∙◌, ap, sym}
use mathlib.Core.Bool.{true}
use mathlib.Core.List.{List, [], ◌∷◌, ◌++◌, map, append_assoc}
use native.Mathlib.Omega.{arith}
use borrow.Author.Tests.{le-leb}
use lib.ListN.{length, take, drop, get_or, set, length-append, length-take, length-drop, length-map, take-append-drop}
use lib.Seq.{drop-drop, length-take-le, take_at, drop_at, take-append-le, drop-append-le, take-append-add, drop-append-add}
use Rattle.spec.specs.Files.{Files, files, rising, good_ends, cut_at, contents, file_start, file_at}
use Rattle.laws.proofs.FileParts.{rises, rising-at, good-few, good-rising, file-inside}
use Rattle.demands.specs.Pasting.{replaced, moved_ends}

-- ---- rising ends

rising_cons : (from size e : ℕ) (es : List ℕ) → from ≤ e → e ≤ size → rising e size es ≡ true → rising from size (e ∷ es) ≡ true
unfolding rising
rising_cons from size e es l h k = rw (le-leb from e l, le-leb e size h) k

-- A file starts no earlier than the first one.
start-past : (k from size : ℕ) (es : List ℕ) → rising from size es ≡ true → k < length es + 1 → from ≤ get_or (from ∷ es) k 0
start-past zero from size es h l = omega arith
start-past (suc k) from size [] h l = absurd (omega arith)
start-past (suc k) from size (e ∷ es) h l = let r = rises from size e es h in omega (arith, r.low, start-past k e size es r.later (omega arith))

-- ---- the files, cut off one after the other

unfoldable cut_off : ℕ → List ℕ → List ℕ → List (List ℕ)
cut_off from s [] = []
cut_off from s (e ∷ es) = take (e - from) s ∷ cut_off e (drop (e - from) s) es

cut_off_lem : (from size : ℕ) (bytes es : List ℕ) → rising from size es ≡ true → cut_at from bytes es ≡ cut_off from (drop from bytes) es
unfolding cut_at cut_off
cut_off_lem from size bytes [] h = refl
cut_off_lem from size bytes (e ∷ es) h =
    let r = rises from size e es h in
    let q : from + (e - from) ≡ e = omega (arith, r.low) in
    rw (cut_off_lem e size bytes es r.later, drop-drop (e - from) from bytes, q)

-- ---- ends that move alike

module _ (old new : ℕ) where
  abbrev moved : ℕ → ℕ
  moved e = e - old + new

  -- They cut the same bytes alike.
  cut_moved : (from size : ℕ) (s es : List ℕ) → old ≤ from → rising from size es ≡ true → cut_off (moved from) s (map moved es) ≡ cut_off from s es
  unfolding cut_off
  cut_moved from size s [] o h = refl
  cut_moved from size s (e ∷ es) o h =
      let r = rises from size e es h in
      let q : e - old + new - (from - old + new) ≡ e - from = omega (arith, r.low) in
      rw (q, cut_moved e size (drop (e - from) s) es (omega (arith, r.low)) r.later)

  rising-moved : (from size : ℕ) (es : List ℕ) → old ≤ from → rising from size es ≡ true → rising (moved from) (moved size) (map moved es) ≡ true
  rising-moved from size [] o h = unfold rising in refl
  rising-moved from size (e ∷ es) o h =
      let r = rises from size e es h in
      rising_cons (moved from) (moved size) (moved e) (map moved es) (omega (arith, r.low)) (omega (arith, r.high))
      (rising-moved e size es (omega (arith, r.low)) r.later)

-- ---- of the file with the number k the `old` bytes from its place a on are replaced, and the ends from it on move

module _ (new : List ℕ) (a old : ℕ) where
  abbrev in_file : List ℕ → List ℕ
  in_file f = take a f ++ (new ++ drop (a + old) f)

  -- Bytes of which the file's start is the place o.
  abbrev in_bytes : ℕ → List ℕ → List ℕ
  in_bytes o s = take (o + a) s ++ (new ++ drop (o + a + old) s)

  abbrev ends_from : ℕ → List ℕ → List ℕ
  ends_from k es = take k es ++ map (moved old (length new)) (drop k es)

  edit_later : (o : ℕ) (f r : List ℕ) → take (length f + (o + a)) (f ++ r) ++ (new ++ drop (length f + (o + a + old)) (f ++ r)) ≡ f ++ in_bytes o r
  edit_later o f r =
      rw (take-append-add f r (o + a), drop-append-add f r (o + a + old)) (append_assoc f (take (o + a) r) (new ++ drop (o + a + old) r))

  edit_here : (f r : List ℕ) → a + old ≤ length f → in_bytes 0 (f ++ r) ≡ in_file f ++ r
  edit_here f r h =
      let z : 0 + a ≡ a = omega arith in
      rw (z, take-append-le a f r (omega arith), drop-append-le (a + old) f r h)
      (sym (append_assoc (take a f) (new ++ drop (a + old) f) r ∙ ap (λ (l : List ℕ). take a f ++ l) (append_assoc new (drop (a + old) f) r)))

  edit_length : (f : List ℕ) → a + old ≤ length f → length (in_file f) ≡ length f - old + length new
  edit_length f h = simp (length-append, length-take, length-drop) (omega arith)

  cut_here : (from size e : ℕ) (s es : List ℕ) → rising from size (e ∷ es) ≡ true → from + length s ≡ size → a + old ≤ length (take (e - from) s)
      → cut_off from (in_bytes 0 s) (moved old (length new) e ∷ map (moved old (length new)) es)
      ≡ in_file (take (e - from) s) ∷ cut_off e (drop (e - from) s) es
  unfolding cut_off
  cut_here from size e s es h n fits =
      let r = rises from size e es h in
      let f : List ℕ = take (e - from) s in
      let rest : List ℕ = drop (e - from) s in
      let long : length f ≡ e - from = length-take-le (e - from) s (omega (arith, r.high)) in
      let whole : in_bytes 0 s ≡ in_file f ++ rest = ap (in_bytes 0) (sym (take-append-drop (e - from) s)) ∙ edit_here f rest fits in
      let size' : length (in_file f) ≡ e - old + length new - from = omega (arith, edit_length f fits, long, r.low) in
      rw (
        whole,
        take_at (in_file f) rest (e - old + length new - from) size',
        drop_at (in_file f) rest (e - old + length new - from) size',
        cut_moved old (length new) e size rest es (omega (arith, long, r.low)) r.later,
      )

  cut-edited : (k from size o : ℕ) (s es : List ℕ) → rising from size es ≡ true → from + length s ≡ size → k < length es → get_or (from ∷ es) k 0 ≡ from + o
      → a + old ≤ length (get_or (cut_off from s es) k [])
      → cut_off from (in_bytes o s) (ends_from k es) ≡ set (cut_off from s es) k (in_file (get_or (cut_off from s es) k []))
  unfolding cut_off
  cut-edited k from size o s [] h n l q fits = absurd (omega arith)
  cut-edited zero from size o s (e ∷ es) h n l q fits =
      let z : o ≡ 0 = omega arith in
      rw z (cut_here from size e s es h n fits)
  cut-edited (suc k) from size o s (e ∷ es) h n l q fits =
      let r = rises from size e es h in
      let past : e ≤ get_or (e ∷ es) k 0 = start-past k e size es r.later (omega arith) in
      let long : e + length (drop (e - from) s) ≡ size = omega (arith, length-drop (e - from) s, r.high, r.low) in
      step (cut-edited k e size (o - (e - from)) (drop (e - from) s) es r.later long (omega arith) (omega (arith, past, r.low)) fits)
      (length-take-le (e - from) s (omega (arith, r.high))) (omega (arith, past, r.low))
    where
      f : List ℕ
      f = take (e - from) s

      rest : List ℕ
      rest = drop (e - from) s

      p : ℕ
      p = o - (e - from)

      step : cut_off e (in_bytes p rest) (ends_from k es) ≡ set (cut_off e rest es) k (in_file (get_or (cut_off e rest es) k []))
          → length f ≡ e - from → o ≡ e - from + p
          → cut_off from (in_bytes o s) (ends_from (suc k) (e ∷ es)) ≡ set (cut_off from s (e ∷ es)) (suc k) (in_file (get_or (cut_off from s (e ∷ es)) (suc k) []))
      step ih long place =
          let oa : o + a ≡ length f + (p + a) = omega arith in
          let ot : o + a + old ≡ length f + (p + a + old) = omega arith in
          let parts : s ≡ f ++ rest = sym (take-append-drop (e - from) s) in
          let whole : in_bytes o s ≡ f ++ in_bytes p rest =
          rw (ot, oa) (ap (λ (l : List ℕ). take (length f + (p + a)) l ++ (new ++ drop (length f + (p + a + old)) l)) parts ∙ edit_later p f rest) in
          rw (whole, take_at f (in_bytes p rest) (e - from) long, drop_at f (in_bytes p rest) (e - from) long, ih)

  rising-edited : (k from size o : ℕ) (es : List ℕ) → rising from size es ≡ true → k < length es → get_or (from ∷ es) k 0 ≡ from + o
      → from + o + a + old ≤ get_or es k 0 → rising from (moved old (length new) size) (ends_from k es) ≡ true
  rising-edited k from size o [] h l q f = absurd (omega arith)
  rising-edited zero from size o (e ∷ es) h l q f =
      let r = rises from size e es h in
      rising_cons from (moved old (length new) size) (moved old (length new) e) (map (moved old (length new)) es) (omega arith) (omega (arith, r.high))
      (rising-moved old (length new) e size es (omega arith) r.later)
  rising-edited (suc k) from size o (e ∷ es) h l q f =
      let r = rises from size e es h in
      let past : e ≤ get_or (e ∷ es) k 0 = start-past k e size es r.later (omega arith) in
      let high : get_or es k 0 ≤ size = (rising-at size k e es r.later (omega arith)).1 in
      rising_cons from (moved old (length new) size) e (ends_from k es) r.low (omega arith)
      (rising-edited k e size (o - (e - from)) es r.later (omega arith) (omega (arith, r.low)) (omega (arith, r.low)))

-- ---- the edited buffer

module _ (db : Files) (k a old : ℕ) (new : List ℕ) (good : good_ends db ≡ true) (some : k < length db.ends)
    (fits : a + old ≤ length (file_at (contents db) k)) where
  rise : rising 0 (length db.bytes) db.ends ≡ true
  rise = good-rising db good

  off : contents db ≡ cut_off 0 db.bytes db.ends
  unfolding contents
  off = cut_off_lem 0 (length db.bytes) db.bytes db.ends rise

  inside : (file_start db k + a + old ≤ get_or db.ends k 0) × (get_or db.ends k 0 ≤ length db.bytes)
  inside = let w = file-inside db good k some in (omega (arith, w.0), w.1)

  abbrev buffer : List ℕ
  buffer = replaced (file_start db k + a) old new db.bytes

  abbrev ends : List ℕ
  ends = moved_ends k old (length new) db.ends

  buffer-length : length buffer ≡ moved old (length new) (length db.bytes)
  unfolding replaced
  buffer-length = simp (length-append, length-take, length-drop) (omega (arith, inside.0, inside.1))

  ends-length : length ends ≡ length db.ends
  unfolding moved_ends
  ends-length = simp (length-append, length-take, length-map, length-drop) (omega arith)

  rise' : rising 0 (length buffer) ends ≡ true
  unfolding moved_ends file_start
  rise' =
      rw buffer-length
      (rising-edited new a old k 0 (length db.bytes) (get_or (0 ∷ db.ends) k 0) db.ends rise some (omega arith) (omega (arith, inside.0)))

  -- 16 does not arise.
  pub good-edited : good_ends (files (replaced (file_start db k + a) old new db.bytes) (moved_ends k old (length new) db.ends)) ≡ true
  unfolding good_ends
  good-edited = rw (ends-length, le-leb (length db.ends) 8 (good-few db good)) rise'

  pub contents-edited : contents (files (replaced (file_start db k + a) old new db.bytes) (moved_ends k old (length new) db.ends))
      ≡ set (contents db) k (take a (file_at (contents db) k) ++ (new ++ drop (a + old) (file_at (contents db) k)))
  unfolding contents replaced moved_ends file_start file_at
  contents-edited =
      cut_off_lem 0 (length buffer) buffer ends rise'
      ∙ ap (λ (l : List ℕ). cut_off 0 l ends)
      (append_assoc (take (get_or (0 ∷ db.ends) k 0 + a) db.bytes) new (drop (get_or (0 ∷ db.ends) k 0 + a + old) db.bytes))
      ∙ cut-edited new a old k 0 (length db.bytes) (get_or (0 ∷ db.ends) k 0) db.bytes db.ends rise (omega arith) some (omega arith) (rw off at fits)
      ∙ sym (ap (λ (fs : List (List ℕ)). set fs k (in_file new a old (get_or fs k []))) off)
