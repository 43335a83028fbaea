-- An edited file: a line's own bytes are replaced by another line with the same names. Whatever name is searched for, its line is found where
-- it was, moved if it stands behind the edited line.
-- Assumes nothing.
use Rattle.std.specs.Prelude.{Option, Some, None}
use Prim.Native.Nat.{ℕ, ◌+◌, ◌≤◌, ◌<◌}
use mathlib.Core.Path.{◌≡◌, refl, ◌∙◌, ap, sym}
use mathlib.Core.Bool.{Bool, true, false, not}
use mathlib.Core.Logic.{◌⊎◌, inl, inr}
use mathlib.Core.List.{List, [], ◌∷◌, ◌++◌, append_assoc}
use native.Mathlib.Omega.{arith}
use lib.ListN.{length, take, drop, length-append, length-drop, drop_of_length-le, take-append-drop}
use lib.Seq.{drop-drop, drop_at, length-take-le}
use Rattle.spec.specs.Choice.{pick, both}
use Rattle.spec.specs.Lists.{holds}
use Rattle.spec.specs.Lines.{join, text_at, Line, line_text, later_lines, lines_from, blank, comment, is_ignored, has_name, find, find_line, line_at}
use Rattle.spec.specs.Repair.{own_bytes}
use Rattle.laws.proofs.Tests.{clash}
use Rattle.laws.proofs.WholeLines.{part_line}
use Rattle.laws.proofs.Chunks.{Chunk, Open, Closed, cut_line, own_open, own_closed}
use Rattle.laws.proofs.EditedLines.{Below, Cut, Shifted, lines_shifted}

-- A line up to the place a stays; one that starts d bytes behind `to` starts d bytes behind c.
abbrev pub Moved : ℕ → ℕ → ℕ → Option ℕ → Option ℕ → Type 0
Moved a to c (Some p) (Some q) = ((p ≤ a) × (q ≡ p)) ⊎ ((d : ℕ) × (p ≡ to + d) × (q ≡ c + d))
Moved a to c (Some p) None = ⊥
Moved a to c None (Some q) = ⊥
Moved a to c None None = Unit {0}

shifted_moved : (a to c : ℕ) (x y : Option ℕ) → Shifted to c x y → Moved a to c x y
shifted_moved a to c (Some p) (Some q) h = inr h
shifted_moved a to c (Some p) None h = h
shifted_moved a to c None (Some q) h = h
shifted_moved a to c None None h = tt

module _ (n : List ℕ) (a to c : ℕ) where
  moved_before : (bs ls ms : List Line) → Below a bs → Moved a to c (find n ls) (find n ms) → Moved a to c (find n (bs ++ ls)) (find n (bs ++ ms))
  unfolding find
  moved_before [] ls ms b h = h
  moved_before (l ∷ bs) ls ms b h = go (both (not (is_ignored l.text)) (has_name n l.text)) (moved_before bs ls ms b.1 h)
    where
      go : (x : Bool) → Moved a to c (find n (bs ++ ls)) (find n (bs ++ ms))
          → Moved a to c (pick x (Some l.start) (find n (bs ++ ls))) (pick x (Some l.start) (find n (bs ++ ms)))
      go true k = inl (omega (arith, b.0), refl)
      go false k = k

  moved_here : (s t : List ℕ) (ls ms : List Line) → is_ignored t ≡ is_ignored s → has_name n t ≡ has_name n s → Moved a to c (find n ls) (find n ms)
      → Moved a to c (find n (record { start = a; text = s } ∷ ls)) (find n (record { start = a; text = t } ∷ ms))
  unfolding find
  moved_here s t ls ms i h k = rw (i, h) (go (both (not (is_ignored s)) (has_name n s)))
    where
      go : (x : Bool) → Moved a to c (pick x (Some a) (find n ls)) (pick x (Some a) (find n ms))
      go true = inl (omega arith, refl)
      go false = k

-- an empty line at the end is ignored
nothing_there : (n : List ℕ) (c : ℕ) → find n (lines_from c (join c [])) ≡ None
unfolding find join line_text later_lines blank comment
nothing_there n c = refl

-- ---- the line's own bytes, in its file

module _ (f : List ℕ) (a : ℕ) (inside : a ≤ length f) where
  up-to-end : a + length (drop a f) ≡ length f
  up-to-end = omega (arith, length-drop a f)

  own_last : Open (drop a f) → a + length (own_bytes f a) ≡ length f
  own_last o = ap (λ (s : List ℕ). a + length s) (own_open f (drop a f) a refl up-to-end o) ∙ up-to-end

  own_chunk : (k : Closed (drop a f)) → own_bytes f a ≡ k.chunk
  own_chunk k = own_closed f (drop a f) a refl up-to-end k

  -- A line with a colon has some.
  pub own_some : holds 58 (line_at f a) ≡ true → (0 < length (own_bytes f a)) × (a + length (own_bytes f a) ≤ length f)
  unfolding line_at text_at holds line_text join
  own_some h = go (cut_line (drop a f))
    where
      start : (s : List ℕ) → drop a f ≡ s → a < length f
      start [] e = clash (sym (rw e at h))
      start (b ∷ s) e = let n : length (drop a f) ≡ length (b ∷ s) = ap length e in omega (arith, up-to-end)

      go : Open (drop a f) ⊎ Closed (drop a f) → (0 < length (own_bytes f a)) × (a + length (own_bytes f a) ≤ length f)
      go (inl o) = (omega (arith, own_last o, start (drop a f) refl), omega (arith, own_last o))
      go (inr k) =
          let n : length (drop a f) ≡ length k.chunk + length k.rest = ap length k.whole ∙ length-append k.chunk k.rest in
          rw (own_chunk k) (k.some, omega (arith, up-to-end))

-- ---- the edited file

-- What the file `new` is to the file f, if the line at a has the text t there and ends at c.
pub record Edit (f : List ℕ) (a : ℕ) (t : List ℕ) (c : ℕ) (new : List ℕ) : Type 0 where
  pub search : (n : List ℕ) → Moved a (a + length (own_bytes f a)) c (find_line f n) (find_line new n)
  pub upto : (i : ℕ) → i < a → line_at new i ≡ line_at f i
  pub here : line_at new a ≡ t
  pub behind : (d : ℕ) → line_at new (c + d) ≡ line_at f (a + length (own_bytes f a) + d)

-- The line at a is replaced by the closed line with the text t, which is ignored just if the line is, and has the same names.
module _ (f : List ℕ) (a : ℕ) (cut : Cut f a) (bytes t : List ℕ) (chunk : Chunk bytes t)
    (ignored-same : is_ignored t ≡ is_ignored (line_at f a)) (names_same : (n : List ℕ) → has_name n t ≡ has_name n (line_at f a)) where
  abbrev to : ℕ
  to = a + length (own_bytes f a)

  abbrev new_to : ℕ
  new_to = a + length bytes

  abbrev edited_file : List ℕ
  edited_file = take a f ++ (bytes ++ drop to f)

  rest-moved : (n : List ℕ) → Open (drop a f) ⊎ Closed (drop a f)
      → Moved a to new_to (find n (later_lines (join a (drop a f)))) (find n (lines_from new_to (join new_to (drop to f))))
  rest-moved n (inl o) =
      let all : length f ≤ length f = omega arith in
      rw (own_last f a cut.inside o, (o a 0).0, drop_of_length-le f all, nothing_there n new_to) (unfold find in tt)
  rest-moved n (inr k) =
      let behind : ℕ = a + length k.chunk in
      let later : later_lines (join a (drop a f)) ≡ lines_from behind (join behind k.rest) =
      ap (λ (s : List ℕ). later_lines (join a s)) k.whole ∙ (k.is_chunk a k.rest).1 in
      let rest : drop behind f ≡ k.rest =
      sym (drop-drop (length k.chunk) a f) ∙ ap (drop (length k.chunk)) k.whole ∙ drop_at k.chunk k.rest _ refl in
      rw (own_chunk f a cut.inside k, later, rest)
      (shifted_moved a behind new_to (find n (lines_from behind (join behind k.rest))) (find n (lines_from new_to (join new_to k.rest)))
      (lines_shifted n behind new_to k.rest))

  edited-search : (n : List ℕ) → Moved a to new_to (find_line f n) (find_line edited_file n)
  unfolding find_line text_at
  edited-search n =
      let old : lines_from 0 (join 0 f) ≡ cut.before ++ lines_from a (join a (drop a f)) =
      ap (λ (s : List ℕ). lines_from 0 (join 0 s)) (sym (take-append-drop a f)) ∙ cut.lines (drop a f) in
      let new : lines_from 0 (join 0 edited_file) ≡ cut.before ++ lines_from a (join a (bytes ++ drop to f)) = cut.lines (bytes ++ drop to f) in
      let line = chunk a (drop to f) in
      rw (old, new) (moved_before n a to new_to cut.before _ _ cut.below
      (rw (line.0, line.1)
      (moved_here n a to new_to (line_text (join a (drop a f))) t _ _ (unfold line_at in ignored-same) (unfold line_at in names_same n)
      (rest-moved n (cut_line (drop a f))))))

  -- ---- the lines' texts

  text-upto : (i : ℕ) → i < a → line_at edited_file i ≡ line_at f i
  text-upto i l =
      cut.texts i (bytes ++ drop to f) l ∙ sym (cut.texts i (drop a f) l) ∙ ap (λ (s : List ℕ). line_at s i) (take-append-drop a f)

  text_here : line_at edited_file a ≡ t
  unfolding line_at text_at
  text_here = rw (drop_at (take a f) (bytes ++ drop to f) a (length-take-le a f cut.inside)) (chunk a (drop to f)).0

  drop_new : drop new_to edited_file ≡ drop to f
  drop_new =
      let front : List ℕ = take a f ++ bytes in
      let long : length front ≡ new_to = omega (arith, length-append (take a f) bytes, length-take-le a f cut.inside) in
      ap (drop new_to) (sym (append_assoc (take a f) bytes (drop to f))) ∙ drop_at front (drop to f) new_to long

  text-behind : (d : ℕ) → line_at edited_file (new_to + d) ≡ line_at f (to + d)
  text-behind d = sym (part_line edited_file new_to d) ∙ ap (λ (s : List ℕ). line_at s d) drop_new ∙ part_line f to d

  pub edit : Edit f a t (a + length bytes) (take a f ++ (bytes ++ drop (a + length (own_bytes f a)) f))
  edit = record { search = edited-search; upto = text-upto; here = text_here; behind = text-behind }
