-- A chunk: bytes that are one closed line, wherever they stand and whatever follows them. A line's own bytes are one, if a newline closes
-- it; and so is a text without a newline that does not end in a backslash, with a newline behind it.
-- Assumes nothing.
use Prim.Native.Nat.{ℕ, zero, suc, ◌+◌, ◌-◌, ◌<◌}
use mathlib.Core.Path.{◌≡◌, refl, ◌∙◌, ap, sym}
use mathlib.Core.Logic.{◌⊎◌, inl, inr}
use mathlib.Core.Bool.{Bool, true, false}
use mathlib.Core.List.{List, [], ◌∷◌, ◌++◌}
use native.Mathlib.Omega.{arith}
use borrow.Author.Tests.{eqb-true, eqb-false, ne_eqb}
use lib.Dec.{eqb}
use lib.ListN.{length, take, drop, length-append}
use lib.Seq.{take_at, drop_at, drop-drop}
use Rattle.spec.specs.Choice.{both}
use Rattle.laws.proofs.Tests.{both_false}
use Rattle.spec.specs.Lines.{Text, end, byte, join, text_at, Line, line_text, later_lines, lines_from, line_end, extent}
use Rattle.laws.proofs.TextSteps as Laws
use Rattle.laws.proofs.WholeLines.{Free}
use Rattle.spec.specs.Repair.{own_bytes, ends_in_backslash}

abbrev pub Chunk : List ℕ → List ℕ → Type 0
Chunk c t = (at : ℕ) (s : List ℕ)
    → (line_text (join at (c ++ s)) ≡ t) × (later_lines (join at (c ++ s)) ≡ lines_from (at + length c) (join (at + length c) s))

-- ---- one byte before a text

join_kept : (at b c : ℕ) (s : List ℕ) → both (eqb b 92) (eqb c 10) ≡ false → join at (b ∷ c ∷ s) ≡ byte b (at + 1) (join (at + 1) (c ∷ s))
unfolding join
join_kept at b c s n = rw n

join_pair : (at b c : ℕ) (s : List ℕ) → both (eqb b 92) (eqb c 10) ≡ true → join at (b ∷ c ∷ s) ≡ join (at + 1 + 1) s
unfolding join
join_pair at b c s n = rw n

join_one : (at b : ℕ) → join at (b ∷ []) ≡ byte b (at + 1) end
unfolding join
join_one at b = refl

-- a newline is a chunk
newline_chunk : Chunk (10 ∷ []) []
newline_chunk at s =
    let e = Laws.join-byte at 10 s (λ q. omega arith) in
    (ap line_text e ∙ Laws.line-end 10 (at + 1) _ refl, ap later_lines e ∙ Laws.lines_cut 10 (at + 1) _ refl)

-- a byte that is no newline, before a chunk with which it makes no pair
byte_chunk : (b x : ℕ) (c t : List ℕ) → (b ≡ 10 → ⊥) → both (eqb b 92) (eqb x 10) ≡ false → Chunk (x ∷ c) t → Chunk (b ∷ x ∷ c) (b ∷ t)
byte_chunk b x c t n k h at s =
    let e = join_kept at b x (c ++ s) k in
    let w = h (at + 1) s in
    let z : at + 1 + length (x ∷ c) ≡ at + length (b ∷ x ∷ c) = omega arith in (
      ap line_text e ∙ Laws.line_on b (at + 1) _ n ∙ ap (λ (l : List ℕ). b ∷ l) w.0,
      ap later_lines e ∙ Laws.lines_on b (at + 1) _ n ∙ w.1 ∙ ap (λ (i : ℕ). lines_from i (join i s)) z,
    )

-- a pair before a chunk
pair_chunk : (b x : ℕ) (c t : List ℕ) → both (eqb b 92) (eqb x 10) ≡ true → Chunk c t → Chunk (b ∷ x ∷ c) t
pair_chunk b x c t k h at s =
    let e = join_pair at b x (c ++ s) k in
    let w = h (at + 1 + 1) s in
    let z : at + 1 + 1 + length c ≡ at + length (b ∷ x ∷ c) = omega arith in
    (ap line_text e ∙ w.0, ap later_lines e ∙ w.1 ∙ ap (λ (i : ℕ). lines_from i (join i s)) z)

-- ---- "written joined, with a newline, and a colon before that newline if it would end in a backslash"

pub closed_chunk : (l : List ℕ) → Free 10 l → ends_in_backslash l ≡ false → Chunk (l ++ 10 ∷ []) l
unfolding ends_in_backslash
closed_chunk [] h e = newline_chunk
closed_chunk (b ∷ []) h e = byte_chunk b 10 [] [] h.0 (rw e) newline_chunk
closed_chunk (b ∷ c ∷ l) h e = byte_chunk b c (l ++ 10 ∷ []) (c ∷ l) h.0 (rw (ne_eqb c 10 h.1.0) (both_false (eqb b 92))) (closed_chunk (c ∷ l) h.1 e)

-- ---- a text is cut behind its first closing newline, or it has none

-- no line follows, and the line goes up to the end
abbrev pub Open : List ℕ → Type 0
Open s = (at size : ℕ) → (later_lines (join at s) ≡ []) × (line_end size (join at s) ≡ size)

pub record Closed (s : List ℕ) : Type 0 where
  pub chunk : List ℕ
  pub rest : List ℕ
  pub text : List ℕ
  pub whole : s ≡ chunk ++ rest
  pub is_chunk : Chunk chunk text
  pub some : 0 < length chunk
  pub ends : (at size : ℕ) → line_end size (join at s) + 1 ≡ at + length chunk

open_nil : Open []
unfolding join later_lines line_end
open_nil at size = (refl, refl)

end-newline : (at size : ℕ) (t : Text) → line_end size (byte 10 (at + 1) t) + 1 ≡ at + 1
unfolding line_end
end-newline at size t = omega arith

end_on : (size b n : ℕ) (t : Text) → (b ≡ 10 → ⊥) → line_end size (byte b n t) ≡ line_end size t
unfolding line_end
end_on size b n t h = rw (ne_eqb b 10 h)

line_of-end : (size : ℕ) → line_end size end ≡ size
unfolding line_end
line_of-end size = refl

closed-newline : (s : List ℕ) → Closed (10 ∷ s)
closed-newline s = record {
  chunk = 10 ∷ [];
  rest = s;
  text = [];
  whole = refl;
  is_chunk = newline_chunk;
  some = omega arith;
  ends = λ at size. ap (λ (t : Text). line_end size t + 1) (Laws.join-byte at 10 s (λ q. omega arith)) ∙ end-newline at size _;
}

open_byte : (b : ℕ) → (b ≡ 10 → ⊥) → Open (b ∷ [])
open_byte b n at size =
    let e = join_one at b in
    (ap later_lines e ∙ Laws.lines_on b (at + 1) end n ∙ Laws.lines_end, ap (line_end size) e ∙ end_on size b (at + 1) end n ∙ line_of-end size)

open_kept : (b c : ℕ) (s : List ℕ) → (b ≡ 10 → ⊥) → both (eqb b 92) (eqb c 10) ≡ false → Open (c ∷ s) → Open (b ∷ c ∷ s)
open_kept b c s n k h at size =
    let e = join_kept at b c s k in
    let w = h (at + 1) size in
    (ap later_lines e ∙ Laws.lines_on b (at + 1) _ n ∙ w.0, ap (line_end size) e ∙ end_on size b (at + 1) _ n ∙ w.1)

open_pair : (b c : ℕ) (s : List ℕ) → both (eqb b 92) (eqb c 10) ≡ true → Open s → Open (b ∷ c ∷ s)
open_pair b c s k h at size =
    let e = join_pair at b c s k in
    let w = h (at + 1 + 1) size in
    (ap later_lines e ∙ w.0, ap (line_end size) e ∙ w.1)

closed_pair : (b c : ℕ) (s : List ℕ) → both (eqb b 92) (eqb c 10) ≡ true → Closed s → Closed (b ∷ c ∷ s)
closed_pair b c s k h = record {
  chunk = b ∷ c ∷ h.chunk;
  rest = h.rest;
  text = h.text;
  whole = ap (λ (l : List ℕ). b ∷ c ∷ l) h.whole;
  is_chunk = pair_chunk b c h.chunk h.text k h.is_chunk;
  some = omega arith;
  ends = λ at size.
      let w = h.ends (at + 1 + 1) size in
      let z : at + 1 + 1 + length h.chunk ≡ at + length (b ∷ c ∷ h.chunk) = omega arith in
      ap (λ (t : Text). line_end size t + 1) (join_pair at b c s k) ∙ w ∙ z;
}

closed-kept : (b c : ℕ) (s : List ℕ) → (b ≡ 10 → ⊥) → both (eqb b 92) (eqb c 10) ≡ false → Closed (c ∷ s) → Closed (b ∷ c ∷ s)
closed-kept b c s n k h = go h.chunk h.whole h.is_chunk h.some h.ends
  where
    go : (d : List ℕ) → c ∷ s ≡ d ++ h.rest → Chunk d h.text → 0 < length d
        → ((at size : ℕ) → line_end size (join at (c ∷ s)) + 1 ≡ at + length d) → Closed (b ∷ c ∷ s)
    go [] e ch so en = absurd (omega (arith, so))
    go (x ∷ d) e ch so en =
        let x-is : c ≡ x = cc in
        let k' : both (eqb b 92) (eqb x 10) ≡ false = rw (← x-is) k in
        record {
          chunk = b ∷ x ∷ d;
          rest = h.rest;
          text = b ∷ h.text;
          whole = ap (λ (l : List ℕ). b ∷ l) e;
          is_chunk = byte_chunk b x d h.text n k' ch;
          some = omega arith;
          ends = λ at size.
              let w = en (at + 1) size in
              let z : at + 1 + length (x ∷ d) ≡ at + length (b ∷ x ∷ d) = omega arith in
              ap (λ (t : Text). line_end size t + 1) (join_kept at b c s k) ∙ ap (λ (i : ℕ). i + 1) (end_on size b (at + 1) _ n) ∙ w ∙ z;
        }

pub cut_line : (s : List ℕ) → Open s ⊎ Closed s
cut_line [] = inl open_nil
cut_line (b ∷ []) = go (eqb b 10) refl
  where
    go : (x : Bool) → eqb b 10 ≡ x → Open (b ∷ []) ⊎ Closed (b ∷ [])
    go true e = rw (eqb-true b 10 e) (inr (closed-newline []))
    go false e = inl (open_byte b (eqb-false b 10 e))
cut_line (b ∷ c ∷ s) = go (both (eqb b 92) (eqb c 10)) refl (eqb b 10) refl (cut_line s) (cut_line (c ∷ s))
  where
    go : (x : Bool) → both (eqb b 92) (eqb c 10) ≡ x → (y : Bool) → eqb b 10 ≡ y → Open s ⊎ Closed s → Open (c ∷ s) ⊎ Closed (c ∷ s)
        → Open (b ∷ c ∷ s) ⊎ Closed (b ∷ c ∷ s)
    go true k y e (inl h) m = inl (open_pair b c s k h)
    go true k y e (inr h) m = inr (closed_pair b c s k h)
    go false k true e h m = rw (eqb-true b 10 e) (inr (closed-newline (c ∷ s)))
    go false k false e h (inl m) = inl (open_kept b c s (eqb-false b 10 e) k m)
    go false k false e h (inr m) = inr (closed-kept b c s (eqb-false b 10 e) k m)

-- ---- a line's own bytes

take_all : (l : List ℕ) → take (suc (length l)) l ≡ l
take_all [] = refl
take_all (b ∷ l) = ap (λ (k : List ℕ). b ∷ k) (take_all l)

module _ (db s : List ℕ) (at : ℕ) (here : drop at db ≡ s) (inside : at + length s ≡ length db) where
  pub own_open : Open s → own_bytes db at ≡ s
  unfolding own_bytes extent text_at
  own_open h =
      let z : length db + 1 - at ≡ suc (length s) = omega arith in
      rw (here, (h at (length db)).1, z) (take_all s)

  pub own_closed : (h : Closed s) → own_bytes db at ≡ h.chunk
  unfolding own_bytes extent text_at
  own_closed h =
      let z : line_end (length db) (join at s) + 1 - at ≡ length h.chunk = omega (arith, h.ends at (length db)) in
      rw (here, z, h.whole) (take_at h.chunk h.rest _ refl)

-- ---- a database line by line, from a place on: a last line that no newline closes; or a closed line, and what follows it

pub data LineByLine (db : List ℕ) : ℕ → List ℕ → Type 0 where
  last : (at : ℕ) (s : List ℕ) → Open s → own_bytes db at ≡ s → LineByLine db at s
  more : (at : ℕ) (c t r : List ℕ) → Chunk c t → own_bytes db at ≡ c → LineByLine db (at + length c) r → LineByLine db at (c ++ r)

-- The line at a place, by the bytes from there on.
abbrev pub line_of : ℕ → List ℕ → Line
line_of at s = record { start = at; text = line_text (join at s) }

module _ (db : List ℕ) where
  lines_from_lem : (fuel : ℕ) (s : List ℕ) (at : ℕ) → length s < fuel → drop at db ≡ s → at + length s ≡ length db → LineByLine db at s
  lines_from_lem zero s at f here inside = absurd (omega arith)
  lines_from_lem (suc fuel) s at f here inside = go (cut_line s) (lines_from_lem fuel)
    where
      go : Open s ⊎ Closed s → ((r : List ℕ) (i : ℕ) → length r < fuel → drop i db ≡ r → i + length r ≡ length db → LineByLine db i r) → LineByLine db at s
      go (inl o) on = last at s o (own_open db s at here inside o)
      go (inr c) on =
          let i = at + length c.chunk in
          let long : length s ≡ length c.chunk + length c.rest = ap length c.whole ∙ length-append c.chunk c.rest in
          let there : drop i db ≡ c.rest =
          sym (drop-drop (length c.chunk) at db) ∙ ap (drop (length c.chunk)) (here ∙ c.whole) ∙ drop_at c.chunk c.rest _ refl in
          let rest : LineByLine db i c.rest = on c.rest i (omega (arith, c.some)) there (omega arith) in
          rw c.whole (more at c.chunk c.text c.rest c.is_chunk (own_closed db s at here inside c) rest)

  pub line-by-line : LineByLine db 0 db
  line-by-line = lines_from_lem (suc (length db)) db 0 (omega arith) refl (omega arith)
