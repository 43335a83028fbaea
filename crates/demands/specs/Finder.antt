-- Ask 8: the finder that is fed blocks, beside the search of a whole file.
use Rattle.std.specs.Prelude.{ℕ, ◌≤◌, ◌<◌, ◌≡◌, true, List, [], ◌∷◌, ◌++◌, leb, ltb, length, Option, Some, None, Result, Err}
use Rattle.spec.specs.Choice.{pick}
use Rattle.spec.specs.Refusals.{good_name}
use Rattle.spec.specs.Lines.{find_line, line_at}
use Rattle.spec.specs.Answers.{Outcome, keeping, put}
use Rattle.spec.specs.Finder.{Turn, turn, opened_finder, feed_turn, feed_all, end_turn, finder_outcome}
use Rattle.spec.specs.declared.Refusal.TheVariants.{UnknownName, ChainTooLarge, NoRoom, InvalidState}
use Rattle.spec.specs.declared.finder.Finder.{Finder}
use Rattle.spec.specs.declared.Refusal.{Refusal}

unfoldable pub together : List (List ℕ) → List ℕ
together [] = []
together (s ∷ ss) = s ++ together ss

-- The finder and its text after a whole file was fed in one block and its end declared.
abbrev pub whole : List ℕ → List ℕ → List ℕ → Turn
whole name text file = let t = feed_turn (opened_finder name) text file in end_turn t.finder t.text

-- What is answered of a line that the search finds in a whole file, with so many bytes for the text. "A matching line longer than 16,384
-- joined bytes is 8 (fields aren't judged)."
unfoldable pub line_outcome : List ℕ → ℕ → Option ℕ → List ℕ → Outcome (Result ℕ Refusal)
line_outcome file room None buffer = keeping (Err UnknownName) buffer
line_outcome file room (Some p) buffer =
    let line = line_at file p in
    pick (ltb 16384 (length line)) (keeping (Err ChainTooLarge) buffer)
    (pick (leb (length line) room) (put line (length line) buffer) (keeping (Err NoRoom) buffer))

-- THE STATEMENT. Its proof is proofs/Finder.
pub record Finds : Type 0 where
  -- "however the file is cut, the end state and text are those of the whole file in one block": of any finder, so after any blocks too
  pub cut : (t : Turn) (s : List ℕ) (ss : List (List ℕ)) → feed_all t (s ∷ ss) ≡ feed_turn t.finder t.text (together (s ∷ ss))
  -- "of whatever length, none included": no byte alters nothing
  pub no_bytes : (f : Finder) (text : List ℕ) → ((feed_turn f text []).finder ≡ f) × ((feed_turn f text []).text ≡ text)
  -- "it collects the joined line of the first description with the asked name", in a file of any size: limit 3 does not hold
  pub answer : (name text file buffer : List ℕ) → good_name name ≡ true
      → finder_outcome (whole name text file).finder (whole name text file).text buffer ≡ line_outcome file (length text) (find_line file name) buffer
  -- "blocks or a second end after the end was declared ... are the new refusal 17 and alter nothing"
  pub too_late : (f : Finder) (text block : List ℕ) → (f.ended ≡ 0 → ⊥) → (feed_turn f text block ≡ turn 17 f text) × (end_turn f text ≡ turn 17 f text)
  -- "or an answer asked for before it"
  pub too_early : (f : Finder) (text buffer : List ℕ) → f.ended ≡ 0 → finder_outcome f text buffer ≡ keeping (Err InvalidState) buffer
  -- with 16,384 bytes for the text 9 is about the output alone
  pub text_enough : (f : Finder) (text buffer : List ℕ) → 16384 ≤ length text → (finder_outcome f text buffer).answer ≡ Err NoRoom
      → length buffer < f.line.count
