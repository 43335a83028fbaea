-- Readings of Ask 8: finders that are opened, fed these blocks, ended and asked. The text has so many bytes, and then the output; all are
-- 255 at first.
use Rattle.std.specs.Prelude.{ℕ, ◌≡◌, List, [], ◌∷◌, ◌++◌, map, replicate}
use Prim.Native.String.{String as Chars}
use Rattle.spec.specs.Answers.{Outcome, Report, written_report}
use Rattle.spec.specs.Calls.{ascii, lent, reported, reports, refuses}
use Rattle.spec.specs.Finder.{Turn, turn, opened_finder, open_refusal, feed_turn, feed_all, end_turn, finder_outcome}

abbrev pub opened : Chars → ℕ → Turn
opened name room = turn (open_refusal (ascii name)) (opened_finder (ascii name)) (lent room)

abbrev pub ended : Turn → Turn
ended t = end_turn t.finder t.text

abbrev pub asked : Turn → ℕ → Outcome Report
asked t room = reported written_report (finder_outcome t.finder t.text (lent room))

pub record FinderCase : Type 0 where
  pub name : Chars
  pub blocks : List (List ℕ)
  pub text : ℕ
  pub room : ℕ
  pub stated : Outcome Report

abbrev pub finder_case : Chars → List (List ℕ) → ℕ → ℕ → Outcome Report → FinderCase
finder_case name blocks text room stated = record { name = name; blocks = blocks; text = text; room = room; stated = stated }

abbrev pub answered : FinderCase → Outcome Report
answered c = asked (ended (feed_all (opened c.name c.text) c.blocks)) c.room

abbrev pub finder_rulings : List FinderCase
finder_rulings =
    -- a backslash at a block's end vanishes with the newline that comes next, and stays before any other byte and before the end
    finder_case "a" (ascii "n|a:" ∷ ascii "b\\" ∷ ascii "\n c:\nx" ∷ []) 20 9 (reports (8 ∷ []) (ascii "n|a:b c:") 1)
    ∷ finder_case "n" (ascii "n:x\\" ∷ ascii "y" ∷ []) 5 5 (reports (5 ∷ []) (ascii "n:x\\y") 0)
    ∷ finder_case "n" (ascii "n:x\\" ∷ []) 4 4 (reports (4 ∷ []) (ascii "n:x\\") 0)
    -- a second backslash releases the first; the second newline ends the line
    ∷ finder_case "m" (ascii "n:le=\\\\" ∷ ascii "\n" ∷ ascii "\nm:am:" ∷ []) 9 5 (reports (5 ∷ []) (ascii "m:am:") 0)
    ∷ finder_case "n" (ascii "n:le=\\\\" ∷ ascii "\n" ∷ ascii "\nm:am:" ∷ []) 9 6 (reports (6 ∷ []) (ascii "n:le=\\") 0)
    -- a blank line is ignored, a blank name is found where a byte shows that the line is none
    ∷ finder_case "  " (ascii "  \n" ∷ ascii "  " ∷ ascii "|x:" ∷ []) 9 5 (reports (5 ∷ []) (ascii "  |x:") 0)
    ∷ finder_case "  " (ascii "  " ∷ []) 9 1 (refuses 4 1)
    -- `#x` is found as a second name only; a comment swallows its next line
    ∷ finder_case "#x" (ascii "#x:\n" ∷ ascii "y|#x" ∷ []) 9 4 (reports (4 ∷ []) (ascii "y|#x") 0)
    ∷ finder_case "n" (ascii "# c\\" ∷ ascii "\nn:am:\n" ∷ []) 9 9 (refuses 4 9)
    ∷ finder_case "n" (ascii "\\\n#n:\nn:" ∷ []) 9 2 (reports (2 ∷ []) (ascii "n:") 0)
    -- a line without a colon is found, and hides a later one
    ∷ finder_case "n" (ascii "n" ∷ ascii "\nn:am:" ∷ []) 9 2 (reports (1 ∷ []) (ascii "n") 1)
    -- names are compared whole, over blocks and pairs, and never past the colon
    ∷ finder_case "ab" (ascii "a" ∷ ascii "b" ∷ ascii "c|ab" ∷ ascii "d\n" ∷ ascii "xab|ab\n" ∷ []) 6 6 (reports (6 ∷ []) (ascii "xab|ab") 0)
    ∷ finder_case "abcd" (ascii "ab\\\ncd:" ∷ []) 5 5 (reports (5 ∷ []) (ascii "abcd:") 0)
    ∷ finder_case "n" (ascii "x:n|n\nn:" ∷ []) 3 2 (reports (2 ∷ []) (ascii "n:") 0)
    -- no blocks, empty blocks
    ∷ finder_case "n" [] 0 0 (refuses 4 0)
    ∷ finder_case "n" ([] ∷ [] ∷ []) 0 0 (refuses 4 0)
    -- 9 where the line is longer than the text, or than the output
    ∷ finder_case "ab" (ascii "xab|ab\n" ∷ []) 5 6 (refuses 9 6)
    ∷ finder_case "ab" (ascii "xab|ab\n" ∷ []) 6 5 (refuses 9 5)
    -- 16,384 joined bytes are collected, 16,385 are 8, which comes before 9
    ∷ finder_case "n" ((ascii "n:" ++ replicate 16382 120) ∷ []) 0 0 (refuses 9 0)
    ∷ finder_case "n" ((ascii "n:" ++ replicate 16383 120) ∷ []) 0 0 (refuses 8 0)
    -- a finder with a bad name has ended
    ∷ finder_case "a:" (ascii "a:" ∷ []) 9 2 (refuses 4 2)
    ∷ []

-- An answer before the end is 17, and so is a block or an end after it, of which the finder and its text know nothing.
abbrev pub before_the_end : Outcome Report
before_the_end = asked (feed_all (opened "n" 2) (ascii "n:" ∷ [])) 2

abbrev pub at_the_end : Turn
at_the_end = ended (feed_all (opened "n" 2) (ascii "n:" ∷ []))

pub record FinderRuled : Type 0 where
  pub answers : map answered finder_rulings ≡ map (λ c. c.stated) finder_rulings
  pub too_early : before_the_end ≡ refuses 17 2
  pub block_too_late : feed_turn at_the_end.finder at_the_end.text (ascii "m") ≡ turn 17 at_the_end.finder (ascii "n:")
  pub end_too_late : ended at_the_end ≡ turn 17 at_the_end.finder (ascii "n:")
  pub bad-name : (opened "a:" 0).refusal ≡ 1
