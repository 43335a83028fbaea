-- Readings of Ask 5, as calls: several files in one buffer.
use Rattle.std.specs.Prelude.{List, [], ◌∷◌, replicate}
use Rattle.spec.specs.Calls.{ascii, show_in, flag_in, list_in, flat_in, batch_in, reports, refuses, Example, example, AllHold}

abbrev pub file_rulings : List Example
file_rulings =
    -- a link is searched from the start of its own file: the n of the second file is not the one of the first, and no cycle
    example (list_in "n:am:tc=m:\nm:co#80:tc=n:\nn:li#24:\n" (11 ∷ 34 ∷ []) "n" 38)
    (reports (3 ∷ [])
    (97 ∷ 109 ∷ 1 ∷ 0 ∷ 0 ∷ 0 ∷ 0 ∷ 1 ∷ 0 ∷ 0 ∷ 0 ∷ 0
    ∷ 99 ∷ 111 ∷ 2 ∷ 1 ∷ 0 ∷ 0 ∷ 0 ∷ 80 ∷ 1 ∷ 0 ∷ 0 ∷ 0
    ∷ 108 ∷ 105 ∷ 2 ∷ 2 ∷ 0 ∷ 0 ∷ 0 ∷ 24 ∷ 1 ∷ 0 ∷ 0 ∷ 0 ∷ []) 2)
    ∷ example (list_in "n:am:tc=m:\nm:co#80:tc=n:\nn:li#24:\n" (11 ∷ 34 ∷ []) "n" 35) (refuses 9 35)
    ∷ example (flat_in "n:am:tc=m:\nm:co#80:tc=n:\nn:li#24:\n" (11 ∷ 34 ∷ []) "n" 18) (reports (18 ∷ []) (ascii "n:am:co#80:li#24:\n") 0)
    ∷ example (list_in "n:am:tc=m:\nm:co#80:tc=n:\nn:li#24:\n" (34 ∷ []) "n" 36) (refuses 7 36)
    -- and never in an earlier file, though the name can be asked
    ∷ example (flag_in "p:am:\nn:tc=p:\n" (6 ∷ 14 ∷ []) "n" "am") (refuses 5 0)
    ∷ example (flag_in "p:am:\nn:tc=p:\n" (6 ∷ 14 ∷ []) "p" "am") (reports (1 ∷ []) [] 0)
    -- a line is known by file and place: two lines at place 0 are no cycle, and a link to its own line is one
    ∷ example (flag_in "n:tc=m:m:am:" (7 ∷ 12 ∷ []) "n" "am") (reports (1 ∷ []) [] 0)
    ∷ example (flag_in "n:tc=n:n:tc=n:am:" (7 ∷ 17 ∷ []) "n" "am") (refuses 7 0)
    -- each file is joined by itself
    ∷ example (show_in "n:.x\\\nm:am:\n" (5 ∷ 12 ∷ []) "n") (reports (0 ∷ 5 ∷ []) [] 0)
    ∷ example (show_in "n:.x\\\nm:am:\n" (5 ∷ 12 ∷ []) "m") (reports (6 ∷ 11 ∷ []) [] 0)
    ∷ example (flag_in "n:.x\\\nm:am:\n" (12 ∷ []) "m" "am") (refuses 4 0)
    -- a file's end ends a line
    ∷ example (show_in "n:am:co:\n" (4 ∷ 9 ∷ []) "n") (reports (0 ∷ 4 ∷ []) [] 0)
    -- equal ends do not fall: empty files are allowed, eight ends too
    ∷ example (show_in "m:\nn:am:\n" (3 ∷ 3 ∷ 9 ∷ []) "n") (reports (3 ∷ 8 ∷ []) [] 0)
    ∷ example (show_in "n:am:\n" (replicate 8 6) "n") (reports (0 ∷ 5 ∷ []) [] 0)
    -- 16 before all others: ends that fall, that pass the buffer, more than eight
    ∷ example (show_in "n:am:\n" (5 ∷ 4 ∷ []) "") (refuses 16 0)
    ∷ example (show_in "n:am:\n" (7 ∷ []) "") (refuses 16 0)
    ∷ example (show_in "n:am:\n" (replicate 9 6) "n") (refuses 16 0)
    ∷ example (flag_in "n:am:" (6 ∷ []) "n" "a") (refuses 16 0)
    -- a batch: what the walk refuses stands in its answer, and 16 comes before 1
    ∷ example (batch_in "p:am:\nn:tc=p:\n" (6 ∷ 14 ∷ []) "n" (97 ∷ 109 ∷ 1 ∷ 0 ∷ []) 8) (reports (1 ∷ []) (2 ∷ 5 ∷ replicate 6 0) 0)
    ∷ example (batch_in "n:am:" (6 ∷ []) "" [] 0) (refuses 16 0)
    -- no ends, no file; bytes after the last end aren't read
    ∷ example (show_in "n:am:\n" [] "n") (refuses 4 0)
    ∷ example (show_in "n:am:\nm:am:\n" (6 ∷ []) "m") (refuses 4 0)
    ∷ []

abbrev pub FilesRuled : Type 0
FilesRuled = AllHold file_rulings
