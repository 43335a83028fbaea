-- Readings of Ask 6, as calls: the search that counts.
use Rattle.std.specs.Prelude.{List, [], ◌∷◌}
use Rattle.spec.specs.Calls.{search_in, reports, refuses, Example, example, AllHold}

abbrev pub search_rulings : List Example
search_rulings =
    -- names of the asked length up to and with the first equal one; ignored lines hold none
    example (search_in "abc|n:\n#x|m:\n  \no|n|p:am:\n" (26 ∷ []) "n") (reports (1 ∷ 1 ∷ []) [] 0)
    ∷ example (search_in "abc|n:\n#x|m:\n  \no|n|p:am:\n" (26 ∷ []) "p") (reports (1 ∷ 4 ∷ []) [] 0)
    ∷ example (search_in "abc|n:\n#x|m:\n  \no|n|p:am:\n" (26 ∷ []) "m") (reports (0 ∷ 4 ∷ []) [] 0)
    -- a line without a colon is all names; names after the equal one aren't compared
    ∷ example (search_in "x\ny|z" (5 ∷ []) "z") (reports (1 ∷ 3 ∷ []) [] 0)
    ∷ example (search_in "n|n:" (4 ∷ []) "n") (reports (1 ∷ 1 ∷ []) [] 0)
    -- a name that only starts with the asked one, or is its start, has another length
    ∷ example (search_in "vt100|vt|vt1:" (13 ∷ []) "vt1") (reports (1 ∷ 1 ∷ []) [] 0)
    -- a comment that ends in a backslash swallows the names of its next line
    ∷ example (search_in "# c\\\nn:am:\nm:\n" (14 ∷ []) "n") (reports (0 ∷ 1 ∷ []) [] 0)
    -- the length is that of the joined name
    ∷ example (search_in "a\\\nb|cd:\nab:" (12 ∷ []) "ab") (reports (1 ∷ 1 ∷ []) [] 0)
    -- fields are no names; over all files; empty names have another length
    ∷ example (search_in "a:b:\nb:" (4 ∷ 7 ∷ []) "b") (reports (1 ∷ 2 ∷ []) [] 0)
    ∷ example (search_in "a:b:\nb:" (4 ∷ []) "b") (reports (0 ∷ 1 ∷ []) [] 0)
    ∷ example (search_in "||:" (3 ∷ []) "ab") (reports (0 ∷ 0 ∷ []) [] 0)
    -- it stops in the file where the name is found; each file is joined by itself; no ends, no name
    ∷ example (search_in "m|n:n|m:" (4 ∷ 8 ∷ []) "n") (reports (1 ∷ 2 ∷ []) [] 0)
    ∷ example (search_in "# c\\\nn:" (4 ∷ 7 ∷ []) "n") (reports (1 ∷ 1 ∷ []) [] 0)
    ∷ example (search_in "n:" [] "n") (reports (0 ∷ 0 ∷ []) [] 0)
    -- 16, then 1
    ∷ example (search_in "n:" (3 ∷ []) "") (refuses 16 0)
    ∷ example (search_in "n:" (2 ∷ []) "") (refuses 1 0)
    ∷ []

abbrev pub SearchRuled : Type 0
SearchRuled = AllHold search_rulings
