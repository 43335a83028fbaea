-- Readings of document 01's open points, as calls: docs/DECISIONS.md says which point each group is about, and why it is read so.
use Rattle.std.specs.Prelude.{ℕ, true, false, List, [], ◌∷◌, ◌++◌, replicate}
use Rattle.spec.specs.Calls.{ascii, show, flag, number, string, list, flat, batch, repair, send, send_at, send_at_speed, fill, pad}
use Rattle.spec.specs.Calls.{asks, present, absent, refused_with, reports, refuses, mends, Example, example, AllHold}
use Rattle.spec.specs.Repair.{removal_record}

-- ---- lines and names

abbrev pub line_rulings : List Example
line_rulings =
    -- the preceding byte is the database's own, and backslashes are not counted
    example (string "n:cl=\\\\\nE:" "n" "cl" 3) (reports (1 ∷ []) (27 ∷ []) 2)
    ∷ example (flag "n:le=\\\\\n\nm:am:" "n" "le") (refuses 6 0)
    ∷ example (flag "n:le=\\\\\n\nm:am:" "m" "am") (reports (1 ∷ []) [] 0)
    -- a backslash at the very end stays
    ∷ example (flag "n:am\\" "n" "am") (refuses 6 0)
    ∷ example (string "n:le=\\\\" "n" "le" 1) (reports (1 ∷ []) (92 ∷ []) 0)
    ∷ example (string "n:le=^\\" "n" "le" 1) (reports (1 ∷ []) (28 ∷ []) 0)
    ∷ example (list "n:.x\\" "n" 0) (reports (0 ∷ []) [] 0)
    -- comments are joined lines that start with `#`; a physical line inside a line is none
    ∷ example (show "\\\n#c:am:\n" "#c") (refuses 4 0)
    ∷ example (show " #c\n" " #c") (reports (0 ∷ 3 ∷ []) [] 0)
    ∷ example (flag "n:am:\\\n#foo:" "n" "am") (refuses 6 0)
    -- a comment that ends in a backslash swallows its next line
    ∷ example (show "# c\\\nn:am:\n" "n") (refuses 4 0)
    -- an ignored line holds no names, but a blank name can be asked
    ∷ example (show "  \n  :am:\n" "  ") (reports (3 ∷ 9 ∷ []) [] 0)
    -- a line without a colon is shown, is malformed, and shadows later lines
    ∷ example (show "n\nn:am:" "n") (reports (0 ∷ 1 ∷ []) [] 0)
    ∷ example (flag "n\nn:am:" "n" "am") (refuses 6 0)
    -- names are never judged, and a backslash before the colon protects nothing
    ∷ example (flag "||n|\t|:am:" "n" "am") (reports (1 ∷ []) [] 0)
    ∷ example (flag "n|a\\:am:" "n" "am") (reports (1 ∷ []) [] 0)
    -- a line is shown with the joined pair that it begins with, without its closing newline
    ∷ example (show "m:\n\\\nn:am:\n" "n") (reports (3 ∷ 10 ∷ []) [] 0)
    -- a carriage return is an ordinary byte
    ∷ example (flag "n:am:\r\n" "n" "am") (refuses 6 0)
    -- the empty database has no description
    ∷ example (show "" "n") (refuses 4 0)
    ∷ []

-- ---- fields, the walk and the order

abbrev pub field_rulings : List Example
field_rulings =
    -- `tc` without a good name after it is malformed, not lost
    example (flag "n:tc=:" "n" "am") (refuses 6 0)
    ∷ example (flag "n:tc:" "n" "am") (refuses 6 0)
    ∷ example (flag "n:tc=m:" "n" "am") (refuses 5 0)
    -- only ignored fields may stand after a link
    ∷ example (flag "n:tc=m::.x: \t:\nm:am:" "n" "am") (reports (1 ∷ []) [] 0)
    ∷ example (flag "n:tc=m:am:\nm:am:" "n" "am") (refuses 6 0)
    -- name bytes may be `#`, `=`, `@`
    ∷ example (number "n:a##5:" "n" "a#") (reports (5 ∷ []) [] 0)
    ∷ example (flag "n:==:" "n" "==") (reports (1 ∷ []) [] 0)
    ∷ example (flag "n:@@@:@@:" "n" "@@") (reports [] [] 0)
    -- a dot first ignores whatever follows; a blank before it does not
    ∷ example (list "n:.\\:\t:" "n" 0) (reports (0 ∷ []) [] 0)
    ∷ example (list "n: .x:" "n" 0) (refuses 6 0)
    -- a caret takes the backslash after it; `^@` and `^`` are 0
    ∷ example (string "n:cl=^\\072^^^@^`^?:" "n" "cl" 8) (reports (8 ∷ []) (28 ∷ 48 ∷ 55 ∷ 50 ∷ 30 ∷ 0 ∷ 0 ∷ 127 ∷ []) 0)
    -- `\:` is no escape: the field ends at the colon
    ∷ example (string "n:cl=\\::" "n" "cl" 1) (refuses 6 1)
    ∷ example (string "n:cl=\\072:" "n" "cl" 2) (reports (1 ∷ []) (58 ∷ []) 1)
    ∷ example (string "n:cl=\\377:" "n" "cl" 1) (reports (1 ∷ []) (255 ∷ []) 0)
    ∷ example (string "n:cl=\\400:" "n" "cl" 1) (refuses 6 1)
    -- two or more digits that start with a zero are octal (document 02, Ask 4); one digit is decimal
    ∷ example (number "n:li#030:" "n" "li") (reports (24 ∷ []) [] 0)
    ∷ example (number "n:li#000030:" "n" "li") (reports (24 ∷ []) [] 0)
    ∷ example (number "n:li#0\\\n30:" "n" "li") (reports (24 ∷ []) [] 0)
    ∷ example (number "n:li#0:" "n" "li") (reports (0 ∷ []) [] 0)
    ∷ example (number "n:li#00:" "n" "li") (reports (0 ∷ []) [] 0)
    ∷ example (number "n:li#8:" "n" "li") (reports (8 ∷ []) [] 0)
    ∷ example (number "n:li#100:" "n" "li") (reports (100 ∷ []) [] 0)
    -- an 8 or a 9 in one is malformed, also where a cancel hides it
    ∷ example (number "n:li#08:" "n" "li") (refuses 6 0)
    ∷ example (number "n:li#019:" "n" "li") (refuses 6 0)
    ∷ example (flag "n:am:li@:tc=m:\nm:li#09:" "n" "am") (refuses 6 0)
    -- one to six digits of at most 65,535; the greatest octal number is 32,767
    ∷ example (number "n:li#077777:" "n" "li") (reports (32767 ∷ []) [] 0)
    ∷ example (number "n:li#0000030:" "n" "li") (refuses 6 0)
    ∷ example (number "n:li#65535:" "n" "li") (reports (65535 ∷ []) [] 0)
    ∷ example (number "n:li#65536:" "n" "li") (refuses 6 0)
    -- a record has the value; Flat copies the digits as written, and alone it answers the same
    ∷ example (list "n:li#030:" "n" 12) (reports (1 ∷ []) (108 ∷ 105 ∷ 2 ∷ 0 ∷ 0 ∷ 0 ∷ 0 ∷ 24 ∷ 0 ∷ 0 ∷ 0 ∷ 0 ∷ []) 0)
    ∷ example (flat "n:li#030:" "n" 10) (reports (10 ∷ []) (ascii "n:li#030:\n") 0)
    ∷ example (number "n:li#030:\n" "n" "li") (reports (24 ∷ []) [] 0)
    -- 1 before 2 before the walk; an absent string needs no room
    ∷ example (flag "" "a|b" "tc") (refuses 1 0)
    ∷ example (flag "" "n" "tc") (refuses 2 0)
    ∷ example (string "n:am:" "n" "am" 0) (reports [] [] 0)
    ∷ example (string "n:cl=ab:" "n" "cl" 1) (refuses 9 1)
    -- the line counts, not the name: a name may recur, a line may not
    ∷ example (flag "x|a:tc=b:\nb|a:am:" "x" "am") (reports (1 ∷ []) [] 0)
    ∷ example (flag "a|b:tc=b:\nb:am:" "a" "am") (refuses 7 0)
    -- a cancel hides fields of later descriptions
    ∷ example (flag "n:am@:tc=m:\nm:am:" "n" "am") (reports [] [] 0)
    ∷ []

-- ---- a batch of questions (document 02, Ask 3)

abbrev pub batch_rulings : List Example
batch_rulings =
    -- the three kinds, a cancel, a field behind a link; the value of a string is its decoded length, and its bytes need no room
    example (batch "n:am:co#80:cl=\\E[H:li@:tc=m:\nm:li#24:bs:le=^@:\n" "n" (asks "am" 1 ++ asks "co" 2 ++ asks "cl" 3 ++ asks "li" 2 ++ asks "bs" 1) 41)
    (reports (5 ∷ []) (present 1 ++ present 80 ++ present 3 ++ absent ++ present 1) 1)
    -- a value has four bytes, high byte first
    ∷ example (batch "n:li#65535:" "n" (asks "li" 2) 8) (reports (1 ∷ []) (0 ∷ 0 ∷ 0 ∷ 0 ∷ 0 ∷ 0 ∷ 255 ∷ 255 ∷ []) 0)
    -- a field of another kind is passed over; a question may be put twice
    ∷ example (batch "n:am:" "n" (asks "am" 2 ++ asks "am" 1 ++ asks "am" 1) 24) (reports (3 ∷ []) (absent ++ present 1 ++ present 1) 0)
    -- a cancel hides later fields of every kind, and none before it
    ∷ example (batch "n:am:am@:am#5:am=x:" "n" (asks "am" 1 ++ asks "am" 2 ++ asks "am" 3) 24) (reports (3 ∷ []) (present 1 ++ absent ++ absent) 0)
    -- 2 for a bad id, kind or fourth byte, in its own answer alone
    ∷ example (batch "n:am:" "n" (asks "tc" 1 ++ asks ".x" 1 ++ asks "a:" 1 ++ asks "am" 0 ++ asks "am" 4 ++ ascii "am" ++ 1 ∷ 1 ∷ asks "am" 1) 56)
    (reports (7 ∷ []) (refused_with 2 ++ refused_with 2 ++ refused_with 2 ++ refused_with 2 ++ refused_with 2 ++ refused_with 2 ++ present 1) 0)
    -- what the walk refuses stands in each other answer: 2 comes before it
    ∷ example (batch "n:am:tc=x:" "n" (asks "am" 1 ++ asks "am" 9) 16) (reports (2 ∷ []) (refused_with 5 ++ refused_with 2) 0)
    ∷ example (batch "n:am:" "x" (asks "am" 1) 8) (reports (1 ∷ []) (refused_with 4) 0)
    -- no question: nothing is written, for an unknown name too
    ∷ example (batch "n:am:" "x" [] 0) (reports (0 ∷ []) [] 0)
    -- 1, then 15, then 9 for the whole call
    ∷ example (batch "n:am:" "a|b" (ascii "a") 0) (refuses 1 0)
    ∷ example (batch "n:am:" "n" (asks "am" 1 ++ ascii "a") 8) (refuses 15 8)
    ∷ example (batch "n:am:" "n" (ascii "am") 0) (refuses 15 0)
    -- eight bytes of room for each answer, whatever it is
    ∷ example (batch "n:am@:" "n" (asks "am" 1) 7) (refuses 9 7)
    ∷ example (batch "n:am:" "x" (asks "am" 1 ++ asks "tc" 1) 15) (refuses 9 15)
    ∷ []

-- ---- repair (document 02, Ask 2)

abbrev pub repair_rulings : List Example
repair_rulings =
    -- a record is line, place, reason and count, each four bytes
    example (repair "# c\nn:am:x" 10 16) (mends "# c\nn:am:\n" 0 ((0 ∷ 0 ∷ 0 ∷ 1 ∷ 0 ∷ 0 ∷ 0 ∷ 5 ∷ 0 ∷ 0 ∷ 0 ∷ 2 ∷ 0 ∷ 0 ∷ 0 ∷ 1 ∷ []) ∷ []) 0)
    -- a line without a colon is dropped with its newline, which is not counted; ignored lines are counted and stay
    ∷ example (repair "# c:tc=q:\n\nm\n \t\nn:am:\n" 21 18) (mends "# c:tc=q:\n\n \t\nn:am:\n" 1 (removal_record 2 0 1 1 ∷ []) 2)
    -- a field's colon is counted, and the last field may have none; a changed line is closed by a newline, an unchanged one is as it was
    ∷ example (repair "n:x:am:y" 6 32) (mends "n:am:\n" 0 (removal_record 0 2 2 2 ∷ removal_record 0 7 2 1 ∷ []) 0)
    ∷ example (repair "n:x:\nn:am" 7 16) (mends "n:\nn:am" 0 (removal_record 0 2 2 2 ∷ []) 0)
    -- a changed line is written joined; places are those of the joined line
    ∷ example (repair "n|\\\nm:\\\n x:am:\n" 8 16) (mends "n|m:am:\n" 0 (removal_record 0 4 2 3 ∷ []) 0)
    ∷ example (repair "n:am:\r\n" 6 16) (mends "n:am:\n" 0 (removal_record 0 5 2 1 ∷ []) 0)
    -- malformed comes before what follows a link; a first link is the first that is well formed; ignored fields stay
    ∷ example (repair "n:tc=:am:tc=m:tc:tc=n:.x:co:\nm:\n" 17 64)
    (mends "n:am:tc=m:.x:\nm:\n" 0 (removal_record 0 2 2 4 ∷ removal_record 0 14 2 3 ∷ removal_record 0 17 3 5 ∷ removal_record 0 25 3 3 ∷ []) 0)
    -- an octal number with an 8 or a 9 is malformed (Ask 4); a number that stays keeps its digits
    ∷ example (repair "n:li#08:co#030:it#8:\n" 15 16) (mends "n:co#030:it#8:\n" 0 (removal_record 0 2 2 6 ∷ []) 0)
    -- what follows a link does not come back when the link goes
    ∷ example (repair "n:tc=q:am:\n" 3 32) (mends "n:\n" 0 (removal_record 0 2 4 5 ∷ removal_record 0 7 3 3 ∷ []) 0)
    -- a dropped line neither answers nor shadows
    ∷ example (repair "m\nn:tc=m:\n" 3 32) (mends "n:\n" 0 (removal_record 0 0 1 1 ∷ removal_record 1 2 4 5 ∷ []) 0)
    ∷ example (repair "m\nn:tc=m:\nm:\n" 11 16) (mends "n:tc=m:\nm:\n" 0 (removal_record 0 0 1 1 ∷ []) 0)
    -- only the first line of a ring loses its link; a line that leads into one keeps it
    ∷ example (repair "a:tc=b:\nb:tc=c:\nc:tc=b:\n" 19 16) (mends "a:tc=b:\nb:\nc:tc=b:\n" 0 (removal_record 1 2 5 5 ∷ []) 0)
    ∷ example (repair "a:tc=a:tc=b:\nb:tc=a:\n" 11 32) (mends "a:\nb:tc=a:\n" 0 (removal_record 0 2 5 5 ∷ removal_record 0 7 3 5 ∷ []) 0)
    -- a link that leads to a line with a lost link is not lost
    ∷ example (repair "a:tc=b:\nb:tc=q:\n" 11 16) (mends "a:tc=b:\nb:\n" 0 (removal_record 1 2 4 5 ∷ []) 0)
    -- lines that no name finds are mended too, and are no part of a ring
    ∷ example (repair "n:am:\nn:x:tc=n:\n" 14 16) (mends "n:am:\nn:tc=n:\n" 0 (removal_record 1 2 2 2 ∷ []) 0)
    -- a colon before the newline, where a backslash would take it away; a dot's field too
    ∷ example (repair "n:x:le=\\\\\\\n\nm:am:\n" 15 16) (mends "n:le=\\\\:\nm:am:\n" 0 (removal_record 0 2 2 2 ∷ []) 0)
    ∷ example (repair "n:x:.\\" 6 16) (mends "n:.\\:\n" 0 (removal_record 0 2 2 2 ∷ []) 0)
    -- the same line unchanged keeps its bytes, the pair too
    ∷ example (repair "n:le=\\\\\\\n\nm:am:\n" 16 0) (mends "n:le=\\\\\\\n\nm:am:\n" 0 [] 0)
    -- nothing, and nothing to mend
    ∷ example (repair "" 0 0) (mends "" 0 [] 0)
    ∷ example (repair "x|n:am:tc=m: :\nm:le=^\\" 22 0) (mends "x|n:am:tc=m: :\nm:le=^\\" 0 [] 0)
    -- no room in either buffer: both keep every byte
    ∷ example (repair "n:x:\n" 2 17) (refuses 9 19)
    ∷ example (repair "n:x:\n" 4 15) (refuses 9 19)
    ∷ []

-- ---- filling in

abbrev back : List ℕ
back = ascii "bk"

abbrev up : List ℕ
up = ascii "U"

abbrev pub position_rulings : List Example
position_rulings =
    -- the first unused one is the next, after an exchange the column; the axis stays
    example (send_at (ascii "%r%d,%d") 1 2 [] [] 3) (reports (3 ∷ []) (ascii "2,1") 0)
    ∷ example (send_at (ascii "%d%r") 1 2 [] [] 3) (refuses 11 3)
    ∷ example (send_at (ascii "%d%i%d") 1 2 [] [] 2) (reports (2 ∷ []) (ascii "13") 0)
    ∷ example (send_at (ascii "%d%d%i") 1 2 [] [] 3) (refuses 11 3)
    ∷ example (send_at (ascii "%2%3") 7 1234 [] [] 6) (reports (6 ∷ []) (ascii "071234") 0)
    ∷ example (send_at (ascii "%n%d %d") 1 96 [] [] 4) (reports (4 ∷ []) (ascii "97 0") 0)
    ∷ example (send_at (ascii "%>! %d") 34 0 [] [] 2) (reports (2 ∷ []) (ascii "66") 0)
    ∷ example (send_at (ascii "%>! %d") 33 0 [] [] 2) (reports (2 ∷ []) (ascii "33") 0)
    ∷ example (send_at (ascii "%%") 0 0 [] [] 1) (reports (1 ∷ []) (ascii "%") 0)
    -- 10 before 11 before 12; operands may be percent signs
    ∷ example (send_at (ascii "%d%d%+") 1 2 [] [] 3) (refuses 10 3)
    ∷ example (send_at (ascii "%") 1 2 [] [] 1) (refuses 10 1)
    ∷ example (send_at (ascii "%>a") 1 2 [] [] 1) (refuses 10 1)
    ∷ example (send_at (ascii "%d%d%.") 1 2 [] [] 3) (refuses 11 3)
    ∷ example (send_at (ascii "%.") 256 0 [] [] 1) (refuses 12 1)
    ∷ example (send_at (ascii "%+%") 1 2 [] [] 1) (reports (1 ∷ []) (38 ∷ []) 0)
    -- the sum is tested, not the value; a negative is refused before it could be raised
    ∷ example (send_at (ascii "%D%+ ") 9 0 [] [] 1) (reports (1 ∷ []) (23 ∷ []) 0)
    ∷ example (send_at (ascii "%D%.") 9 0 back up 1) (refuses 12 1)
    ∷ example (send_at (ascii "%D%n") 9 0 [] [] 1) (refuses 12 1)
    ∷ example (send_at (ascii "%B%B%B") 9999 0 [] [] 1) (refuses 12 1)
    -- raised until it is none of 0, 4, 9 and 10, compensated in order and by type; the three rules on empty strings
    ∷ example (send_at (ascii "%.%.x") 0 9 back up 8) (reports (8 ∷ []) (1 ∷ 11 ∷ ascii "xUbkbk") 0)
    ∷ example (send_at (ascii "%.%.x") 9 0 back up 7) (reports (7 ∷ []) (11 ∷ 1 ∷ ascii "xUUbk") 0)
    ∷ example (send_at (ascii "%.%.x") 4 10 back up 6) (reports (6 ∷ []) (5 ∷ 11 ∷ ascii "xUbk") 0)
    ∷ example (send_at (ascii "%.%.x") 8 11 back up 3) (reports (3 ∷ []) (8 ∷ 11 ∷ ascii "x") 0)
    ∷ example (send_at (ascii "%r%.%.x") 0 9 back up 8) (reports (8 ∷ []) (11 ∷ 1 ∷ ascii "xbkbkU") 0)
    ∷ example (send_at (ascii "%.%.x") 0 9 [] up 6) (reports (6 ∷ []) (1 ∷ 11 ∷ ascii "xU" ++ (8 ∷ 8 ∷ [])) 0)
    ∷ example (send_at (ascii "%.%.x") 4 9 back [] 7) (reports (7 ∷ []) (4 ∷ 11 ∷ ascii "xbkbk") 0)
    ∷ example (send_at (ascii "%.%.x") 0 9 [] [] 3) (reports (3 ∷ []) (0 ∷ 9 ∷ ascii "x") 0)
    -- the byte to be sent counts, after c was added; the range test comes before raising
    ∷ example (send_at (4 ∷ ascii "%+" ++ (4 ∷ ascii "%+" ++ (9 ∷ []))) 5 0 back up 9) (reports (9 ∷ []) (4 ∷ 11 ∷ 11 ∷ ascii "UUbkbk") 0)
    ∷ example (send_at (ascii "%.") 256 0 back up 1) (refuses 12 1)
    -- digits and compensations are not looked at
    ∷ example (send_at (ascii "%d%.") 0 0 (10 ∷ []) up 3) (reports (3 ∷ []) (48 ∷ 1 ∷ 10 ∷ []) 0)
    -- two compensations and a buffer one short
    ∷ example (send_at (ascii "%.%.x") 0 9 back up 7) (refuses 9 7)
    ∷ []

-- ---- padding and the order of Send

abbrev pub padding_rulings : List Example
padding_rulings =
    -- the prefix is split off before the body is filled in
    example (send_at (ascii "%dA") 5 0 [] [] 2) (reports (2 ∷ []) (ascii "5A") 0)
    -- over 4 digits before the point, also without a point; over one after it
    ∷ example (send (ascii "12345") 1 0 1) (refuses 13 1)
    ∷ example (send (ascii "00001") 1 0 1) (refuses 13 1)
    ∷ example (send (ascii "1.23") 1 0 1) (refuses 13 1)
    ∷ example (send (ascii "1.2.3") 1 0 2) (reports (2 ∷ []) (ascii ".3") 0)
    ∷ example (send (ascii "5.*") 1 0 2) (reports (2 ∷ []) (ascii ".*") 0)
    ∷ example (send (ascii "5*.3") 1 0 2) (reports (2 ∷ []) (ascii ".3") 0)
    ∷ example (send (ascii "5**") 1 0 1) (reports (1 ∷ []) (ascii "*") 0)
    ∷ example (send (ascii ".5x") 1 9600 3) (reports (3 ∷ []) (ascii ".5x") 0)
    -- digits of a delay are decimal, also behind a zero
    ∷ example (send (ascii "010") 1 9600 11) (reports (10 ∷ []) (replicate 10 0) 1)
    ∷ example (send (ascii "08") 1 9600 8) (reports (8 ∷ []) (replicate 8 0) 0)
    -- the tenth is multiplied by the lines too; percent signs are copied
    ∷ example (send (ascii "1.5*%d") 2 9600 5) (reports (5 ∷ []) (ascii "%d" ++ replicate 3 0) 0)
    -- Send: 13, then 12 for lines and speed, also without padding, then 9 (document 02, Ask 7)
    ∷ example (send (ascii "12345") 0 0 1) (refuses 13 1)
    ∷ example (send (ascii "x") 0 0 0) (refuses 12 0)
    ∷ example (send (ascii "x") 1001 0 1) (refuses 12 1)
    ∷ example (send (ascii "x") 1 115201 1) (refuses 12 1)
    ∷ example (send (ascii "x") 1000 115200 0) (refuses 9 0)
    ∷ []

-- ---- Send at and its two halves (document 02, Ask 7)

abbrev pub half_rulings : List Example
half_rulings =
    -- Send at: 12 for row and column, 13, the body's faults, 12 for lines and speed, 9
    example (send_at_speed (ascii "12345%x") 10000 0 [] [] 0 0 0) (refuses 12 0)
    ∷ example (send_at_speed (ascii "12345%x") 0 10000 [] [] 0 0 0) (refuses 12 0)
    ∷ example (send_at_speed (ascii "12345%x") 0 0 [] [] 0 0 0) (refuses 13 0)
    ∷ example (send_at_speed (ascii "%x") 0 0 [] [] 0 0 0) (refuses 10 0)
    ∷ example (send_at_speed (ascii "%d%d%d") 0 0 [] [] 1 115201 0) (refuses 11 0)
    ∷ example (send_at_speed (ascii "%d") 0 0 [] [] 0 0 0) (refuses 12 0)
    ∷ example (send_at_speed (ascii "%d") 0 0 [] [] 1001 0 1) (refuses 12 1)
    ∷ example (send_at_speed (ascii "%d") 0 0 [] [] 1 115201 1) (refuses 12 1)
    ∷ example (send_at_speed (ascii "%d") 0 0 [] [] 1000 115200 0) (refuses 9 0)
    ∷ example (send_at [] 9999 9999 [] [] 0) (reports (0 ∷ []) [] 0)
    -- the first half gives the delay before its star, the star, and the bytes with their compensations
    ∷ example (fill (ascii "5*%dA") 5 0 [] [] 3) (reports (50 ∷ 1 ∷ 2 ∷ []) (ascii "5A") 1)
    ∷ example (fill (ascii "9999.9%.") 0 0 back up 2) (reports (99999 ∷ 0 ∷ 2 ∷ []) (1 ∷ ascii "U") 0)
    ∷ example (fill [] 9999 9999 [] [] 0) (reports (0 ∷ 0 ∷ 0 ∷ []) [] 0)
    -- 12 for row and column, 13, the body's faults, 9
    ∷ example (fill (ascii "12345%x") 10000 0 [] [] 0) (refuses 12 0)
    ∷ example (fill (ascii "12345%x") 0 0 [] [] 0) (refuses 13 0)
    ∷ example (fill (ascii "%x") 0 0 [] [] 0) (refuses 10 0)
    ∷ example (fill (ascii "%d%d") 10 10 [] [] 3) (refuses 9 3)
    -- the second half reads no padding: a digit goes out, and so do a star and a percent sign
    ∷ example (pad 50 true (ascii "5A") 2 9600 13) (reports (12 ∷ []) (ascii "5A" ++ replicate 10 0) 1)
    ∷ example (pad 50 false (ascii "5*%d") 2 9600 9) (reports (9 ∷ []) (ascii "5*%d" ++ replicate 5 0) 0)
    ∷ example (pad 99999 false [] 1 1 3) (reports (1 ∷ []) (0 ∷ []) 2)
    -- 12 for a delay over 99,999 tenths, before its star, and for lines and speed; then 9
    ∷ example (pad 100000 false (ascii "x") 1 0 4) (refuses 12 4)
    ∷ example (pad 100000 true (ascii "x") 1 0 0) (refuses 12 0)
    ∷ example (pad 0 false (ascii "x") 0 0 0) (refuses 12 0)
    ∷ example (pad 0 false (ascii "x") 1 115201 0) (refuses 12 0)
    ∷ example (pad 99999 true (ascii "x") 1000 0 0) (refuses 9 0)
    ∷ []

abbrev pub Ruled : Type 0
Ruled = AllHold line_rulings × AllHold field_rulings × AllHold batch_rulings × AllHold repair_rulings × AllHold position_rulings × AllHold padding_rulings
    × AllHold half_rulings
