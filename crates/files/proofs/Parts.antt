-- The ends one by one, the bytes of a file, and the search file by file.
-- Assumes nothing.
use Rattle.std.specs.Prelude.{Some, None}
use Prim.Native.Nat.{ℕ, zero, suc, ◌+◌, ◌-◌, ◌≤◌, ◌<◌}
use mathlib.Core.Path.{◌≡◌, refl, ◌∙◌, sym}
use mathlib.Core.Bool.{Bool, true, false}
use mathlib.Core.List.{List, [], ◌∷◌}
use native.Mathlib.Numerals.{add-one}
use native.Mathlib.Omega.{arith}
use borrow.Author.Tests.{le-leb, lt-leb}
use lib.ListN.{length, take, drop, get_or, drop_of_length-le, length-drop}
use lib.Seq.{take_all, drop-cons}
use Rattle.laws.proofs.FileParts.{file_is}
use Rattle.spec.specs.Lines.{find_line}
use Rattle.spec.specs.Files.{files, rising, good_ends, cut_at, contents, file_start, file_at, or_later, locate, find_from}

-- ---- ends

-- The ends from the i-th on do not fall below `from`, nor pass the buffer.
unfoldable pub rising_from : List ℕ → List ℕ → ℕ → ℕ → Bool
rising_from db ends from i = rising from (length db) (drop i ends)

module _ (db ends : List ℕ) where
  pub ends_many : 8 < length ends → good_ends (files db ends) ≡ false
  unfolding good_ends
  ends_many h = rw (lt-leb (length ends) 8 h)

  pub ends-start : length ends ≤ 8 → good_ends (files db ends) ≡ rising_from db ends 0 0
  unfolding good_ends rising_from
  ends-start h = rw (le-leb (length ends) 8 h)

  pub ends_done : (from i : ℕ) → length ends ≤ i → rising_from db ends from i ≡ true
  unfolding rising_from rising
  ends_done from i h = rw (drop_of_length-le ends h)

  module _ (from i : ℕ) (inside : i < length ends) where
    pub ends_fall : get_or ends i 0 < from → rising_from db ends from i ≡ false
    unfolding rising_from rising
    ends_fall h = rw (drop-cons ends i 0 inside, lt-leb from (get_or ends i 0) h)

    pub ends_pass : from ≤ get_or ends i 0 → length db < get_or ends i 0 → rising_from db ends from i ≡ false
    unfolding rising_from rising
    ends_pass k h = rw (drop-cons ends i 0 inside, le-leb from (get_or ends i 0) k, lt-leb (get_or ends i 0) (length db) h)

    pub ends_next : from ≤ get_or ends i 0 → get_or ends i 0 ≤ length db → rising_from db ends from i ≡ rising_from db ends (get_or ends i 0) (i + 1)
    unfolding rising_from rising
    ends_next k h = rw (drop-cons ends i 0 inside, le-leb from (get_or ends i 0) k, le-leb (get_or ends i 0) (length db) h, add-one i)

-- ---- the bytes of a file

cut-none : (k from : ℕ) (db ends : List ℕ) → length ends ≤ k → get_or (cut_at from db ends) k [] ≡ []
unfolding cut_at
cut-none k from db [] h = refl
cut-none zero from db (e ∷ es) h = absurd (omega arith)
cut-none (suc k) from db (e ∷ es) h = cut-none k e db es (omega arith)

module _ (db ends : List ℕ) (k : ℕ) where
  pub file-none : length ends ≤ k → file_at (contents (files db ends)) k ≡ []
  unfolding file_at contents
  file-none h = cut-none k 0 db ends h

  module _ (inside : k < length ends) where
    pub file_empty : get_or ends k 0 ≤ file_start (files db ends) k → file_at (contents (files db ends)) k ≡ []
    file_empty h =
        let z : get_or ends k 0 - file_start (files db ends) k ≡ 0 = omega arith in
        file_is (files db ends) k inside ∙ rw z

    pub file-past : length db ≤ file_start (files db ends) k → file_at (contents (files db ends)) k ≡ []
    file-past h = file_is (files db ends) k inside ∙ rw (drop_of_length-le db h) (take_all (get_or ends k 0 - file_start (files db ends) k) [] (omega arith))

    pub file-rest : length db ≤ get_or ends k 0 → file_at (contents (files db ends)) k ≡ drop (file_start (files db ends) k) db
    file-rest h = file_is (files db ends) k inside ∙ take_all (get_or ends k 0 - file_start (files db ends) k) (drop (file_start (files db ends) k) db)
        (simp length-drop (omega arith))

    -- as the code cuts it
    pub file_part : (from to : ℕ) → from ≡ file_start (files db ends) k → to ≡ get_or ends k 0
        → take (to - from) (drop from db) ≡ file_at (contents (files db ends)) k
    file_part from to e f = rw (e, f) (sym (file_is (files db ends) k inside))

    pub file-end : (from to : ℕ) → from ≡ file_start (files db ends) k → to ≡ get_or ends k 0 → length db ≤ to
        → take (length db - from) (drop from db) ≡ file_at (contents (files db ends)) k
    file-end from to e f h =
        let fits : length (drop from db) ≤ length db - from = simp length-drop (omega arith) in
        take_all (length db - from) (drop from db) fits ∙ rw e (sym (file-rest (omega arith)))

get_d_none : (l : List ℕ) (i : ℕ) → length l ≤ i → get_or l i 0 ≡ 0
get_d_none [] i h = refl
get_d_none (x ∷ l) zero h = absurd (omega arith)
get_d_none (x ∷ l) (suc i) h = get_d_none l i (omega arith)

pub start_none : (db ends : List ℕ) (k : ℕ) → length ends < k → file_start (files db ends) k ≡ 0
unfolding file_start
start_none db ends k h = get_d_none (0 ∷ ends) k (omega arith)

pub start_first : (db ends : List ℕ) → file_start (files db ends) 0 ≡ 0
unfolding file_start
start_first db ends = refl

pub start-next : (db ends : List ℕ) (k i : ℕ) → k ≡ i + 1 → file_start (files db ends) k ≡ get_or ends i 0
unfolding file_start
start-next db ends k i e = rw (e, add-one i)

-- ---- the search

module _ (fs : List (List ℕ)) (name : List ℕ) (k : ℕ) where
  pub find-end : length fs ≤ k → find_from fs k name ≡ None
  unfolding find_from locate
  find-end h = rw (drop_of_length-le fs h)

  find-next : k < length fs → find_from fs k name ≡ or_later k (find_line (file_at fs k) name) (find_from fs (k + 1) name)
  unfolding find_from locate file_at
  find-next h = rw (drop-cons fs k [] h, add-one k)

  pub find_here : (p : ℕ) → k < length fs → find_line (file_at fs k) name ≡ Some p → find_from fs k name ≡ Some (record { file = k; at = p })
  find_here p h e = find-next h ∙ rw e

  pub find_on : k < length fs → find_line (file_at fs k) name ≡ None → find_from fs k name ≡ find_from fs (k + 1) name
  find_on h e = find-next h ∙ rw e
