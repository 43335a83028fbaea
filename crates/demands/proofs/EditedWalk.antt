-- The walk over edited files: an accepted walk that passes the edited line takes the same lines up to it, and ends there.
-- Assumes nothing.
use Rattle.std.specs.Prelude.{Option, Some, None}
use Prim.Native.Nat.{ℕ, suc, ◌+◌, ◌≤◌, ◌<◌}
use mathlib.Core.Path.{◌≡◌, refl, ◌∙◌, ap, sym}
use mathlib.Core.Bool.{false}
use mathlib.Core.List.{List, [], ◌∷◌, ◌++◌, append_assoc}
use native.Mathlib.Omega.{arith}
use Rattle.spec.specs.Files.{line_of, find_from}
use Rattle.spec.specs.Fields.{fields_of, line_size, no_link, link_to, verdict}
use Rattle.spec.specs.Chain.{visited, placed, texts, joined_fields}
use Rattle.spec.specs.declared.Location.{Location}
use Rattle.laws.proofs.Tests.{clash}
use Rattle.laws.proofs.AcceptedChain.{texts-append, texts-placed}
use Rattle.laws.proofs.AcceptedWalk.{sizes, Way, last, next, visited_first, new_right, no_end, reach, Stands, stands}
use Rattle.demands.proofs.EditedSearch.{Same, elsewhere, upto, behind, FoundAgain, AllSame, none, some, visited-again}

-- The lines at these places, and the fields of lines.
unfoldable pub lines : List (List ℕ) → List Location → List (List ℕ)
lines db [] = []
lines db (p ∷ ps) = line_of db p ∷ lines db ps

unfoldable pub all_fields : List (List ℕ) → List (List ℕ)
all_fields [] = []
all_fields (l ∷ ls) = fields_of l ++ all_fields ls

module _ (db : List (List ℕ)) where
  -- The texts of joined fields: those of the lines, whatever the places.
  pub texts_joined : (k : ℕ) (ps : List Location) → texts (joined_fields db k ps) ≡ all_fields (lines db ps)
  unfolding joined_fields lines all_fields
  texts_joined k [] = unfold texts in refl
  texts_joined k (p ∷ ps) =
      texts-append (placed k p.file (fields_of (line_of db p))) (joined_fields db (k + 1) ps)
      ∙ ap (λ (ts : List (List ℕ)). ts ++ texts (joined_fields db (k + 1) ps)) (texts-placed k p.file (fields_of (line_of db p)))
      ∙ ap (λ (ts : List (List ℕ)). fields_of (line_of db p) ++ ts) (texts_joined (k + 1) ps)

  pub fields_joined : (ps : List Location) (l : Location) (qs : List Location)
      → all_fields (lines db (ps ++ l ∷ qs)) ≡ all_fields (lines db ps) ++ (fields_of (line_of db l) ++ all_fields (lines db qs))
  unfolding lines all_fields
  fields_joined [] l qs = refl
  fields_joined (p ∷ ps) l qs =
      rw (fields_joined ps l qs) (sym (append_assoc (fields_of (line_of db p)) (all_fields (lines db ps)) (fields_of (line_of db l) ++ all_fields (lines db qs))))

module _ (k a to c : ℕ) (old : a < to) (new : a < c) where
  abbrev here : Location
  here = record { file = k; at = a }

  -- the edited line stays where it stood
  stays : (p q : Location) → Same k a to c p q → p ≡ here → q ≡ here
  stays p q (elsewhere r h) e = e
  stays p q (upto i l) e = e
  stays p q (behind d) e =
      let n : to + d ≡ a = ap (λ (r : Location). r.at) e in
      absurd (omega arith)

  all_same : (ps qs : List Location) → AllSame k a to c old new ps qs → (p q : Location) → Same k a to c p q
      → AllSame k a to c old new (ps ++ p ∷ []) (qs ++ q ∷ [])
  all_same ps qs none p q h = some p q [] [] h none
  all_same ps qs (some r s rs ss g gs) p q h = some r s (rs ++ p ∷ []) (ss ++ q ∷ []) g (all_same rs ss gs p q h)

  module _ (db edited : List (List ℕ)) (after : List Location)
      (again : (name : List ℕ) (j : ℕ) → FoundAgain k a to c (find_from db j name) (find_from edited j name))
      (text : (p q : Location) → Same k a to c p q → (p ≡ here → ⊥) → line_of edited q ≡ line_of db p)
      (ends : verdict (line_of edited here) ≡ no_link)
      (covered : line_size (line_of edited here) ≤ line_size (line_of db here) + sizes db after) where
    pub record Again (n : ℕ) (seen : List Location) (size : ℕ) (found : Option Location) (before : List Location) : Type 0 where
      pub front : List Location
      pub texts : lines edited front ≡ lines db before
      pub way : Way edited n seen size found (front ++ here ∷ [])

    -- the same line's link leads to the same line
    links_again : (p q : Location) → Same k a to c p q → (name : List ℕ) → FoundAgain k a to c (find_from db p.file name) (find_from edited q.file name)
    links_again p q (elsewhere r h) name = again name r.file
    links_again p q (upto i l) name = again name k
    links_again p q (behind d) name = again name k

    -- a line that the walk passes before the edited one is another line
    other : {n : ℕ} {seen : List Location} {size : ℕ} {ps : List Location} (p : Location) → Way db n seen size (Some p) ps
        → (before : List Location) (from : ℕ) (name : List ℕ) → Some p ≡ find_from db from name → ps ≡ p ∷ before ++ here ∷ after → p ≡ here → ⊥
    other {seen = seen} p w before from name g e i =
        let s = stands db here after (reach db here after w (p ∷ before) from name g e).way refl in
        clash (sym (rw i (visited_first here before)) ∙ new_right here seen (p ∷ before) s.new)

    -- the edited line is reached
    ended : (m : ℕ) (seen seen' : List Location) (size : ℕ) (p : Location) (found : Option Location) → p ≡ here → Stands db here after seen size (Some p)
        → AllSame k a to c old new seen seen' → FoundAgain k a to c (Some p) found → Again (suc m) seen' size found []
    ended m seen seen' size p None e w h s = absurd s
    ended m seen seen' size p (Some q) e w h s =
        let i = stays p q s e in
        let fresh : visited here seen' ≡ false =
        ap (λ (x : Location). visited x seen') (sym i) ∙ visited-again k a to c old new p q seen seen' s h ∙ ap (λ (x : Location). visited x seen) e ∙ w.new in
        record { front = []; texts = unfold lines in refl; way = rw i (last {size = size} here fresh ends (omega (arith, w.fits))) }

    -- another line is passed
    passed : (m : ℕ) (seen seen' : List Location) (size : ℕ) (p q : Location) (name : List ℕ) (before : List Location)
        → visited p seen ≡ false → verdict (line_of db p) ≡ link_to name
        → size + line_size (line_of db p) ≤ 16384 → line_of edited q ≡ line_of db p → AllSame k a to c old new seen seen' → Same k a to c p q
        → Again m (seen' ++ q ∷ []) (size + line_size (line_of db p)) (find_from edited q.file name) before → Again (suc m) seen' size (Some q) (p ∷ before)
    passed m seen seen' size p q name before f v l t h s r =
        let fits : size + line_size (line_of edited q) ≤ 16384 = rw t l in
        let on : Way edited m (seen' ++ q ∷ []) (size + line_size (line_of edited q)) (find_from edited q.file name) (r.front ++ here ∷ []) = rw t r.way in
        record {
          front = q ∷ r.front;
          texts = unfold lines in rw (t, r.texts);
          way = next q name (visited-again k a to c old new p q seen seen' s h ∙ f) (ap verdict t ∙ v) fits on;
        }

    pub walk-again : {n : ℕ} {seen : List Location} {size : ℕ} {found : Option Location} {ps : List Location} → Way db n seen size found ps
        → (before seen' : List Location) (found' : Option Location) (from : ℕ) (name : List ℕ) → found ≡ find_from db from name → ps ≡ before ++ here ∷ after
        → AllSame k a to c old new seen seen' → FoundAgain k a to c found found' → Again n seen' size found' before
    walk-again (last {n = m} {seen = seen} {size = size} p f v l) [] seen' found' from name g e h s =
        let i : p ≡ here = cc in
        ended m seen seen' size p found' i (stands db here after (last {n = m} p f v l) e) h s
    walk-again (next {n = m} {seen = seen} {size = size} p link f v l w) [] seen' found' from name g e h s =
        let i : p ≡ here = cc in
        ended m seen seen' size p found' i (stands db here after (next p link f v l w) e) h s
    walk-again (last p f v l) (r ∷ before) seen' found' from name g e h s =
        let t : [] ≡ before ++ here ∷ after = cc in
        absurd (no_end before here after t)
    walk-again (next p link f v l w) (r ∷ before) seen' None from name g e h s = absurd s
    walk-again (next {n = m} {seen = seen} {size = size} p link {ps = ps} f v l w) (r ∷ before) seen' (Some q) from name g e h s =
        let t : ps ≡ before ++ here ∷ after = cc in
        let i : r ≡ p = cc in
        let no = other p (next p link f v l w) before from name g (ap (λ (ls : List Location). p ∷ ls) t) in
        let on = walk-again w before (seen' ++ q ∷ []) (find_from edited q.file link) p.file link refl t (all_same seen seen' h p q s)
        (links_again p q s link) in
        rw i (passed m seen seen' size p q link before f v l (text p q s no) h s on)
