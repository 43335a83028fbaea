-- Pasting, the files: the winning fields of the chain that a line's link leads to, in place of the link. The walk ends at that line, and the
-- same texts win.
-- Assumes nothing.
use Rattle.std.specs.Prelude.{Option}
use Prim.Native.Nat.{ℕ, ◌+◌, ◌≤◌, ◌<◌}
use mathlib.Core.Path.{◌≡◌, refl, ◌∙◌, ap, sym}
use mathlib.Core.List.{List, [], ◌∷◌, ◌++◌, append-nil, append_assoc}
use native.Mathlib.Omega.{arith}
use lib.ListN.{length, take, drop, set, length-append}
use Rattle.spec.specs.Files.{file_at, line_of, find_from}
use Rattle.spec.specs.Fields.{names_of, fields_of, with_colons, line_size, link_to, verdict}
use Rattle.spec.specs.Chain.{chain, walk, Field, texts, joined_fields, first_names}
use Rattle.spec.specs.Lookup.{winning}
use Rattle.spec.specs.Repair.{own_bytes}
use Rattle.spec.specs.declared.Location.{Location}
use Rattle.laws.proofs.WholeLines.{Holds}
use Rattle.laws.proofs.EditedLines.{Cut, found-cut}
use Rattle.laws.proofs.FileLines.{line_of_free, located_holds, located_line}
use Rattle.laws.proofs.AcceptedChain.{joined_free, joined_stop, joined_size}
use Rattle.laws.proofs.AcceptedWalk.{sizes, Way, Reached, Stands, walk_way, way_walk, reach, stands, onward}
use Rattle.laws.proofs.Winning.{winning-wins, winning_free, winning-size}
use Rattle.laws.proofs.RemovedTexts.{winners}
use Rattle.demands.specs.Pasting.{pasted, edited_line}
use Rattle.demands.proofs.PastedFields.{winners_pasted}
use Rattle.demands.proofs.PastedLine.{Linked, linked-line, NewLine, new_line}
use Rattle.demands.proofs.EditedFile.{own_some, Edit, edit}
use Rattle.demands.proofs.EditedSearch.{Same, FoundAgain, none, found-again, same_text, edited-text}
use Rattle.demands.proofs.EditedWalk.{lines, all_fields, texts_joined, fields_joined, Again, walk-again}

-- The first line's names, if the lines before a line l are the same and l has the same names.
first_names_lem : (db edited : List (List ℕ)) (l : Location) (before front after : List Location) → lines edited front ≡ lines db before
    → names_of (line_of edited l) ≡ names_of (line_of db l) → first_names edited (front ++ l ∷ []) ≡ first_names db (before ++ l ∷ after)
unfolding lines first_names
first_names_lem db edited l [] [] after e h = h
first_names_lem db edited l [] (q ∷ front) after e h = let z : ◌≡◌ {A = ℕ} 0 1 = cc in absurd (omega arith)
first_names_lem db edited l (p ∷ before) [] after e h = let z : ◌≡◌ {A = ℕ} 0 1 = cc in absurd (omega arith)
first_names_lem db edited l (p ∷ before) (q ∷ front) after e h = let t : line_of edited q ≡ line_of db p = cc in ap names_of t

module _ (db : List (List ℕ)) (name : List ℕ) (l : Location) (before after : List Location) (linked : List ℕ)
    (walked : walk db name ≡ chain (before ++ l ∷ after)) (link : verdict (line_of db l) ≡ link_to linked) where
  -- the joined fields of the chain that the link leads to, and the texts of the winning ones
  abbrev joined : List Field
  joined = joined_fields db 0 after

  abbrev pub parent : List (List ℕ)
  parent = texts (winning joined)

  reached : Reached db 32 before l after
  reached = reach db l after (walk_way db name (before ++ l ∷ after) walked) before 0 name refl refl

  stood : Stands db l after before reached.size (find_from db reached.from reached.name)
  stood = stands db l after reached.way refl

  -- the chain of what the link leads to is accepted on its own, however that line is found
  pub linked_way : (found : Option Location) → found ≡ find_from db l.file linked → Way db 32 [] 0 found after
  linked_way found e = rw e (onward db l after linked link reached.way refl reached.fewer)

  -- ---- the line

  abbrev file : List ℕ
  file = file_at db l.file

  abbrev line : List ℕ
  line = line_of db l

  pub in_files : l.file < length db
  in_files = (located_line db reached.name reached.from l stood.at).0

  cut : Cut file l.at
  cut = found-cut reached.name file l.at (located_line db reached.name reached.from l stood.at).1

  held : Holds reached.name line
  held = located_holds db reached.name reached.from l stood.at

  parts : Linked (fields_of line) linked
  parts = (linked-line line linked link).1

  -- where it ends
  abbrev to : ℕ
  to = l.at + length (own_bytes file l.at)

  pub bounds : (0 < length (own_bytes (file_at db l.file) l.at))
      × (l.at + length (own_bytes (file_at db l.file) l.at) ≤ length (file_at db l.file))
  unfolding line_of
  bounds = own_some file l.at cut.inside stood.colon

  -- ---- the edited line, in its file

  abbrev text : List ℕ
  text = with_colons (names_of line ∷ pasted parent (fields_of line))

  new : NewLine line parent text
  new =
      new_line line linked link parent (winning-wins joined) (winning_free joined 10 (joined_free db 0 after))
      (winning_free joined 58 (joined_stop db 0 after)) (line_of_free db l) held.0

  -- where it ends
  abbrev new_to : ℕ
  new_to = l.at + length (text ++ 10 ∷ [])

  abbrev new_file : List ℕ
  new_file = take l.at file ++ ((text ++ 10 ∷ []) ++ drop to file)

  moved : Edit file l.at text new_to new_file
  unfolding line_of
  moved = edit file l.at cut (text ++ 10 ∷ []) text new.chunk new.ignored new.holds_name

  abbrev edited : List (List ℕ)
  edited = set db l.file new_file

  again : (n : List ℕ) (j : ℕ) → FoundAgain l.file l.at to new_to (find_from db j n) (find_from edited j n)
  unfolding file_at
  again n j = found-again n l.file l.at to new_to new_file j db (moved.search n)

  text_same : (p q : Location) → Same l.file l.at to new_to p q → (p ≡ l → ⊥) → line_of edited q ≡ line_of db p
  unfolding file_at
  text_same = same_text l.file l.at to new_to db new_file in_files moved.upto moved.behind

  text-edited : line_of edited l ≡ text
  unfolding file_at
  text-edited = edited-text l.file l.at db new_file in_files ∙ moved.here

  covered : line_size (line_of edited l) ≤ line_size (line_of db l) + sizes db after
  covered = rw text-edited (omega (arith, new.covered, winning-size joined, joined_size db 0 after))

  -- ---- the walk over the edited files

  old_some : l.at < to
  old_some = omega (arith, bounds.0)

  new_some : l.at < new_to
  new_some = omega (arith, length-append text (10 ∷ []))

  walked_again : Again l.file l.at to new_to old_some new_some db edited after again text_same (ap verdict text-edited ∙ new.ends) covered
      32 [] 0 (find_from edited 0 name) before
  walked_again =
      walk-again l.file l.at to new_to old_some new_some db edited after again text_same (ap verdict text-edited ∙ new.ends) covered
      (walk_way db name (before ++ l ∷ after) walked) before [] (find_from edited 0 name) 0 name refl refl none (again name 0)

  abbrev chain' : List Location
  chain' = walked_again.front ++ l ∷ []

  walk-edited : walk edited name ≡ chain chain'
  walk-edited = way_walk edited name chain' walked_again.way

  -- ---- the fields

  abbrev front : List (List ℕ)
  front = all_fields (lines db before)

  texts_new : texts (joined_fields edited 0 chain') ≡ front ++ parts.before ++ (parent ++ parts.behind)
  unfolding lines all_fields
  texts_new =
      texts_joined edited 0 chain' ∙ fields_joined edited walked_again.front l []
      ∙ ap (λ (ts : List (List ℕ)). all_fields ts ++ (fields_of (line_of edited l) ++ [])) walked_again.texts
      ∙ ap (λ (ts : List (List ℕ)). front ++ ts)
      (append-nil (fields_of (line_of edited l)) ∙ ap fields_of text-edited ∙ new.fields ∙ parts.paste parent)
      ∙ sym (append_assoc front parts.before (parent ++ parts.behind))

  texts_old : texts (joined_fields db 0 (before ++ l ∷ after)) ≡ front ++ parts.before ++ (parts.field ∷ (parts.behind ++ texts joined))
  texts_old =
      texts_joined db 0 (before ++ l ∷ after) ∙ fields_joined db before l after
      ∙ ap (λ (ts : List (List ℕ)). front ++ (fields_of line ++ ts)) (sym (texts_joined db 0 after))
      ∙ ap (λ (ts : List (List ℕ)). front ++ ts)
      (ap (λ (ts : List (List ℕ)). ts ++ texts joined) parts.parts ∙ append_assoc parts.before (parts.field ∷ parts.behind) (texts joined))
      ∙ sym (append_assoc front parts.before (parts.field ∷ (parts.behind ++ texts joined)))

  -- The chain of the edited files is accepted; its first line has the same names, and the same texts win.
  pub record PastedWalk (files : List (List ℕ)) : Type 0 where
    pub places : List Location
    pub walks : walk files name ≡ chain places
    pub names : first_names files places ≡ first_names db (before ++ l ∷ after)
    pub same : winners (texts (joined_fields files 0 places)) ≡ winners (texts (joined_fields db 0 (before ++ l ∷ after)))

  pub pasted-walk : PastedWalk (set db l.file
      (take l.at (file_at db l.file)
      ++ (edited_line parent (line_of db l) ++ drop (l.at + length (own_bytes (file_at db l.file) l.at)) (file_at db l.file))))
  unfolding edited_line
  pasted-walk =
      record {
        places = chain';
        walks = walk-edited;
        names = first_names_lem db edited l before walked_again.front after walked_again.texts (ap names_of text-edited ∙ new.all-names);
        same =
            ap winners texts_new ∙ winners_pasted (front ++ parts.before) parts.behind parts.field linked joined parts.a_link parts.rest
            ∙ sym (ap winners texts_old);
      }
