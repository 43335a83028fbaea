-- Ask 13 holds: the parent's fields pasted in place leave every answer as it was.
-- Assumes nothing.
use Rattle.std.specs.Prelude.{Option}
use Prim.Native.Nat.{ℕ, ◌+◌, ◌≤◌, ◌<◌}
use mathlib.Core.Path.{◌≡◌, ◌∙◌, ap, sym}
use mathlib.Core.Bool.{true, false}
use mathlib.Core.List.{List, ◌∷◌, ◌++◌}
use native.Mathlib.Omega.{arith}
use lib.ListN.{length}
use Rattle.spec.specs.Refusals.{good_name, too_large}
use Rattle.spec.specs.Lines.{line_at}
use Rattle.spec.specs.Fields.{fields_of}
use Rattle.spec.specs.Files.{Files, good_ends, contents, file_at, line_of, find_from}
use Rattle.spec.specs.Chain.{chain, walk, Field, texts, joined_fields, first_names, described, resolve}
use Rattle.spec.specs.Lookup.{winning}
use Rattle.spec.specs.Questions.{terminal_of}
use Rattle.spec.specs.Listing.{flat_text, flat_outcome}
use Rattle.spec.specs.Repair.{own_bytes}
use Rattle.spec.specs.declared.Location.{Location}
use Rattle.laws.proofs.FieldTexts.{closed-fields}
use Rattle.laws.proofs.Judging.{verdict-good}
use Rattle.laws.proofs.FileParts.{length-contents}
use Rattle.laws.proofs.AcceptedChain.{alone-line}
use Rattle.laws.proofs.AcceptedWalk.{way_walk}
use Rattle.laws.proofs.Winning.{winning-sound}
use Rattle.laws.proofs.RemovedTexts.{texts-winning}
use Rattle.laws.proofs.FlatAlone.{opened-ends, opened-name, opened-size, sound}
use Rattle.demands.specs.Demand3.{Accepted, HasRoom}
use Rattle.demands.specs.Pasting.{edited_line, edited, flat_fields, Pasting, AnswersKept, PastingSound}
use Rattle.demands.proofs.Demand3.{line_is}
use Rattle.demands.proofs.PastedFields.{answers-kept}
use Rattle.demands.proofs.EditedEnds.{good-edited, contents-edited}
use Rattle.demands.proofs.PastedFiles.{parent, bounds, in_files, linked_way, PastedWalk, pasted-walk}

-- Good ends, a good name, limit 3 and an accepted walk: an accepted chain.
accepted-walk : (db : Files) (name : List ℕ) (ps : List Location) → good_ends db ≡ true → good_name name ≡ true → too_large db.bytes ≡ false
    → walk (contents db) name ≡ chain ps → Accepted db name (first_names (contents db) ps) (joined_fields (contents db) 0 ps)
unfolding terminal_of resolve described
accepted-walk db name ps e n s w = rw (e, n, s, w)

-- The fields of what Flat wrote.
flat-fields : (db : Files) (name names : List ℕ) (fs : List Field) → Accepted db name names fs
    → (lent : List ℕ) → HasRoom (flat_outcome db name lent).answer → flat_fields (flat_outcome db name lent) ≡ texts (winning fs)
unfolding flat_fields flat_text
flat-fields db name names fs accepted lent room =
    let k = winning-sound fs name names (sound db name names fs accepted) in
    ap (λ (s : List ℕ). fields_of (line_at s 0)) (line_is db name names fs accepted lent room)
    ∙ ap fields_of (alone-line names (texts (winning fs)) k.names_free k.free) ∙ closed-fields names (texts (winning fs)) k.names_stop k.stop

module _ (db : Files) (name : List ℕ) (l : Location) (lent : List ℕ) (p : Pasting db name l lent) where
  abbrev old_files : List (List ℕ)
  old_files = contents db

  good : good_ends db ≡ true
  good = opened-ends db name p.names p.fields p.accepted

  good-name : good_name name ≡ true
  good-name = opened-name db name p.names p.fields p.accepted

  small : too_large db.bytes ≡ false
  small = opened-size db name p.names p.fields p.accepted

  -- ---- the parent: its chain is accepted, and its Flat has the winning fields

  linked-accepted : Accepted db p.linked (first_names old_files p.after) (joined_fields old_files 0 p.after)
  linked-accepted =
      let found : (Option Location) = find_from old_files 0 p.linked in
      accepted-walk db p.linked p.after good (verdict-good (line_of old_files l) p.linked p.has_link) small
      (way_walk old_files p.linked p.after
      (linked_way old_files name l p.before p.after p.linked p.in_chain p.has_link found p.same_line))

  abbrev pasting : List (List ℕ)
  pasting = parent old_files name l p.before p.after p.linked p.in_chain p.has_link

  parent_is : flat_fields (flat_outcome db p.linked lent) ≡ pasting
  parent_is = flat-fields db p.linked (first_names old_files p.after) (joined_fields old_files 0 p.after) linked-accepted lent p.room

  -- ---- the edited files

  abbrev file : List ℕ
  file = file_at old_files l.file

  abbrev old : ℕ
  old = length (own_bytes file l.at)

  abbrev new : List ℕ
  new = edited_line pasting (line_at file l.at)

  inside : (0 < old) × (l.at + old ≤ length file)
  inside = bounds old_files name l p.before p.after p.linked p.in_chain p.has_link

  some : l.file < length db.ends
  some = omega (arith, in_files old_files name l p.before p.after p.linked p.in_chain p.has_link, length-contents db)

  abbrev after : Files
  after = edited pasting l db

  good-after : good_ends after ≡ true
  unfolding edited
  good-after = good-edited db l.file l.at old new good some inside.1

  walked : PastedWalk old_files name l p.before p.after p.linked p.in_chain p.has_link (contents after)
  unfolding edited line_of
  walked =
      rw (contents-edited db l.file l.at old new good some inside.1)
      (pasted-walk old_files name l p.before p.after p.linked p.in_chain p.has_link)

  kept : AnswersKept db after name
  kept =
      let places : List Location = walked.places in
      let fs : List Field = joined_fields old_files 0 (p.before ++ l ∷ p.after) in
      let gs : List Field = joined_fields (contents after) 0 places in
      let win : texts (winning gs) ≡ texts (winning fs) = texts-winning gs ∙ walked.same ∙ sym (texts-winning fs) in
      let new-accepted : Accepted after name (first_names (contents after) places) gs =
      accepted-walk after name places good-after good-name (rw parent_is at p.limit) walked.walks in
      answers-kept (first_names old_files (p.before ++ l ∷ p.after)) fs gs win db after name
      (accepted-walk db name (p.before ++ l ∷ p.after) good good-name small p.in_chain) (rw walked.names at new-accepted)

pub pasting_sound : PastingSound
pasting_sound db name l lent p = rw (parent_is db name l lent p) (kept db name l lent p)
