-- A pass over fields: none, one, one part after another; and how far it can get.
-- Assumes nothing.
use Prim.Native.Nat.{ℕ, ◌+◌, ◌*◌, ◌≤◌, ◌<◌}
use mathlib.Core.Path.{◌≡◌, refl, ◌∙◌, ap, sym}
use mathlib.Core.Bool.{true, false}
use mathlib.Core.List.{List, [], ◌∷◌, ◌++◌, append-nil, append_assoc}
use native.Mathlib.Nat.{add-zero}
use native.Mathlib.Omega.{arith}
use lib.ListN.{length, get_or, set, replicate, length-append, take}
use lib.Seq.{sets, get_or-take}
use Rattle.spec.specs.Lines.{line_at}
use Rattle.spec.specs.Files.{Files, contents, file_at}
use Rattle.spec.specs.Fields.{Reading, malformed, ignored, link, capability, reading, split, fields_of, with_colons, size}
use Rattle.spec.specs.Chain.{Field, placed, texts}
use Rattle.spec.specs.Lookup.{winning_after, winning, read_before}
use Rattle.spec.specs.Listing.{record_of, records}
use Rattle.spec.specs.declared.Location.{Location}
use Rattle.laws.proofs.Tests.{pick_all}
use Rattle.laws.proofs.FileLines.{line_of_part}
use Rattle.laws.proofs.FileParts.{file-short}
use Rattle.laws.proofs.Stores.{stored-append}
use Rattle.laws.proofs.AcceptedChain.{texts-append, texts-placed, size-append}
use Rattle.laws.proofs.Winning.{winning-after}
use Rattle.chain.proofs.JoinedFields.{fields_from, from_next}
use Rattle.capability_table.specs.Table.{Marks}
use Rattle.capability_table.proofs.Marking.{no_marks}
use Rattle.listing.specs.Answers.{record_bytes, SomeMarks, wins, TookReading, field_bytes, written, Passes, most_for_line, WroteWinning}
use Rattle.listing.specs.declared.Origin.{Origin}
use Rattle.listing.specs.declared.Won.{Won}
use Rattle.std.specs.Prelude.{Option, Some, None}
use Rattle.listing.specs.declared.Form.{Form}
use Rattle.listing.specs.declared.Form.TheVariants.{Records, Texts}

-- ---- what is written

pub written-records : (fs : List Field) → written Records fs ≡ records fs
unfolding written records
written-records [] = refl
written-records (f ∷ fs) = rw (written-records fs)

pub written-texts : (fs : List Field) → written Texts fs ≡ with_colons (texts fs)
unfolding written with_colons texts
written-texts [] = refl
written-texts (f ∷ fs) = append_assoc f.text (58 ∷ []) (written Texts fs) ∙ rw (written-texts fs)

written-append : (form : Form) (fs gs : List Field) → written form (fs ++ gs) ≡ written form fs ++ written form gs
unfolding written
written-append form [] gs = refl
written-append form (f ∷ fs) gs = rw (written-append form fs gs) (sym (append_assoc (field_bytes form f) (written form fs) (written form gs)))

record_short : (place file : ℕ) (r : Reading) → length (record_of place file r) ≤ 12
unfolding record_of
record_short place file malformed = omega arith
record_short place file ignored = omega arith
record_short place file (link n) = omega arith
record_short place file (capability a b c) = omega arith

field_short : (form : Form) (f : Field) → length (field_bytes form f) ≤ 12 * (length f.text + 1)
field_short Records f = omega (arith, record_short f.place f.file (reading f.text))
field_short Texts f = omega (arith, length-append f.text (58 ∷ []))

written-short : (form : Form) (qs : List Reading) (fs : List Field) → length (written form (winning_after qs fs)) ≤ 12 * size (texts fs)
unfolding written winning_after texts size
written-short form qs [] = omega arith
written-short form qs (f ∷ fs) =
    let rest = winning_after (reading f.text ∷ qs) fs in
    let ih = written-short form (reading f.text ∷ qs) fs in
    pick_all (λ (gs : List Field). length (written form gs) ≤ 12 * (length f.text + 1 + size (texts fs))) (wins qs (reading f.text))
    (omega (arith, length-append (field_bytes form f) (written form rest), field_short form f)) (omega arith)

-- ---- passes

read_append : (qs : List Reading) (fs gs : List Field) → read_before qs (fs ++ gs) ≡ read_before (read_before qs fs) gs
unfolding read_before
read_append qs [] gs = refl
read_append qs (f ∷ fs) gs = read_append (reading f.text ∷ qs) fs gs

module _ (form : Form) where
  pub pass_none : (t out : List ℕ) (to : ℕ) → Passes form [] t out to t out to
  unfolding read_before winning_after written
  pass_none t out to qs m = record { marks = m; ends = sym (add-zero to); stored = refl }

  module _ (f : Field) (t t' out : List ℕ) (to : ℕ) where
    pub pass_lost : ((qs : List Reading) → Marks qs t → Marks (reading f.text ∷ qs) t' × (wins qs (reading f.text) ≡ false))
        → Passes form (f ∷ []) t out to t' out to
    unfolding read_before winning_after written
    pass_lost h qs m =
        let w = h qs m in
        record { marks = w.0; ends = rw w.1 (sym (add-zero to)); stored = rw w.1 }

    pub pass_won : (out' : List ℕ) (end : ℕ)
        → ((qs : List Reading) → Marks qs t → Marks (reading f.text ∷ qs) t' × (wins qs (reading f.text) ≡ true)
        × (end ≡ to + length (field_bytes form f)) × (out' ≡ sets out to (field_bytes form f)))
        → Passes form (f ∷ []) t out to t' out' end
    unfolding read_before winning_after written
    pass_won out' end h qs m =
        let w = h qs m in
        record { marks = w.0; ends = rw (w.1, append-nil (field_bytes form f)) w.2; stored = rw (w.1, append-nil (field_bytes form f)) w.3 }

  module _ (fs gs : List Field) (t out : List ℕ) (to : ℕ) (t₁ out₁ : List ℕ) (mid : ℕ) (t₂ out₂ : List ℕ) (end : ℕ) where
    pub pass_then : Passes form fs t out to t₁ out₁ mid → Passes form gs t₁ out₁ mid t₂ out₂ end
        → Passes form (fs ++ gs) t out to t₂ out₂ end
    pass_then p q qs m =
        let a = p qs m in
        let b = q (read_before qs fs) a.marks in
        let x = written form (winning_after qs fs) in
        let y = written form (winning_after (read_before qs fs) gs) in
        let all = winning-after qs fs gs in
        let w : written form (winning_after qs (fs ++ gs)) ≡ x ++ y =
        ap (written form) all ∙ written-append form (winning_after qs fs) (winning_after (read_before qs fs) gs) in
        record {
          marks = rw (read_append qs fs gs) b.marks;
          ends = rw w (omega (arith, a.ends, b.ends, length-append x y));
          stored = rw (w, stored-append out to x y) (b.stored ∙ rw (a.stored, a.ends));
        }

  -- how far a part of a pass gets
  pub pass_bound : (all done rest : List Field) (t out : List ℕ) (to : ℕ) (t' out' : List ℕ) (end : ℕ) (qs : List Reading) → Marks qs t
      → Passes form done t out to t' out' end
      → all ≡ done ++ rest → size (texts all) ≤ 1048577 → end ≤ to + most_for_line
  pass_bound all done rest t out to t' out' end qs m p e s =
      let whole = ap (λ (fs : List Field). size (texts fs)) e in
      let split-size : size (texts all) ≡ size (texts done) + size (texts rest) =
      whole ∙ ap size (texts-append done rest) ∙ size-append (texts done) (texts rest) in
      omega (arith, (p qs m).ends, written-short form qs done, split-size)

-- ---- one field, in each form

module _ (from : Origin) (text t t' out : List ℕ) (to : ℕ) where
  abbrev here : Field
  here = record { place = from.place; file = from.file; text = text }

  pub take_lost : (form : Form) (won : Option Won) → won ≡ None → TookReading (reading text) t t' won → Passes form (here ∷ []) t out to t' out to
  take_lost form won e k = pass_lost form here t t' out to (rw e at k)

  pub take_record : (form : Form) (won : Option Won) (w : Won) (out' : List ℕ) → form ≡ Records → won ≡ Some w
      → TookReading (reading text) t t' won
      → out' ≡ sets out to (record_bytes w.a w.b w.kind from w.value) → Passes form (here ∷ []) t out to t' out' (to + 12)
  take_record form won w out' g e h s =
      pass_won form here t t' out to out' (to + 12) λ qs m.
      let p = (rw e at h) qs m in
      (p.0, p.1.0, rw (g, p.1.1 from), rw (g, p.1.1 from) s)

  pub take-text : (form : Form) (won : Option Won) (w : Won) (n : ℕ) (out₁ out' : List ℕ) → form ≡ Texts → won ≡ Some w
      → TookReading (reading text) t t' won → n ≡ length text → out₁ ≡ sets out to text → out' ≡ set out₁ (to + n) 58
      → Passes form (here ∷ []) t out to t' out' (to + n + 1)
  take-text form won w n out₁ out' g e h l s s' =
      pass_won form here t t' out to out' (to + n + 1) λ qs m.
      let p = (rw e at h) qs m in
      (p.0, p.1.0, rw g (omega (arith, length-append text (58 ∷ []))), rw (g, stored-append out to text (58 ∷ []), ← s, ← l) s')

-- ---- the fields of a line

module _ (from : Origin) where
  pub line_done : (s : List ℕ) (at : ℕ) (all done : List Field) → all ≡ done ++ placed from.place from.file (split (line_at s at))
      → split (line_at s at) ≡ [] → all ≡ done
  unfolding placed
  line_done s at all done e h = e ∙ rw h (append-nil done)

  pub line_more : (s : List ℕ) (at next : ℕ) (all done : List Field) (t : List ℕ) → all ≡ done ++ placed from.place from.file (split (line_at s at))
      → split (line_at s at) ≡ t ∷ split (line_at s next)
      → all ≡ (done ++ record { place = from.place; file = from.file; text = t } ∷ []) ++ placed from.place from.file (split (line_at s next))
  unfolding placed
  line_more s at next all done t e h =
      e ∙ rw h (sym (append_assoc done (record { place = from.place; file = from.file; text = t } ∷ [])
      (placed from.place from.file (split (line_at s next)))))

  pub line-size_bound : (s : List ℕ) (at : ℕ) → size (split (line_at s at)) ≤ 1048577
      → size (texts (placed from.place from.file (split (line_at s at)))) ≤ 1048577
  line-size_bound s at h = rw (texts-placed from.place from.file (split (line_at s at))) h

-- ---- the lines of a chain

module _ (db : List (List ℕ)) (lines : List Location) (n i : ℕ) (d : Location) (part : List ℕ) where
  -- the fields of the i-th line, read in the part of its file
  pub chain_more : (all done : List Field) → i < n → i < length lines → part ≡ file_at db (get_or (take n lines) i d).file
      → all ≡ done ++ fields_from db lines n i
      → all ≡ (done ++ placed i (get_or (take n lines) i d).file (fields_of (line_at part (get_or (take n lines) i d).at))) ++ fields_from db lines n (i + 1)
  chain_more all done h k e a =
      let same = get_or-take n lines i d h in
      let l = line_of_part db (get_or lines i d) part (rw same at e) in
      rw same (a ∙ rw (from_next db lines n d i h k, l) (sym (append_assoc done _ _)))

pub part_small : (db : Files) (k : ℕ) (part : List ℕ) → part ≡ file_at (contents db) k → length part ≤ length db.bytes
part_small db k part e = rw e (file-short db k)

-- ---- a pass over all fields, from an empty table on

module _ (form : Form) (fs : List Field) (out : List ℕ) (to : ℕ) (t' out' : List ℕ) (end : ℕ) (p : Passes form fs (replicate 8836 0) out to t' out' end) where
  pub pass_winning : WroteWinning form fs out to out' end
  unfolding winning
  pass_winning = let w = p [] no_marks in (w.ends, w.stored)

  -- the table is marked by what was passed
  pub pass_marks : SomeMarks t'
  pass_marks = (read_before [] fs, (p [] no_marks).marks)
