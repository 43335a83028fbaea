-- Pasting, the line: its fields before and behind the link, and the line that has the parent's winning fields in the link's place.
-- Assumes nothing.
use Prim.Native.Nat.{ℕ, ◌+◌, ◌≤◌}
use mathlib.Core.Path.{◌≡◌, refl, ◌∙◌, ap, sym}
use mathlib.Core.Bool.{Bool, true, false}
use mathlib.Core.List.{List, [], ◌∷◌, ◌++◌}
use native.Mathlib.Omega.{arith}
use Rattle.spec.specs.Choice.{pick}
use Rattle.spec.specs.Lists.{holds}
use Rattle.spec.specs.Lines.{is_ignored, has_name}
use Rattle.spec.specs.Fields.{
  Reading,
  malformed,
  ignored,
  link,
  capability,
  reading,
  names_of,
  fields_of,
  with_colons,
  size,
  line_size,
  Verdict,
  malformed_line,
  no_link,
  link_to,
  is_ignored_field,
  all_ignored,
  judged,
  judge,
  verdict,
}
use Rattle.spec.specs.Repair.{is_link, ends_in_backslash}
use Rattle.laws.proofs.Tests.{clash, both_true}
use Rattle.laws.proofs.WholeLines.{Free, AllFree}
use Rattle.laws.proofs.FieldTexts.{names_free, names_stop, fields_free, fields_stop, kept-ignored, kept-name, holds-colon, closed-names, closed-fields}
use Rattle.laws.proofs.Judging.{verdict-colon}
use Rattle.laws.proofs.AcceptedChain.{free_append, size-append}
use Rattle.laws.proofs.Removal.{AllWin, win_judged}
use Rattle.laws.proofs.FlatLine.{colons_free}
use Rattle.laws.proofs.Chunks.{Chunk, closed_chunk}
use Rattle.laws.proofs.KeptFields.{ends-past}
use Rattle.demands.specs.Pasting.{pasted}

-- ---- the fields of a line with a link

pub record Linked (fs : List (List ℕ)) (name : List ℕ) : Type 0 where
  pub before : List (List ℕ)
  pub field : List ℕ
  pub behind : List (List ℕ)
  pub parts : fs ≡ before ++ field ∷ behind
  pub a_link : reading field ≡ link name
  pub rest : all_ignored behind ≡ true
  pub paste : (parent : List (List ℕ)) → pasted parent fs ≡ before ++ (parent ++ behind)
  pub ends : (ts : List (List ℕ)) → judge ts ≡ no_link → judge (before ++ ts) ≡ no_link

linked-fields : (fs : List (List ℕ)) (name : List ℕ) → judge fs ≡ link_to name → Linked fs name
unfolding judge judged pasted is_link
linked-fields [] name e = let z : ◌≡◌ {A = ℕ} 0 1 = cc in absurd (omega arith)
linked-fields (f ∷ fs) name e = go (reading f) refl e (linked-fields fs name)
  where
    more : is_link (reading f) ≡ false → ((ts : List (List ℕ)) (v : Verdict) → judged (reading f) ts v ≡ v) → Linked fs name → Linked (f ∷ fs) name
    more n j k =
        record {
          before = f ∷ k.before;
          field = k.field;
          behind = k.behind;
          parts = ap (λ (ts : List (List ℕ)). f ∷ ts) k.parts;
          a_link = k.a_link;
          rest = k.rest;
          paste = λ parent. rw n (ap (λ (ts : List (List ℕ)). f ∷ ts) (k.paste parent));
          ends = λ ts h. j (k.before ++ ts) (judge (k.before ++ ts)) ∙ k.ends ts h;
        }

    here : (n : List ℕ) → reading f ≡ link n → (x : Bool) → all_ignored fs ≡ x → pick x (link_to n) malformed_line ≡ link_to name → Linked (f ∷ fs) name
    here n q true r h =
        let i : n ≡ name = cc in
        record { before = []; field = f; behind = fs; parts = refl; a_link = q ∙ ap link i; rest = r; paste = λ parent. rw q; ends = λ ts j. j }
    here n q false r h = let z : ◌≡◌ {A = ℕ} 0 1 = cc in absurd (omega arith)

    go : (r : Reading) → reading f ≡ r → judged r fs (judge fs) ≡ link_to name → (judge fs ≡ link_to name → Linked fs name) → Linked (f ∷ fs) name
    go malformed q h ih = let z : ◌≡◌ {A = ℕ} 0 1 = cc in absurd (omega arith)
    go ignored q h ih = more (rw q) (λ ts v. rw q) (ih h)
    go (link n) q h ih = here n q (all_ignored fs) refl h
    go (capability a b c) q h ih = more (rw q) (λ ts v. rw q) (ih h)

ignored-judge : (ts : List (List ℕ)) → all_ignored ts ≡ true → judge ts ≡ no_link
unfolding judge all_ignored is_ignored_field judged
ignored-judge [] h = refl
ignored-judge (t ∷ ts) h =
    let w = both_true (is_ignored_field (reading t)) (all_ignored ts) h in
    go (reading t) w.0 ∙ ignored-judge ts w.1
  where
    go : (r : Reading) → is_ignored_field r ≡ true → judged r ts (judge ts) ≡ judge ts
    go malformed e = clash (sym e)
    go ignored e = refl
    go (link n) e = clash (sym e)
    go (capability a b c) e = clash (sym e)

wins-judge : (ps ts : List (List ℕ)) → AllWin ps → judge ts ≡ no_link → judge (ps ++ ts) ≡ no_link
unfolding judge
wins-judge [] ts w h = h
wins-judge (p ∷ ps) ts w h = win_judged (reading p) (ps ++ ts) (judge (ps ++ ts)) w.0 ∙ wins-judge ps ts w.2 h

-- ---- the edited line

pub linked-line : (line name : List ℕ) → verdict line ≡ link_to name → (holds 58 line ≡ true) × Linked (fields_of line) name
unfolding verdict
linked-line line name e = go (holds 58 line) e
  where
    go : (x : Bool) → pick x (judge (fields_of line)) malformed_line ≡ link_to name → (x ≡ true) × Linked (fields_of line) name
    go true h = (refl, linked-fields (fields_of line) name h)
    go false h = let z : ◌≡◌ {A = ℕ} 0 1 = cc in absurd (omega arith)

free_parts : (c : ℕ) (x y : List (List ℕ)) → AllFree c (x ++ y) → AllFree c x × AllFree c y
free_parts c [] y h = (tt, h)
free_parts c (t ∷ x) y h = let k = free_parts c x y h.1 in ((h.0, k.0), k.1)

-- Texts with colons end in a colon.
ends-colon : (ts : List (List ℕ)) → ends_in_backslash (with_colons ts) ≡ false
unfolding with_colons
ends-colon [] = unfold ends_in_backslash in refl
ends-colon (t ∷ ts) = ends-past t (with_colons ts) ∙ ends-colon ts

-- The text of the edited line: with a newline it is a closed line. It ends the chain, it is at most as large as the line and the parent's
-- fields, it is ignored just if the line is, and it has the line's names.
pub record NewLine (line : List ℕ) (parent : List (List ℕ)) (text : List ℕ) : Type 0 where
  pub chunk : Chunk (text ++ 10 ∷ []) text
  pub fields : fields_of text ≡ pasted parent (fields_of line)
  pub ends : verdict text ≡ no_link
  pub covered : line_size text ≤ line_size line + size parent
  pub ignored : is_ignored text ≡ is_ignored line
  pub all-names : names_of text ≡ names_of line
  pub holds_name : (n : List ℕ) → has_name n text ≡ has_name n line

module _ (line name : List ℕ) (link : verdict line ≡ link_to name) (parent : List (List ℕ)) (wins : AllWin parent)
    (parent-free : AllFree 10 parent) (parent-stop : AllFree 58 parent) where
  linked : Linked (fields_of line) name
  linked = (linked-line line name link).1

  abbrev new_fields : List (List ℕ)
  new_fields = pasted parent (fields_of line)

  abbrev new_text : List ℕ
  new_text = with_colons (names_of line ∷ new_fields)

  new_free : (c : ℕ) → AllFree c (fields_of line) → AllFree c parent → AllFree c new_fields
  new_free c h k =
      let x = free_parts c linked.before (linked.field ∷ linked.behind) (rw linked.parts at h) in
      rw (linked.paste parent) (free_append c linked.before (parent ++ linked.behind) x.0 (free_append c parent linked.behind k x.1.1))

  new_stop : AllFree 58 new_fields
  new_stop = new_free 58 (fields_stop line) parent-stop

  new_names : names_of new_text ≡ names_of line
  new_names = closed-names (names_of line) new_fields (names_stop line) new_stop

  new_fields_lem : fields_of new_text ≡ new_fields
  new_fields_lem = closed-fields (names_of line) new_fields (names_stop line) new_stop

  new_ends : verdict new_text ≡ no_link
  new_ends =
      verdict-colon new_text (unfold with_colons in holds-colon (with_colons new_fields) (names_of line)) ∙ ap judge (new_fields_lem ∙ linked.paste parent)
      ∙ linked.ends (parent ++ linked.behind) (wins-judge parent linked.behind wins (ignored-judge linked.behind linked.rest))

  -- the link's field is gone, and the parent's are there
  new_size : line_size new_text ≤ line_size line + size parent
  unfolding line_size size
  new_size =
      rw (new_names, new_fields_lem, linked.paste parent, linked.parts, size-append)
      (omega (arith, size-append parent linked.behind, size-append linked.before (linked.field ∷ linked.behind)))

  pub new_line : Free 10 line → is_ignored line ≡ false → NewLine line parent (with_colons (names_of line ∷ pasted parent (fields_of line)))
  new_line h i =
      let free : Free 10 new_text = colons_free (names_of line ∷ new_fields) (names_free 10 line h, new_free 10 (fields_free 10 line h) parent-free) in
      record {
        chunk = closed_chunk new_text free (ends-colon (names_of line ∷ new_fields));
        fields = new_fields_lem;
        ends = new_ends;
        covered = new_size;
        ignored = rw i (unfold with_colons in kept-ignored line (with_colons new_fields) (linked-line line name link).0 i);
        all-names = new_names;
        holds_name = λ n. unfold with_colons in kept-name line (with_colons new_fields) n;
      }
