-- Demand 3 holds of every accepted chain.
-- Assumes nothing.
use Rattle.std.specs.Prelude.{Option, Some, None, Result, Ok, Err}
use Prim.Native.Nat.{ℕ, ◌+◌, ◌*◌, ◌/◌, ◌%◌, ◌≤◌, ◌<◌}
use mathlib.Core.Path.{◌≡◌, refl, ◌∙◌, ap, sym}
use mathlib.Core.Logic.{◌↔◌}
use mathlib.Core.Bool.{Bool, true, false}
use mathlib.Core.List.{List, [], ◌∷◌, ◌++◌, map, append_assoc}
use native.Mathlib.Nat.{div-div-eq-div-mul, div-add-mod, mod-eq_of_lt}
use native.Mathlib.Omega.{arith}
use borrow.Author.Tests.{eqb-true, eq-eqb}
use lib.Dec.{eqb, leb, lit<}
use lib.ListN.{take, length, drop}
use lib.Seq.{take-append_seam, take_at, drop_at}
use Rattle.spec.specs.Choice.{pick, both, either}
use Rattle.spec.specs.Lists.{same}
use Rattle.laws.proofs.Tests.{clash, both_true}
use Rattle.laws.proofs.WholeLines.{same_equal}
use Rattle.spec.specs.Refusals.{good_id}
use Rattle.spec.specs.declared.Kind.{Kind}
use Rattle.spec.specs.declared.Kind.TheVariants.{Flag, Number, String}
use Rattle.spec.specs.Fields.{
  Content,
  cancel,
  flag,
  number,
  string,
  Reading,
  malformed,
  ignored,
  link,
  capability,
  reading,
  kind_number,
  content_kind,
  content_value,
  content_bytes,
}
use Rattle.laws.proofs.Readings.{reading-entered}
use Rattle.spec.specs.Files.{Files, alone}
use Rattle.spec.specs.Chain.{Field, placed, texts, Terminal, refused, terminal}
use Rattle.laws.proofs.AcceptedChain.{texts-placed}
use Rattle.spec.specs.Questions.{terminal_for, hit_answer, answer_for, presented, flag_answer, number_answer, decoded_outcome, string_for, string_outcome}
use Rattle.spec.specs.Lookup.{Hit, none, hit, matches, lookup, can_win, winning, value_of, bytes_of}
use Rattle.spec.specs.Answers.{Outcome, put}
use Rattle.laws.proofs.Removal.{Clear, AllWin, matches-hides, win_no_cancel, lookup-hit, lookup_on}
use Rattle.laws.proofs.Winning.{winning-wins, winning-sound, lookup-winning}
use Rattle.spec.specs.declared.Refusal.TheVariants.{BadId, NoRoom}
use Rattle.demands.specs.Demand3.{
  Accepted,
  HasRoom,
  QuestionHasRoom,
  question,
  cut,
  listed,
  one_line,
  big_endian,
  is_of,
  tells,
  pairs,
  occurrences,
  at_place_zero,
  Demand3,
  EveryAccepted,
}
use Rattle.spec.specs.Listing.{four_bytes, record_of, records, list_for, list_outcome, flat_text, flat_for, flat_outcome}
use Rattle.laws.proofs.FlatAlone.{opened-ends, sound, asked_is, flag_same, number_same, string-same, list_same, flat-same}
use Rattle.laws.proofs.Records.{AllSmall, record_length, records-length, values-small, placed-length}
use Rattle.spec.specs.declared.Refusal.{Refusal}

-- ---- a call with room

pub put-room : (bytes : List ℕ) (n : ℕ) (buffer : List ℕ) → HasRoom (put bytes n buffer).answer → put bytes n buffer ≡ record
    { answer = Ok n; buffer = bytes ++ drop (length bytes) buffer }
unfolding put
put-room bytes n buffer = go (leb (length bytes) (length buffer))
  where
    full : Outcome (Result ℕ Refusal)
    full = record { answer = Ok n; buffer = bytes ++ drop (length bytes) buffer }

    kept : Outcome (Result ℕ Refusal)
    kept = record { answer = Err NoRoom; buffer = buffer }

    go : (x : Bool) → HasRoom (pick x full kept).answer → pick x full kept ≡ full
    go true h = refl
    go false h = absurd (h refl)

put-line : (bytes buffer : List ℕ) → HasRoom (put bytes (length bytes) buffer).answer → one_line (put bytes (length bytes) buffer) ≡ bytes
unfolding one_line
put-line bytes buffer h = rw (put-room bytes (length bytes) buffer h) (take-append_seam bytes (drop (length bytes) buffer))

-- an answer that says only whether there is room
pub put_like : (a b : List ℕ) (n : ℕ) (buffer : List ℕ) → length a ≡ length b → (put a n buffer).answer ≡ (put b n buffer).answer
unfolding put
put_like a b n buffer e = rw e (go (leb (length b) (length buffer)))
  where
    full : List ℕ → Outcome (Result ℕ Refusal)
    full l = record { answer = Ok n; buffer = l ++ drop (length b) buffer }

    kept : Outcome (Result ℕ Refusal)
    kept = record { answer = Err NoRoom; buffer = buffer }

    go : (x : Bool) → (pick x (full a) kept).answer ≡ (pick x (full b) kept).answer
    go true = refl
    go false = refl

-- ---- records

pack : (v a b c r s t : ℕ) → 256 * a + r ≡ v → 256 * b + s ≡ a → 256 * c + t ≡ b → (((0 * 256 + c) * 256 + t) * 256 + s) * 256 + r ≡ v
pack v a b c r s t e f g = omega arith

four_value : (v : ℕ) → v < 4294967296 → big_endian 0 (four_bytes v) ≡ v
unfolding big_endian
four_value v h =
    let e : v / 65536 ≡ v / 256 / 256 = sym (div-div-eq-div-mul v 256 256) in
    let f : v / 16777216 ≡ v / 256 / 256 / 256 = sym (div-div-eq-div-mul v 65536 256) ∙ ap (λ (n : ℕ). n / 256) e in
    let top : v / 16777216 < 256 = omega arith in
    rw (mod-eq_of_lt top, f, e) (pack v (v / 256) (v / 256 / 256) (v / 256 / 256 / 256) (v % 256) (v / 256 % 256) (v / 256 / 256 % 256) (div-add-mod v 256)
    (div-add-mod (v / 256) 256) (div-add-mod (v / 256 / 256) 256))

is_of_record : (id : List ℕ) (k p n : ℕ) (r : Reading) → can_win r ≡ true → is_of id k (record_of p n r) ≡ matches id k r
unfolding is_of record_of matches can_win
is_of_record id k p n malformed w = clash (sym w)
is_of_record id k p n ignored w = clash (sym w)
is_of_record id k p n (link m) w = clash (sym w)
is_of_record id k p n (capability a b t) w = refl

tells_record : (id : List ℕ) (k v p n : ℕ) (r : Reading) → can_win r ≡ true → value_of r < 4294967296 → tells id k v (record_of p n r) ≡ both (matches id k r)
    (eqb (value_of r) v)
unfolding tells is_of record_of matches can_win value_of
tells_record id k v p n malformed w s = clash (sym w)
tells_record id k v p n ignored w s = clash (sym w)
tells_record id k v p n (link m) w s = clash (sym w)
tells_record id k v p n (capability a b t) w s = ap (λ (u : ℕ). both (both (same id (a ∷ b ∷ [])) (eqb k (content_kind t))) (eqb u v))
    (four_value (content_value t) s)

unfoldable pub record_list : List Field → List (List ℕ)
record_list [] = []
record_list (f ∷ fs) = record_of f.place f.file (reading f.text) ∷ record_list fs

cut-records : (fs : List Field) (rest : List ℕ) → AllWin (texts fs) → cut 12 (length fs) (records fs ++ rest) ≡ record_list fs
unfolding cut records record_list texts
cut-records [] rest h = refl
cut-records (f ∷ fs) rest h =
    let r = record_of f.place f.file (reading f.text) in
    let n = record_length f.place f.file (reading f.text) h.0 in
    rw (append_assoc r (records fs) rest, take_at r (records fs ++ rest) 12 n, drop_at r (records fs ++ rest) 12 n, cut-records fs rest h.2)

pub put-listed : (fs : List Field) (buffer : List ℕ) → AllWin (texts fs) → HasRoom (put (records fs) (length fs) buffer).answer → listed
    (put (records fs) (length fs) buffer) ≡ record_list fs
unfolding listed
put-listed fs buffer w h = rw (put-room (records fs) (length fs) buffer h) (cut-records fs (drop (length (records fs)) buffer) w)

ground_record : (p n : ℕ) (r : Reading) → can_win r ≡ true → record_of 0 0 r ≡ at_place_zero (record_of p n r)
unfolding record_of can_win
ground_record p n malformed w = clash (sym w)
ground_record p n ignored w = clash (sym w)
ground_record p n (link m) w = clash (sym w)
ground_record p n (capability a b s) w = refl

pub ground_records : (fs : List Field) → AllWin (texts fs) → record_list (placed 0 0 (texts fs)) ≡ map at_place_zero (record_list fs)
unfolding record_list placed texts
ground_records [] h = refl
ground_records (f ∷ fs) h = rw (ground_record f.place f.file (reading f.text) h.0, ground_records fs h.2)

-- ---- how often a pair with a value is in a listing

abbrev times : ℕ → Result (Option ℕ) Refusal → ℕ
times v (Ok (Some u)) = pick (eqb u v) 1 0
times v (Ok None) = 0
times v (Err r) = 0

times_one : (v : ℕ) (h : Hit) → (times v (hit_answer h) ≡ 1) ↔ (hit_answer h ≡ (Ok (Some v)))
unfolding hit_answer
times_one v none = ((λ e. let z : ◌≡◌ {A = ℕ} 0 1 = cc in absurd (omega arith)), (λ e. let z : ◌≡◌ {A = ℕ} 0 1 = cc in absurd (omega arith)))
times_one v (hit t) = (go (eqb (value_of (reading t)) v) refl, λ e. let q : value_of (reading t) ≡ v = cc in rw (eq-eqb (value_of (reading t)) v q))
  where
    go : (x : Bool) → eqb (value_of (reading t)) v ≡ x → pick {A = ℕ} x 1 0 ≡ 1 → ◌≡◌ {A = Result (Option ℕ) Refusal} (Ok (Some (value_of (reading t)))) (Ok (Some v))
    go true h e = rw (eqb-true (value_of (reading t)) v h)
    go false h e = absurd (omega arith)

-- ---- a pair is there at most once

both_fewer : (x y : Bool) → pick {A = ℕ} (both x y) 1 0 ≤ pick x 1 0
both_fewer true true = omega arith
both_fewer true false = omega arith
both_fewer false y = omega arith

no_more_often : (id : List ℕ) (k v : ℕ) (rs : List (List ℕ)) → occurrences id k v rs ≤ pairs id k rs
unfolding occurrences pairs tells
no_more_often id k v [] = omega arith
no_more_often id k v (r ∷ rs) = omega (arith, both_fewer (is_of id k r) (eqb (big_endian 0 (take 4 (drop 4 r))) v), no_more_often id k v rs)

module _ (id : List ℕ) (k : ℕ) where
  pair_here : (f : Field) (fs : List Field) → can_win (reading f.text) ≡ true
      → pairs id k (record_list (f ∷ fs)) ≡ pick (matches id k (reading f.text)) 1 0 + pairs id k (record_list fs)
  unfolding pairs record_list
  pair_here f fs w = rw (is_of_record id k f.place f.file (reading f.text) w)

  no_pair : (r : Reading) → matches id k r ≡ true → (fs : List Field) → AllWin (texts fs) → Clear r (texts fs) → pairs id k (record_list fs) ≡ 0
  unfolding texts
  no_pair r e [] w c = unfold pairs record_list in refl
  no_pair r e (f ∷ fs) w c = rw (pair_here f fs w.0, other (matches id k (reading f.text)) refl, no_pair r e fs w.2 c.1)
    where
      either-right : (x : Bool) → either x true ≡ true
      either-right true = refl
      either-right false = refl

      other : (x : Bool) → matches id k (reading f.text) ≡ x → matches id k (reading f.text) ≡ false
      other true h = clash (sym (rw e (either-right (matches id 0 r))) ∙ sym (matches-hides id k (reading f.text) r h) ∙ c.0)
      other false h = h

  one_pair : (fs : List Field) → AllWin (texts fs) → pairs id k (record_list fs) ≤ 1
  unfolding texts
  one_pair [] w = unfold pairs record_list in omega arith
  one_pair (f ∷ fs) w = rw (pair_here f fs w.0) (go (matches id k (reading f.text)) refl (one_pair fs w.2))
    where
      go : (x : Bool) → matches id k (reading f.text) ≡ x → pairs id k (record_list fs) ≤ 1 → pick {A = ℕ} x 1 0 + pairs id k (record_list fs) ≤ 1
      go true h rest = rw (no_pair (reading f.text) h fs w.2 w.1) (omega arith)
      go false h rest = omega (arith, rest)

module _ (id : List ℕ) (k v : ℕ) where
  here : (f : Field) (fs : List Field) → can_win (reading f.text) ≡ true → value_of (reading f.text) < 4294967296
      → occurrences id k v (record_list (f ∷ fs)) ≡ pick (both (matches id k (reading f.text)) (eqb (value_of (reading f.text)) v)) 1 0 + occurrences id k
      v (record_list fs)
  unfolding occurrences record_list
  here f fs w s = rw (tells_record id k v f.place f.file (reading f.text) w s)

  no_more : (r : Reading) → matches id k r ≡ true → (fs : List Field) → AllWin (texts fs) → Clear r (texts fs) → occurrences id k v (record_list fs) ≡ 0
  no_more r e fs w c = omega (arith, no_more_often id k v (record_list fs), no_pair id k r e fs w c)

  occurs : (fs : List Field) → AllWin (texts fs) → AllSmall (texts fs) → occurrences id k v (record_list fs) ≡ times v (hit_answer (lookup id k fs))
  unfolding texts hit_answer
  occurs [] w s = unfold occurrences record_list lookup in refl
  occurs (f ∷ fs) w s = here f fs w.0 s.0 ∙ go (matches id k (reading f.text)) refl (occurs fs w.2 s.1)
    where
      no : matches id 0 (reading f.text) ≡ false
      no = win_no_cancel id (reading f.text) w.0

      go : (x : Bool) → matches id k (reading f.text) ≡ x → occurrences id k v (record_list fs) ≡ times v (hit_answer (lookup id k fs))
          → pick (both x (eqb (value_of (reading f.text)) v)) 1 0 + occurrences id k v (record_list fs) ≡ times v (hit_answer (lookup id k (f ∷ fs)))
      go true h ih = rw (lookup-hit id k f fs no h, no_more (reading f.text) h fs w.2 w.1) (omega arith)
      go false h ih = rw (lookup_on id k f fs no h) (omega (arith, ih))

-- ---- questions

lookup-matches : (id : List ℕ) (k : ℕ) (fs : List Field) (t : List ℕ) → lookup id k fs ≡ hit t → matches id k (reading t) ≡ true
unfolding lookup
lookup-matches id k [] t e = let z : ◌≡◌ {A = ℕ} 0 1 = cc in absurd (omega arith)
lookup-matches id k (f ∷ fs) t e = go (matches id 0 (reading f.text)) (matches id k (reading f.text)) refl e (lookup-matches id k fs t)
  where
    go : (c h : Bool) → matches id k (reading f.text) ≡ h → pick c none (pick h (hit f.text) (lookup id k fs)) ≡ hit t →
        (lookup id k fs ≡ hit t → matches id k (reading t) ≡ true) → matches id k (reading t) ≡ true
    go true h eh q ih = let z : ◌≡◌ {A = ℕ} 0 1 = cc in absurd (omega arith)
    go false true eh q ih = let s : f.text ≡ t = cc in rw (← s) eh
    go false false eh q ih = ih q

matches-good : (id : List ℕ) (k : ℕ) (t : List ℕ) → matches id k (reading t) ≡ true → good_id id ≡ true
unfolding matches good_id
matches-good id k t e = go (reading t) refl e
  where
    go : (r : Reading) → reading t ≡ r → matches id k r ≡ true → good_id id ≡ true
    go malformed q h = clash (sym h)
    go ignored q h = clash (sym h)
    go (link n) q h = clash (sym h)
    go (capability a b s) q h =
        let i = same_equal id (a ∷ b ∷ []) (both_true (same id (a ∷ b ∷ [])) (eqb k (content_kind s)) h).0 in
        rw i (reading-entered t a b s q).id

string-length : (id : List ℕ) (r : Reading) → matches id 3 r ≡ true → length (bytes_of r) ≡ value_of r
unfolding matches bytes_of value_of
string-length id malformed e = clash (sym e)
string-length id ignored e = clash (sym e)
string-length id (link n) e = clash (sym e)
string-length id (capability a b s) e = go s (both_true (same id (a ∷ b ∷ [])) (eqb 3 (content_kind s)) e).1
  where
    go : (s : Content) → eqb 3 (content_kind s) ≡ true → length (content_bytes s) ≡ content_value s
    go cancel h = clash (sym h)
    go flag h = clash (sym h)
    go (number n) h = clash (sym h)
    go (string l) h = refl

string-answer : (id : List ℕ) (t : Terminal) (lent : List ℕ) → QuestionHasRoom (string_for id t lent).answer → (string_for id t lent).answer ≡ answer_for id
    String t
unfolding string_for answer_for decoded_outcome hit_answer
string-answer id (refused r) lent h = refl
string-answer id (terminal names fs) lent h = go (lookup id 3 fs) refl h
  where
    go : (x : Hit) → lookup id 3 fs ≡ x → QuestionHasRoom (decoded_outcome x lent).answer → (decoded_outcome x lent).answer ≡ hit_answer x
    go none e h = refl
    go (hit t) e h =
        ap (λ (o : Outcome (Result ℕ Refusal)). presented o.answer) (put-room (bytes_of (reading t)) (length (bytes_of (reading t))) lent (λ f. h (ap presented f)))
        ∙ rw (string-length id (reading t) (lookup-matches id 3 fs t e))

pub question-answer : (k : Kind) (db : Files) (name id lent : List ℕ) → QuestionHasRoom (question k db name id lent)
    → question k db name id lent ≡ answer_for id k (terminal_for db name id)
unfolding flag_answer number_answer string_outcome
question-answer Flag db name id lent h = refl
question-answer Number db name id lent h = refl
question-answer String db name id lent h = string-answer id (terminal_for db name id) lent h

-- ---- the demand

module _ (db : Files) (name names : List ℕ) (fs : List Field) (accepted : Accepted db name names fs) where
  wins : AllWin (texts (winning fs))
  wins = winning-wins fs

  small : AllSmall (texts (winning fs))
  small = values-small (texts (winning fs)) (omega (arith, (winning-sound fs name names (sound db name names fs accepted)).fits))

  pub list_is : (buffer : List ℕ) → list_outcome db name buffer ≡ put (records (winning fs)) (length (winning fs)) buffer
  unfolding list_outcome list_for
  list_is buffer = rw accepted

  flat_is : (buffer : List ℕ) → flat_outcome db name buffer ≡ put (flat_text names fs) (length (flat_text names fs)) buffer
  unfolding flat_outcome flat_for
  flat_is buffer = rw accepted

  list-room : (buffer : List ℕ) → HasRoom (list_outcome db name buffer).answer → list_outcome db name buffer ≡ record
      { answer = Ok (length (winning fs)); buffer = records (winning fs) ++ drop (length (records (winning fs))) buffer }
  list-room buffer h = list_is buffer ∙ put-room (records (winning fs)) (length (winning fs)) buffer (rw (list_is buffer) at h)

  pub line_is : (buffer : List ℕ) → HasRoom (flat_outcome db name buffer).answer → one_line (flat_outcome db name buffer) ≡ flat_text names fs
  line_is buffer h = ap one_line (flat_is buffer) ∙ put-line (flat_text names fs) buffer (rw (flat_is buffer) at h)

  pub listed_is : (buffer : List ℕ) → HasRoom (list_outcome db name buffer).answer → listed (list_outcome db name buffer) ≡ record_list (winning fs)
  listed_is buffer h = ap listed (list_is buffer) ∙ put-listed (winning fs) buffer wins (rw (list_is buffer) at h)

  positive : (k : Kind) → 0 < kind_number k
  positive Flag = lit< tt
  positive Number = lit< tt
  positive String = lit< tt

  asked-answer : (k : Kind) (id : List ℕ) (v : ℕ) → (answer_for id k (terminal_for db name id) ≡ (Ok (Some v))) ↔
      (hit_answer (lookup id (kind_number k) fs) ≡ (Ok (Some v)))
  unfolding answer_for hit_answer
  asked-answer k id v = rw (asked_is db name names fs accepted db id (opened-ends db name names fs accepted), accepted)
      (go (good_id id) refl (lookup id (kind_number k) fs) refl)
    where
      go : (x : Bool) → good_id id ≡ x → (y : Hit) → lookup id (kind_number k) fs ≡ y →
          (answer_for id k (pick x (terminal names fs) (refused BadId)) ≡ (Ok (Some v))) ↔ (hit_answer y ≡ (Ok (Some v)))
      go true e y h = rw (← h) ((λ q. q), (λ q. q))
      go false e none h = ((λ q. let z : ◌≡◌ {A = ℕ} 0 1 = cc in absurd (omega arith)), (λ q. let z : ◌≡◌ {A = ℕ} 0 1 = cc in absurd (omega arith)))
      go false e (hit t) h = clash (sym (matches-good id (kind_number k) t (lookup-matches id (kind_number k) fs t h)) ∙ e)

  occurs_in : (k : Kind) (id : List ℕ) (v : ℕ) (buffer : List ℕ) → HasRoom (list_outcome db name buffer).answer
      → occurrences id (kind_number k) v (listed (list_outcome db name buffer)) ≡ times v (hit_answer (lookup id (kind_number k) fs))
  occurs_in k id v buffer h =
      rw (listed_is buffer h, occurs id (kind_number k) v (winning fs) wins small, lookup-winning fs id (kind_number k) (positive k))

  demanded : Demand3 db name fs
  demanded =
      record {
        listing = list-room;
        found = λ k id v buffer lent h q.
            let a = times_one v (lookup id (kind_number k) fs) in
            let b = asked-answer k id v in
            rw (occurs_in k id v buffer h, question-answer k db name id lent q) ((λ e. b.1 (a.0 e)), (λ e. a.1 (b.0 e)));
        once = λ k id buffer h. rw (listed_is buffer h) (one_pair id (kind_number k) (winning fs) wins);
        flag = λ buffer h id. rw (line_is buffer h) (flag_same db name names fs accepted id);
        number = λ buffer h id. rw (line_is buffer h) (number_same db name names fs accepted id);
        string = λ buffer h id lent. rw (line_is buffer h) (string-same db name names fs accepted id lent);
        listing-flat = λ buffer h lent q. rw (line_is buffer h) (relisted lent q);
        flat-flat = λ buffer h lent. rw (line_is buffer h) (flat-same db name names fs accepted lent);
      }
    where
      relisted : (lent : List ℕ) → HasRoom (list_outcome db name lent).answer
          → ((list_outcome (alone (flat_text names fs)) name lent).answer ≡ (list_outcome db name lent).answer)
          × (listed (list_outcome (alone (flat_text names fs)) name lent) ≡ map at_place_zero (listed (list_outcome db name lent)))
      relisted lent q =
          let zs : List Field = placed 0 0 (texts (winning fs)) in
          let n : length zs ≡ length (winning fs) = placed-length 0 0 (winning fs) in
          let w : AllWin (texts zs) = rw (texts-placed 0 0 (texts (winning fs))) wins in
          let l : length (records zs) ≡ length (records (winning fs)) = omega (arith, n, records-length zs w, records-length (winning fs) wins) in
          let p : list_outcome (alone (flat_text names fs)) name lent ≡ put (records zs) (length zs) lent = list_same db name names fs accepted lent in
          let a : (put (records zs) (length zs) lent).answer ≡ (list_outcome db name lent).answer =
          rw (n, list_is lent) (put_like (records zs) (records (winning fs)) (length (winning fs)) lent l) in
          (rw p a, ap listed p ∙ put-listed zs lent w (rw a q) ∙ ground_records (winning fs) wins ∙ ap (map at_place_zero) (sym (listed_is lent q)))

pub demand_3 : EveryAccepted
demand_3 = demanded
