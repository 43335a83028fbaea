-- One file that fills the buffer: every answer is as before.
-- Assumes nothing.
use Rattle.spec.specs.declared.Part.{Part}
use Rattle.std.specs.Prelude.{Option, Some, None, Result, Ok}
use Prim.Native.Nat.{ℕ, zero, suc, ◌+◌}
use mathlib.Core.Path.{◌≡◌, refl, ◌∙◌, ap, sym}
use mathlib.Core.Bool.{Bool, true, false, not}
use mathlib.Core.List.{List, [], ◌∷◌, ◌++◌, map, append_assoc}
use native.Mathlib.Omega.{arith}
use lib.Dec.{eqb, ltb}
use lib.ListN.{length, drop}
use lib.Seq.{take_at, drop_at}
use Rattle.spec.specs.Choice.{pick, both, either}
use Rattle.spec.specs.Refusals.{good_name, too_large}
use Rattle.spec.specs.Lines.{find_line, line_at, extent}
use Rattle.spec.specs.Fields.{fields_of, line_size, Verdict, malformed_line, no_link, link_to, verdict, Reading, malformed, ignored, link, capability, reading}
use Rattle.spec.specs.Files.{alone, file_start, file_at, or_later, locate, find_from}
use Rattle.spec.specs.Chain as New
use Rattle.spec.specs.Chain.{Field, placed, texts, Terminal, refused, terminal}
use Rattle.spec.specs.Lookup.{can_win, hidden, winning_after, winning}
use Rattle.spec.specs.Answers.{Outcome}
use Rattle.spec.specs.Questions.{terminal_of, terminal_for, answer_for, string_for, shown, show_answer, flag_answer, number_answer, string_outcome}
use Rattle.spec.specs.Batch.{batch_outcome}
use Rattle.spec.specs.Listing.{record_of, records, list_for, flat_for, list_outcome, flat_outcome}
use Rattle.spec.specs.declared.Location.{Location}
use Rattle.spec.specs.declared.Refusal.{Refusal}
use Rattle.spec.specs.declared.Refusal.TheVariants.{BadName, DatabaseTooLarge, LostLink, UnknownName, Cycle, ChainTooLarge}
use Rattle.spec.specs.declared.Kind.TheVariants.{Flag, Number}
use Rattle.laws.proofs.FileLines.{line-alone, good-alone, contents-alone}
use Rattle.laws.proofs.Removal.{AllWin}
use Rattle.laws.proofs.Winning.{winning-wins}
use Rattle.laws.proofs.Tests.{clash}
use Rattle.demands.specs.Demand3.{HasRoom, cut, listed}
use Rattle.demands.specs.OneFile.{
  PlaceChain,
  broken,
  chain,
  passed,
  target,
  reached,
  followed,
  fields_at,
  names_at,
  terminal_at,
  terminal_before,
  batch_before,
  asked_before,
  shown_before,
  show_before,
  record_before,
  records_before,
  list_for_before,
  listed_before,
  with_tail,
  EveryAnswerAsBefore,
}
use Rattle.demands.proofs.Demand3.{put-room, record_list, put-listed}

-- ---- places of the one file as lines

abbrev in_first : ℕ → Location
in_first p = record { file = 0; at = p }

abbrev located : Option ℕ → Option Location
located (Some p) = Some (in_first p)
located None = None

abbrev moved : PlaceChain → New.Chain
moved (broken r) = New.broken r
moved (chain ps) = New.chain (map in_first ps)

map_more : (ps : List ℕ) (p : ℕ) → map in_first (ps ++ p ∷ []) ≡ map in_first ps ++ in_first p ∷ []
map_more [] p = refl
map_more (q ∷ ps) p = ap (λ (ls : List Location). in_first q ∷ ls) (map_more ps p)

module _ (db : List ℕ) where
  find-alone : (name : List ℕ) → find_from (db ∷ []) 0 name ≡ located (find_line db name)
  unfolding find_from locate
  find-alone name = go (find_line db name)
    where
      go : (x : Option ℕ) → or_later 0 x None ≡ located x
      go (Some p) = refl
      go None = refl

  visited-alone : (p : ℕ) (ps : List ℕ) → New.visited (in_first p) (map in_first ps) ≡ passed p ps
  unfolding New.visited passed
  visited-alone p [] = refl
  visited-alone p (q ∷ ps) = ap (either (eqb p q)) (visited-alone p ps)

  target-alone : (p : ℕ) (v : Verdict) → New.link_target (db ∷ []) (in_first p) v ≡ located (target db v)
  unfolding New.link_target target
  target-alone p malformed_line = refl
  target-alone p no_link = refl
  target-alone p (link_to name) = find-alone name

  reached-alone : (ps : List ℕ) (v : Verdict) (big : Bool) (more : PlaceChain)
      → New.entered (map in_first ps) v big (moved more) ≡ moved (reached ps v big more)
  unfolding New.entered reached
  reached-alone ps malformed_line big more = refl
  reached-alone ps no_link true more = refl
  reached-alone ps no_link false more = refl
  reached-alone ps (link_to n) true more = refl
  reached-alone ps (link_to n) false more = refl

  pick_moved : (x : Bool) (a b : PlaceChain) → pick x (moved a) (moved b) ≡ moved (pick x a b)
  pick_moved true a b = refl
  pick_moved false a b = refl

  follow-alone : (n : ℕ) (seen : List ℕ) (size : ℕ) (missing : Refusal) (found : Option ℕ)
      → New.follow (db ∷ []) n (map in_first seen) size missing (located found) ≡ moved (followed db n seen size missing found)
  unfolding New.follow followed
  follow-alone zero seen size missing None = refl
  follow-alone zero seen size missing (Some p) = rw (visited-alone p seen) (pick_moved (passed p seen) (broken Cycle) (broken ChainTooLarge))
  follow-alone (suc n) seen size missing None = refl
  follow-alone (suc n) seen size missing (Some p) =
      rw (
        line-alone db p,
        visited-alone p seen,
        target-alone p (verdict (line_at db p)),
        ← map_more seen p,
        follow-alone n (seen ++ p ∷ []) (size + line_size (line_at db p)) LostLink (target db (verdict (line_at db p))),
        reached-alone (seen ++ p ∷ []) (verdict (line_at db p)) (ltb 16384 (size + line_size (line_at db p)))
            (followed db n (seen ++ p ∷ []) (size + line_size (line_at db p)) LostLink (target db (verdict (line_at db p)))),
      )
      (pick_moved (passed p seen) (broken Cycle) _)

  fields-alone : (k : ℕ) (ps : List ℕ) → New.joined_fields (db ∷ []) k (map in_first ps) ≡ fields_at db k ps
  unfolding New.joined_fields fields_at
  fields-alone k [] = refl
  fields-alone k (p ∷ ps) = rw (line-alone db p, fields-alone (k + 1) ps)

  described-alone : (c : PlaceChain) → New.described (db ∷ []) (moved c) ≡ terminal_at db c
  unfolding New.described terminal_at New.first_names names_at
  described-alone (broken r) = refl
  described-alone (chain []) = rw (fields-alone 0 [])
  described-alone (chain (p ∷ ps)) = rw (line-alone db p, fields-alone 0 (p ∷ ps))

  resolve-alone : (name : List ℕ) → New.resolve (db ∷ []) name ≡ terminal_at db (followed db 32 [] 0 UnknownName (find_line db name))
  unfolding New.resolve New.walk
  resolve-alone name = rw (find-alone name, follow-alone 32 [] 0 UnknownName (find_line db name))
      (described-alone (followed db 32 [] 0 UnknownName (find_line db name)))

  pub terminal-alone : (name : List ℕ) → terminal_of (alone db) name ≡ terminal_before db name
  unfolding terminal_of terminal_before
  terminal-alone name = rw (good-alone db, contents-alone db, resolve-alone name)

  batch-alone : (name questions buffer : List ℕ) → batch_outcome (alone db) name questions buffer ≡ batch_before db name questions buffer
  unfolding batch_outcome batch_before
  batch-alone name questions buffer = rw (good-alone db, contents-alone db, resolve-alone name)

  asked-alone : (name id : List ℕ) → terminal_for (alone db) name id ≡ asked_before db name id
  unfolding terminal_for asked_before
  asked-alone name id = rw (good-alone db, terminal-alone name)

  shown-alone : (x : Option ℕ) → shown (alone db) (located x) ≡ shown_before db x
  unfolding shown shown_before file_start file_at
  shown-alone (Some p) = rw (contents-alone db) (go p (extent db p))
    where
      plus : (n : ℕ) → 0 + n ≡ n
      plus n = omega arith

      go : (a b : ℕ) → ◌≡◌ {A = Result Part Refusal} (Ok (record { from = 0 + a; to = 0 + b })) (Ok (record { from = a; to = b }))
      go a b = rw (plus a, plus b)
  shown-alone None = refl

  show-alone : (name : List ℕ) → show_answer (alone db) name ≡ show_before db name
  unfolding show_answer show_before
  show-alone name = rw (good-alone db, contents-alone db, find-alone name, shown-alone (find_line db name))

-- ---- records

unfoldable list_before : List Field → List (List ℕ)
list_before [] = []
list_before (f ∷ fs) = record_before f.place (reading f.text) ∷ list_before fs

length_before : (p : ℕ) (r : Reading) → can_win r ≡ true → length (record_before p r) ≡ 8
unfolding can_win record_before
length_before p malformed e = clash (sym e)
length_before p ignored e = clash (sym e)
length_before p (link n) e = clash (sym e)
length_before p (capability a b s) e = refl

cut-before : (fs : List Field) (rest : List ℕ) → AllWin (texts fs) → cut 8 (length fs) (records_before fs ++ rest) ≡ list_before fs
unfolding cut records_before list_before texts
cut-before [] rest h = refl
cut-before (f ∷ fs) rest h =
    let r = record_before f.place (reading f.text) in
    let n = length_before f.place (reading f.text) h.0 in
    rw (append_assoc r (records_before fs) rest, take_at r (records_before fs ++ rest) 8 n, drop_at r (records_before fs ++ rest) 8 n, cut-before fs rest h.2)

-- Fields of the file 0.
abbrev AllFirst : List Field → Type 0
AllFirst [] = Unit {0}
AllFirst (f ∷ fs) = (f.file ≡ 0) × AllFirst fs

tail_record : (p : ℕ) (r : Reading) → can_win r ≡ true → record_of p 0 r ≡ with_tail (record_before p r)
unfolding can_win record_of record_before
tail_record p malformed e = clash (sym e)
tail_record p ignored e = clash (sym e)
tail_record p (link n) e = clash (sym e)
tail_record p (capability a b s) e = refl

tail_records : (fs : List Field) → AllWin (texts fs) → AllFirst fs → record_list fs ≡ map with_tail (list_before fs)
unfolding record_list list_before texts
tail_records [] w z = refl
tail_records (f ∷ fs) w z = rw (z.0, tail_record f.place (reading f.text) w.0, tail_records fs w.2 z.1)

first_placed : (k : ℕ) (ts : List (List ℕ)) (fs : List Field) → AllFirst fs → AllFirst (placed k 0 ts ++ fs)
unfolding placed
first_placed k [] fs h = h
first_placed k (t ∷ ts) fs h = (refl, first_placed k ts fs h)

first_fields : (db : List ℕ) (k : ℕ) (ps : List ℕ) → AllFirst (fields_at db k ps)
unfolding fields_at
first_fields db k [] = tt
first_fields db k (p ∷ ps) = first_placed k (fields_of (line_at db p)) (fields_at db (k + 1) ps) (first_fields db (k + 1) ps)

first_winning : (qs : List Reading) (fs : List Field) → AllFirst fs → AllFirst (winning_after qs fs)
unfolding winning_after
first_winning qs [] h = tt
first_winning qs (f ∷ fs) h = go (both (can_win (reading f.text)) (not (hidden qs (reading f.text)))) (first_winning (reading f.text ∷ qs) fs h.1)
  where
    go : (x : Bool) → AllFirst (winning_after (reading f.text ∷ qs) fs)
        → AllFirst (pick x (f ∷ winning_after (reading f.text ∷ qs) fs) (winning_after (reading f.text ∷ qs) fs))
    go true k = (h.0, k)
    go false k = k

-- A terminal of the file 0.
abbrev FirstTerminal : Terminal → Type 0
FirstTerminal (refused r) = Unit {0}
FirstTerminal (terminal names fs) = AllFirst fs

first_terminal : (db : List ℕ) (c : PlaceChain) → FirstTerminal (terminal_at db c)
unfolding terminal_at
first_terminal db (broken r) = tt
first_terminal db (chain ps) = first_fields db 0 ps

first_before : (db name : List ℕ) → FirstTerminal (terminal_before db name)
unfolding terminal_before
first_before db name = go (good_name name) (too_large db) (first_terminal db (followed db 32 [] 0 UnknownName (find_line db name)))
  where
    go : (x y : Bool) → FirstTerminal (terminal_at db (followed db 32 [] 0 UnknownName (find_line db name)))
        → FirstTerminal (pick x (pick y (refused DatabaseTooLarge) (terminal_at db (followed db 32 [] 0 UnknownName (find_line db name)))) (refused BadName))
    go true true h = tt
    go true false h = h
    go false y h = tt

cut_all : (gs : List Field) (before : List ℕ) → AllWin (texts gs)
    → listed_before (record { answer = Ok (length gs); buffer = records_before gs ++ drop (length (records_before gs)) before }) ≡ list_before gs
unfolding listed_before
cut_all gs before w = cut-before gs (drop (length (records_before gs)) before) w

list-before : (t : Terminal) → FirstTerminal t → (buffer before : List ℕ) → HasRoom (list_for t buffer).answer → HasRoom (list_for_before t before).answer
    → ((list_for t buffer).answer ≡ (list_for_before t before).answer) × (listed (list_for t buffer) ≡ map with_tail (listed_before (list_for_before t before)))
unfolding list_for list_for_before
list-before (refused r) z buffer before h k = (refl, unfold listed listed_before cut in refl)
list-before (terminal names fs) z buffer before h k =
    let w = winning-wins fs in
    let a = put-room (records (winning fs)) (length (winning fs)) buffer h in
    let b = put-room (records_before (winning fs)) (length (winning fs)) before k in (
      ap (λ (o : Outcome (Result ℕ Refusal)). o.answer) a ∙ sym (ap (λ (o : Outcome (Result ℕ Refusal)). o.answer) b),
      put-listed (winning fs) buffer w h ∙ tail_records (winning fs) w (unfold winning in first_winning [] fs z) ∙ ap (map with_tail)
          (sym (ap listed_before b ∙ cut_all (winning fs) before w)),
    )

pub one_file : EveryAnswerAsBefore
unfolding flag_answer number_answer string_outcome flat_outcome list_outcome
one_file db name =
    record {
      show = show-alone db name;
      flag = λ id. ap (answer_for id Flag) (asked-alone db name id);
      number = λ id. ap (answer_for id Number) (asked-alone db name id);
      string = λ id buffer. ap (λ (t : Terminal). string_for id t buffer) (asked-alone db name id);
      flat = λ buffer. ap (λ (t : Terminal). flat_for t buffer) (terminal-alone db name);
      batch = batch-alone db name;
      list = rw (terminal-alone db name) (list-before (terminal_before db name) (first_before db name));
    }
