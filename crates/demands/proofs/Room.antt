-- Lent buffers of the stated sizes are never too small, and no command asks for more pads than stated. Assumes nothing.
use Rattle.std.specs.Prelude.{Option, Some, None, Result, Ok, Err}
use Prim.Native.Nat.{ℕ, zero, suc, ◌+◌, ◌*◌, ◌≤◌, ◌<◌}
use mathlib.Core.Path.{◌≡◌, refl, sym, ap, subst, ◌∙◌}
use mathlib.Core.Bool.{Bool, true, false}
use mathlib.Core.List.{List, [], ◌∷◌, ◌++◌}
use native.Mathlib.Nat.{mul-le-mul}
use native.Mathlib.Omega.{arith}
use borrow.Author.Tests.{le-leb, leb-true}
use lib.Dec.{eqb, leb, ltb}
use lib.ListN.{length, replicate, length-append, length-replicate}
use Rattle.spec.specs.Choice.{pick, both, either, between}
use Rattle.spec.specs.Lines.{blank}
use Rattle.spec.specs.Files.{Files, good_ends, contents, line_of, find_from}
use Rattle.spec.specs.Refusals.{refusal_number, good_name, good_id, too_large, id_bytes, is_tc}
use Rattle.spec.specs.Strings.{Decoded, bad, good, plain, decode}
use Rattle.spec.specs.Fields.{
  Content,
  cancel,
  flag,
  number,
  string,
  Reading,
  malformed,
  ignored,
  link,
  capability,
  content_bytes,
  good_number,
  string_reading,
  content_reading,
  link_reading,
  named_reading,
  reading,
  size,
  line_size,
  Verdict,
  malformed_line,
  no_link,
  link_to,
  verdict,
}
use Rattle.spec.specs.Chain.{Chain, broken, chain, visited, link_target, entered, follow, walk, Field, Terminal, refused, terminal, described, resolve}
use Rattle.spec.specs.Lookup.{Hit, none, hit, lookup, winning, bytes_of}
use Rattle.spec.specs.Padding.{Prefix, Split, split, prefix_of, delay_for, pad_count}
use Rattle.spec.specs.Answers.{put}
use Rattle.spec.specs.Questions.{terminal_of, terminal_for, presented, decoded_outcome, string_for, string_outcome}
use Rattle.spec.specs.Sending.{
  Prepared,
  finished,
  copied,
  prepared,
  prepared_at,
  Outgoing,
  pads_of,
  good_speed,
  padded,
  delivered,
  send_outcome,
  send_at_outcome,
  filled_into,
  fill_outcome,
}
use Rattle.spec.specs.Listing.{records, list_for, list_outcome, flat_text, flat_for, flat_outcome}
use Rattle.spec.specs.declared.Location.{Location}
use Rattle.spec.specs.declared.Refusal.{Refusal}
use Rattle.spec.specs.declared.Refusal.TheVariants.{BadName, BadId, DatabaseTooLarge, UnknownName, LostLink, NoRoom, OutOfRange, BadEnds}
use Rattle.laws.proofs.LookupSteps.{hit-size}
use Rattle.laws.proofs.Tests.{pick_all, pick-told, both_true}
use Rattle.laws.proofs.Buffers.{not_nine}
use Rattle.laws.proofs.Readings.{decode-short}
use Rattle.laws.proofs.FlatAlone.{sound}
use Rattle.laws.proofs.ListingBounds.{accepted-bounded}
use Rattle.laws.proofs.PaddingLaws.{Splits, delay-below}
use Rattle.demands.specs.Demand3.{HasRoom, QuestionHasRoom}
use Rattle.demands.specs.Halves.{RoomBetween}
use Rattle.demands.specs.Room.{EnoughRoom}
use Rattle.demands.proofs.Halves.{SmallDelay, prepared-small}
use Rattle.demands.proofs.FillRoom.{room, Ready, prepared_ready, filled_ready}

-- ---- the refusals of a chain are 4 to 8; no refusal of a terminal is 9

abbrev Early : Chain → Type 0
Early (broken r) = refusal_number r ≤ 8
Early (chain ps) = Unit {0}

entered_early : (places : List Location) (v : Verdict) (big : Bool) (more : Chain) → Early more → Early (entered places v big more)
unfolding entered
entered_early places malformed_line big more h = omega arith
entered_early places no_link big more h = pick_all Early big (omega arith) tt
entered_early places (link_to name) big more h = pick_all Early big (omega arith) h

follow_early : (db : List (List ℕ)) (n : ℕ) (passed : List Location) (size : ℕ) (missing : Refusal) (found : Option Location) → refusal_number missing ≤ 8
    → Early (follow db n passed size missing found)
unfolding follow
follow_early db zero passed size missing None h = h
follow_early db zero passed size missing (Some p) h = pick_all Early (visited p passed) (omega arith) (omega arith)
follow_early db (suc n) passed size missing None h = h
follow_early db (suc n) passed size missing (Some p) h =
    let total = size + line_size (line_of db p) in
    let said = verdict (line_of db p) in
    pick_all Early (visited p passed) (omega arith)
    (entered_early (passed ++ p ∷ []) said (ltb 16384 total) _
    (follow_early db n (passed ++ p ∷ []) total LostLink (link_target db p said) (omega arith)))

abbrev EarlyTerminal : Terminal → Type 0
EarlyTerminal (refused r) = r ≡ NoRoom → ⊥
EarlyTerminal (terminal names fs) = Unit {0}

early_room : (r : Refusal) → refusal_number r ≤ 8 → r ≡ NoRoom → ⊥
early_room r h = not_nine r (omega arith)

described_early : (db : List (List ℕ)) (c : Chain) → Early c → EarlyTerminal (described db c)
unfolding described
described_early db (broken r) h = early_room r h
described_early db (chain ps) h = tt

bad-ends : BadEnds ≡ NoRoom → ⊥
bad-ends = not_nine BadEnds (omega arith)

terminal_early : (db : Files) (name : List ℕ) → EarlyTerminal (terminal_of db name)
unfolding terminal_of resolve walk
terminal_early db name =
    let fs = contents db in
    let found = find_from fs 0 name in
    pick_all EarlyTerminal (good_ends db)
    (pick_all EarlyTerminal (good_name name)
    (pick_all EarlyTerminal (too_large db.bytes) (early_room DatabaseTooLarge (omega arith))
    (described_early fs (follow fs 32 [] 0 UnknownName found) (follow_early fs 32 [] 0 UnknownName found (omega arith))))
    (early_room BadName (omega arith)))
    bad-ends

asked_early : (db : Files) (name id : List ℕ) → EarlyTerminal (terminal_for db name id)
unfolding terminal_for
asked_early db name id =
    pick_all EarlyTerminal (good_ends db)
    (pick_all EarlyTerminal (good_name name)
    (pick_all EarlyTerminal (good_id id) (terminal_early db name) (early_room BadId (omega arith))) (early_room BadName (omega arith)))
    bad-ends

-- ---- what fits is written

put-fits : (bytes : List ℕ) (n : ℕ) (buffer : List ℕ) → length bytes ≤ length buffer → (put bytes n buffer).answer ≡ Ok n
unfolding put
put-fits bytes n buffer h = rw (le-leb (length bytes) (length buffer) h)

count_room : (w : Result ℕ Refusal) (n : ℕ) → w ≡ Ok n → HasRoom w
count_room w n e h = let z : ◌≡◌ {A = ℕ} 0 1 = let f : Ok n ≡ Err NoRoom = sym e ∙ h in cc in omega arith

refused-room : (r : Refusal) → (r ≡ NoRoom → ⊥) → HasRoom (Err r)
refused-room r h e = h (let f : r ≡ NoRoom = cc in f)

list-room : (db : Files) (name buffer : List ℕ) → 65520 ≤ length buffer → HasRoom (list_outcome db name buffer).answer
unfolding list_outcome list_for
list-room db name buffer h = go (terminal_of db name) refl (terminal_early db name)
  where
    go : (t : Terminal) → terminal_of db name ≡ t → EarlyTerminal t → HasRoom (list_for t buffer).answer
    go (refused r) e k = refused-room r k
    go (terminal names fs) e k =
        let b = accepted-bounded db name names fs e in
        count_room _ _ (put-fits (records (winning fs)) (length (winning fs)) buffer (omega (arith, b.record_bytes, h)))

flat-room : (db : Files) (name buffer : List ℕ) → 16385 ≤ length buffer → HasRoom (flat_outcome db name buffer).answer
unfolding flat_outcome flat_for
flat-room db name buffer h = go (terminal_of db name) refl (terminal_early db name)
  where
    go : (t : Terminal) → terminal_of db name ≡ t → EarlyTerminal t → HasRoom (flat_for t buffer).answer
    go (refused r) e k = refused-room r k
    go (terminal names fs) e k =
        let b = accepted-bounded db name names fs e in
        count_room _ _ (put-fits (flat_text names fs) (length (flat_text names fs)) buffer (omega (arith, b.flat-bytes, h)))

-- ---- a decoded string is no longer than its field

abbrev Fits : ℕ → Reading → Type 0
Fits n r = (a b : ℕ) (l : List ℕ) → r ≡ capability a b (string l) → length l ≤ n

fits_on : (n m : ℕ) (r : Reading) → n ≤ m → Fits n r → Fits m r
fits_on n m r h f a b l e = omega (arith, h, f a b l e)

fits-malformed : (n : ℕ) → Fits n malformed
fits-malformed n a b l e = let z : ◌≡◌ {A = ℕ} 0 1 = cc in absurd (omega arith)

fits-other : (n x y : ℕ) (s : Content) → content_bytes s ≡ [] → Fits n (capability x y s)
fits-other n x y s h a b l e =
    let same : s ≡ string l = cc in
    let none : l ≡ [] = ap content_bytes (sym same) ∙ h in
    rw none (omega arith)

text-fits : (x y n : ℕ) (o : Decoded) → ((l : List ℕ) → o ≡ good l → length l ≤ n) → Fits n (string_reading x y o)
unfolding string_reading
text-fits x y n bad h = fits-malformed n
text-fits x y n (good d) h = λ a b l e. let same : d ≡ l = cc in h l (ap good same)

content_fits : (x y : ℕ) (l : List ℕ) → Fits (length l) (content_reading x y l)
unfolding content_reading
content_fits x y [] = fits-other 0 x y flag refl
content_fits x y (c ∷ l) =
    pick_all (Fits n) (eqb c 35) (pick_all (Fits n) (good_number l) (fits-other n x y (number _) refl) (fits-malformed n))
    (pick_all (Fits n) (eqb c 61) (text-fits x y n (decode plain l) (λ d e. omega (arith, decode-short plain l d e)))
    (pick_all (Fits n) (eqb c 64) (pick_all (Fits n) (eqb (length l) 0) (fits-other n x y cancel refl) (fits-malformed n)) (fits-malformed n)))
  where
    n : ℕ
    n = suc (length l)

link_fits : (n : ℕ) (l : List ℕ) → Fits n (link_reading l)
unfolding link_reading
link_fits n [] = fits-malformed n
link_fits n (c ∷ l) = pick_all (Fits n) (both (eqb c 61) (good_name l)) (λ a b d e. let z : ◌≡◌ {A = ℕ} 0 1 = cc in absurd (omega arith)) (fits-malformed n)

named_fits : (x : ℕ) (l : List ℕ) → Fits (length (x ∷ l)) (named_reading x l)
unfolding named_reading
named_fits x [] = fits-malformed 1
named_fits x (y ∷ l) =
    pick_all (Fits n) (is_tc x y) (link_fits n l)
    (pick_all (Fits n) (id_bytes x y) (fits_on (length l) n (content_reading x y l) (omega arith) (content_fits x y l)) (fits-malformed n))
  where
    n : ℕ
    n = length (x ∷ y ∷ l)

reading-fits : (t : List ℕ) → Fits (length t) (reading t)
unfolding reading
reading-fits [] = λ a b l e. let z : ◌≡◌ {A = ℕ} 0 1 = cc in absurd (omega arith)
reading-fits (x ∷ l) =
    pick_all (Fits (length (x ∷ l))) (either (blank (x ∷ l)) (eqb x 46)) (λ a b d e. let z : ◌≡◌ {A = ℕ} 0 1 = cc in absurd (omega arith)) (named_fits x l)

bytes-short : (t : List ℕ) → length (bytes_of (reading t)) ≤ length t
unfolding bytes_of
bytes-short t = go (reading t) refl
  where
    go : (r : Reading) → reading t ≡ r → length (bytes_of r) ≤ length t
    go malformed e = omega arith
    go ignored e = omega arith
    go (link n) e = omega arith
    go (capability a b cancel) e = omega arith
    go (capability a b flag) e = omega arith
    go (capability a b (number v)) e = omega arith
    go (capability a b (string l)) e = reading-fits t a b l e

-- a question's terminal that is not refused is that of the name
asked-accepted : (db : Files) (name id names : List ℕ) (fs : List Field) → terminal_for db name id ≡ terminal names fs → terminal_of db name ≡ terminal names fs
unfolding terminal_for
asked-accepted db name id names fs = go (good_ends db) (good_name name) (good_id id)
  where
    go : (w x y : Bool) → pick w (pick x (pick y (terminal_of db name) (refused BadId)) (refused BadName)) (refused BadEnds) ≡ terminal names fs
        → terminal_of db name ≡ terminal names fs
    go true true true e = e
    go true true false e = let z : ◌≡◌ {A = ℕ} 0 1 = cc in absurd (omega arith)
    go true false y e = let z : ◌≡◌ {A = ℕ} 0 1 = cc in absurd (omega arith)
    go false x y e = let z : ◌≡◌ {A = ℕ} 0 1 = cc in absurd (omega arith)

string-room : (db : Files) (name id buffer : List ℕ) → 16384 ≤ length buffer → QuestionHasRoom (string_outcome db name id buffer).answer
unfolding string_outcome string_for decoded_outcome
string-room db name id buffer h = go (terminal_for db name id) refl (asked_early db name id)
  where
    go : (t : Terminal) → terminal_for db name id ≡ t → EarlyTerminal t → QuestionHasRoom (string_for id t buffer).answer
    go (refused r) e k = λ q. k (let f : r ≡ NoRoom = cc in f)
    go (terminal names fs) e k = found (lookup id 3 fs) refl
      where
        found : (x : Hit) → lookup id 3 fs ≡ x → QuestionHasRoom (decoded_outcome x buffer).answer
        found none l q = let z : ◌≡◌ {A = ℕ} 0 1 = cc in omega arith
        found (hit t) l q =
            let bytes = bytes_of (reading t) in
            let fits = (sound db name names fs (asked-accepted db name id names fs e)).fits in
            let w = put-fits bytes (length bytes) buffer (omega (arith, bytes-short t, hit-size id 3 fs t l, fits, h)) in
            let z : ◌≡◌ {A = ℕ} 0 1 = let f : (Ok (Some (length bytes))) ≡ Err NoRoom = sym (ap presented w) ∙ q in cc in
            omega arith

-- ---- the most pads

delay-most : (delay lines : ℕ) (star : Bool) → delay ≤ 99999 → lines ≤ 1000 → delay_for delay star lines ≤ 99999000
delay-most delay lines true h l = mul-le-mul h l
delay-most delay lines false h l = omega arith

handed-most : (delay : ℕ) (star : Bool) (lines speed : ℕ) → delay ≤ 99999 → lines ≤ 1000 → speed ≤ 115200
    → pad_count (delay_for delay star lines) speed ≤ 115198848
unfolding pad_count
handed-most delay star lines speed d l s =
    let most : delay_for delay star lines * speed ≤ 99999000 * 115200 = mul-le-mul (delay-most delay lines star d l) s in
    omega (arith, most)

pads-most : (cmd : List ℕ) (p : Split) (lines speed : ℕ) → prefix_of cmd ≡ split p → lines ≤ 1000 → speed ≤ 115200
    → pad_count (delay_for p.delay p.star lines) speed ≤ 115198848
pads-most cmd p lines speed e l s =
    let small : p.delay < 100000 = subst (Splits (λ (q : Split). q.delay < 100000)) e (delay-below cmd) in
    handed-most p.delay p.star lines speed (omega (arith, small)) l s

-- ---- a finished command, alone and with its pads

fill-room : (cmd : List ℕ) (row column : ℕ) (back up buffer : List ℕ) → room (length cmd) back up ≤ length buffer
    → RoomBetween (fill_outcome cmd row column back up buffer).answer
unfolding fill_outcome
fill-room cmd row column back up buffer h = go (prepared_at cmd row column back up) (filled_ready cmd row column back up)
  where
    go : (p : Prepared) → Ready (room (length cmd) back up) p → RoomBetween (filled_into p buffer).answer
    go (finished f) r =
        let w = put-fits f.bytes (length f.bytes) buffer (omega arith) in
        rw w (λ e. let z : ◌≡◌ {A = ℕ} 0 1 = cc in omega arith)
    go (Prepared.refused r) k = λ e. k (let f : r ≡ NoRoom = cc in f)

module _ (lines speed pad : ℕ) (buffer : List ℕ) where
  padded-room : (n : ℕ) (p : Prepared) → n + 115198848 ≤ length buffer → SmallDelay p → Ready n p
      → HasRoom (delivered (padded p lines speed pad) buffer).answer
  unfolding delivered pads_of
  padded-room n (finished f) h small ready =
      pick-told (λ (o : Outgoing). HasRoom (delivered o buffer).answer) (good_speed lines speed) counted
      (λ e. refused-room OutOfRange (not_nine OutOfRange (omega arith)))
    where
      sent : List ℕ
      sent = f.bytes ++ replicate (pad_count (delay_for f.delay f.star lines) speed) pad

      counted : good_speed lines speed ≡ true → HasRoom (put sent (length sent) buffer).answer
      counted e =
          let t = both_true (between 1 1000 lines) (leb speed 115200) e in
          let few = leb-true lines 1000 (both_true (leb 1 lines) (leb lines 1000) t.0).1 in
          let most = handed-most f.delay f.star lines speed small few (leb-true speed 115200 t.1) in
          count_room _ _ (put-fits sent (length sent) buffer (rw (length-append, length-replicate) (omega arith)))
  padded-room n (Prepared.refused r) h small k = refused-room r k

  send-room : (cmd : List ℕ) → length cmd + 115198848 ≤ length buffer → HasRoom (send_outcome cmd lines speed pad buffer).answer
  unfolding send_outcome prepared
  send-room cmd h = padded-room (length cmd) (prepared cmd) h (go (prefix_of cmd) (delay-below cmd)) (prepared_ready cmd)
    where
      go : (x : Prefix) → Splits (λ (p : Split). p.delay < 100000) x → SmallDelay (copied x)
      go (split p) s = omega arith
      go (Prefix.refused r) s = tt

  send-at-room : (cmd : List ℕ) (row column : ℕ) (back up : List ℕ) → room (length cmd) back up + 115198848 ≤ length buffer
      → HasRoom (send_at_outcome cmd row column back up lines speed pad buffer).answer
  unfolding send_at_outcome
  send-at-room cmd row column back up h =
      padded-room (room (length cmd) back up) (prepared_at cmd row column back up) h (prepared-small cmd row column back up)
      (filled_ready cmd row column back up)

pub enough_room : EnoughRoom
enough_room = record {
  list = list-room;
  flat = flat-room;
  string = string-room;
  pads = pads-most;
  handed-pads = handed-most;
  fill = λ cmd row column back up buffer h. fill-room cmd row column back up buffer (omega arith);
  send_at = λ cmd row column back up lines speed pad buffer h. send-at-room lines speed pad buffer cmd row column back up (omega arith);
  send = λ cmd lines speed pad buffer h. send-room lines speed pad buffer cmd (omega arith);
}
