-- List and Flat as they are measured and written.
-- Assumes nothing.
use Rattle.std.specs.Prelude.{Result, Ok, Err}
use Prim.Native.Nat.{ℕ, zero, suc, ◌+◌, ◌/◌, ◌≤◌, ◌<◌}
use mathlib.Core.Path.{◌≡◌, ◌∙◌, ap, sym}
use mathlib.Core.Bool.{Bool, true, false}
use mathlib.Core.List.{List, [], ◌∷◌, ◌++◌, append_assoc}
use native.Mathlib.Omega.{arith}
use borrow.Author.Tests.{leb-true, leb-false, le-leb}
use lib.Dec.{leb}
use lib.ListN.{length, take, drop, get_or, set, length-append}
use lib.Seq.{sets}
use Rattle.spec.specs.Answers.{put, keeping}
use Rattle.spec.specs.Choice.{pick}
use Rattle.spec.specs.Files.{file_at, line_of}
use Rattle.spec.specs.Fields.{names_of, with_colons}
use Rattle.spec.specs.Chain.{Field, Terminal, refused, texts, first_names, joined_fields}
use Rattle.spec.specs.declared.Location.{Location}
use Rattle.spec.specs.Lookup.{winning}
use Rattle.spec.specs.Listing.{records, list_for, flat_text, flat_for, most_flat_bytes, Bounded}
use Rattle.spec.specs.declared.Refusal.{Refusal}
use Rattle.spec.specs.declared.Refusal.TheVariants.{NoRoom}
use Rattle.laws.proofs.Buffers.{put-fits, put_full}
use Rattle.laws.proofs.Stores.{stored_front, stored-append}
use Rattle.laws.proofs.Winning.{winning-wins}
use Rattle.laws.proofs.Records.{records-length}
use Rattle.field_bounds.specs.Answers.{field_at}
use Rattle.listing.specs.Answers.{written, WroteWinning, Put, BoundedChain, flat_of}
use Rattle.chain.specs.Answers.{lines_of}
use Rattle.chain.specs.declared.Chain.{Chain}
use Rattle.listing.specs.declared.Form.TheVariants.{Records, Texts}
use Rattle.listing.proofs.Passing.{written-records, written-texts}

-- bytes that were stored from the start on, or that do not fit
module _ (bytes : List ℕ) (n : ℕ) (out : List ℕ) where
  put_refused : length out < length bytes → Put bytes n out (Err NoRoom) out
  put_refused h = let p = put_full bytes n out h in (rw p, rw p)

  put-stored : (out' : List ℕ) → length bytes ≤ length out → out' ≡ sets out 0 bytes → Put bytes n out (Ok n) out'
  put-stored out' h s = let p = put-fits bytes n out h in (rw p, rw p (s ∙ stored_front out bytes h))

  -- by the test whether they have room
  pub put-none : leb (length bytes) (length out) ≡ false → Put bytes n out (Err NoRoom) out
  put-none e = put_refused (leb-false (length bytes) (length out) e)

  pub put_all : (out' : List ℕ) → leb (length bytes) (length out) ≡ true → out' ≡ sets out 0 bytes → Put bytes n out (Ok n) out'
  put_all out' e s = put-stored out' (leb-true (length bytes) (length out) e) s

-- what any chain can need has room
pub room_for_all : (n most room : ℕ) → n ≤ most → most ≤ room → true ≡ leb n room
room_for_all n most room h k = sym (le-leb n room (omega arith))

-- ---- List

module _ (fs : List Field) (n : ℕ) (out out' : List ℕ) (w : WroteWinning Records fs out 0 out' n) where
  pub list_measured : n ≡ length (records (winning fs))
  list_measured = omega (arith, w.0, ap length (written-records (winning fs)))

  pub list-stored : out' ≡ sets out 0 (records (winning fs))
  list-stored = w.1 ∙ ap (sets out 0) (written-records (winning fs))

-- the records counted by their bytes, or a refusal
module _ (fs : List Field) (out out' : List ℕ) where
  -- `Put` of the records, by whether they have room
  abbrev PutIf : Bool → ℕ → Result ℕ Refusal → Type 0
  PutIf x n r =
      let o = pick x (record { answer = Ok n; buffer = records (winning fs) ++ drop (length (records (winning fs))) out }) (keeping (Err NoRoom) out) in
      (r ≡ o.answer) × (out' ≡ o.buffer)

  twelfth : length (records (winning fs)) / 12 ≡ length (winning fs)
  twelfth = omega (arith, records-length (winning fs) (winning-wins fs))

  pub list-counted : (n : ℕ) → Put (records (winning fs)) (length (records (winning fs))) out (Ok n) out'
      → Put (records (winning fs)) (length (winning fs)) out (Ok (n / 12)) out'
  unfolding put
  list-counted n p = go (leb (length (records (winning fs))) (length out)) p
    where
      go : (x : Bool) → PutIf x (length (records (winning fs))) (Ok n) → PutIf x (length (winning fs)) (Ok (n / 12))
      go true p = let e : n ≡ length (records (winning fs)) = cc in (rw (e, twelfth), p.1)
      go false p = let z : ◌≡◌ {A = ℕ} 0 1 = cc in absurd (omega arith)

  pub list-refused : (r : Refusal) → Put (records (winning fs)) (length (records (winning fs))) out (Err r) out'
      → Put (records (winning fs)) (length (winning fs)) out (Err r) out'
  unfolding put
  list-refused r p = go (leb (length (records (winning fs))) (length out)) p
    where
      go : (x : Bool) → PutIf x (length (records (winning fs))) (Err r) → PutIf x (length (winning fs)) (Err r)
      go true p = let z : ◌≡◌ {A = ℕ} 0 1 = cc in absurd (omega arith)
      go false p = p

-- ---- Flat

module _ (names : List ℕ) (fs : List Field) where
  flat_is : flat_text names fs ≡ (names ++ 58 ∷ []) ++ (written Texts (winning fs) ++ 10 ∷ [])
  unfolding flat_text with_colons
  flat_is =
      rw (written-texts (winning fs), append_assoc names (58 ∷ []) (with_colons (texts (winning fs)) ++ 10 ∷ []))
      (append_assoc names (58 ∷ with_colons (texts (winning fs))) (10 ∷ []))

  pub names-short : Bounded names fs → length names ≤ most_flat_bytes
  names-short h =
      let rest = written Texts (winning fs) ++ 10 ∷ [] in
      omega (arith, h.flat-bytes, ap length flat_is, length-append (names ++ 58 ∷ []) rest, length-append names (58 ∷ []))

  module _ (k end : ℕ) (out₂ out₃ : List ℕ) (named : k ≡ length names) (w : WroteWinning Texts fs out₂ (k + 1) out₃ end) where
    pub flat-length : end + 1 ≡ length (flat_text names fs)
    flat-length =
        let body = written Texts (winning fs) in
        rw flat_is
        (omega (arith, w.0, length-append (names ++ 58 ∷ []) (body ++ 10 ∷ []), length-append names (58 ∷ []), length-append body (10 ∷ [])))

    pub flat-stored : (out out₁ out₄ : List ℕ) → out₁ ≡ sets out 0 names → out₂ ≡ set out₁ k 58 → out₄ ≡ set out₃ end 10
        → out₄ ≡ sets out 0 (flat_text names fs)
    flat-stored out out₁ out₄ s₁ s₂ s₄ =
        let body = written Texts (winning fs) in
        let a : 0 + length (names ++ 58 ∷ []) ≡ k + 1 = omega (arith, named, length-append names (58 ∷ [])) in
        let b : k + 1 + length body ≡ end = sym w.0 in
        let flat = ap (sets out 0) flat_is ∙ stored-append out 0 (names ++ 58 ∷ []) (body ++ 10 ∷ []) in
        s₄ ∙ sym (flat ∙ rw (a, first) (stored-append out₂ (k + 1) body (10 ∷ []) ∙ rw (b, ← w.1)))
      where
        first : sets out 0 (names ++ 58 ∷ []) ≡ out₂
        first =
            let z : 0 + length names ≡ k = omega (arith, named) in
            stored-append out 0 names (58 ∷ []) ∙ rw (z, ← s₁, ← s₂)

-- ---- the operations

module _ (t : Terminal) (out : List ℕ) where
  pub list-none : (r : Refusal) → t ≡ refused r → (Err r ≡ (list_for t out).answer) × (out ≡ (list_for t out).buffer)
  unfolding list_for
  list-none r e = (rw e, rw e)

  pub flat-none : (r : Refusal) → t ≡ refused r → (Err r ≡ (flat_for t out).answer) × (out ≡ (flat_for t out).buffer)
  unfolding flat_for
  flat-none r e = (rw e, rw e)

-- the names of a chain's first line are what stands before its first colon
pub first_names_lem : (db : List (List ℕ)) (lines : List Location) (n : ℕ) (d : Location) (part : List ℕ) → 0 < n → 0 < length lines
    → part ≡ file_at db (get_or lines 0 d).file → first_names db (take n lines) ≡ field_at part (get_or lines 0 d).at
unfolding first_names names_of line_of
first_names_lem db lines zero d part h k e = absurd (omega arith)
first_names_lem db [] (suc n) d part h k e = absurd (omega arith)
first_names_lem db (p ∷ lines) (suc n) d part h k e = rw e

-- Flat of a chain: its names, of so many bytes, and its whole length
module _ (db : List (List ℕ)) (c : Chain) (d : Location) (part : List ℕ) (k : ℕ) (array : length c.lines ≡ 32) (some : 0 < c.count)
    (e : part ≡ file_at db (get_or c.lines 0 d).file) (named : k ≡ length (field_at part (get_or c.lines 0 d).at)) where
  pub first_line : first_names db (lines_of c) ≡ field_at part (get_or c.lines 0 d).at
  first_line = first_names_lem db c.lines c.count d part some (omega (arith, array)) e

  pub first-short : BoundedChain db c → k ≤ most_flat_bytes
  first-short b = omega (arith, names-short _ _ b, ap length first_line, named)

  pub whole-length : (out₂ out₃ : List ℕ) (end : ℕ) → WroteWinning Texts (joined_fields db 0 (lines_of c)) out₂ (k + 1) out₃ end
      → end + 1 ≡ length (flat_of db c)
  whole-length out₂ out₃ end w = rw first_line (flat-length _ _ _ _ _ _ named w)
