-- The text of an answer: the bytes of records one after the other. Assumes nothing.
use Rattle.std.specs.Prelude.{Result, Ok}
use Prim.Native.Nat.{ℕ, ◌+◌, ◌*◌, ◌≤◌, ◌<◌}
use mathlib.Core.Path.{◌≡◌, sym, ap, ◌∙◌}
use mathlib.Core.List.{List, [], ◌∷◌, ◌++◌}
use native.Mathlib.Numerals.{add-one}
use native.Mathlib.Omega.{arith}
use borrow.Author.Tests.{leb-true}
use lib.Dec.{leb}
use lib.ListN.{length, drop, get_or, set, drop_of_length-le}
use lib.Seq.{sets, drop-cons}
use Rattle.spec.specs.Digits.{written}
use Rattle.laws.proofs.DigitLaws.{written-most}
use Rattle.laws.proofs.Stores.{stored-append}
use Rattle.spec.specs.Files.{Files}
use Rattle.spec.specs.Chain.{Terminal, refused, terminal}
use Rattle.spec.specs.Lookup.{winning}
use Rattle.spec.specs.Answers.{Outcome, put}
use Rattle.spec.specs.Questions.{terminal_of}
use Rattle.spec.specs.Listing.{records, list_for, list_outcome}
use Rattle.laws.proofs.Tests.{pick-told}
use Rattle.laws.proofs.Records.{records-length}
use Rattle.laws.proofs.Winning.{winning-wins}
use Rattle.tclist.specs.Output.{separator_of, decimals}
use Rattle.spec.specs.declared.Refusal.{Refusal}

pub byte-short : (b : ℕ) → b < 1000 → length (written 10 1 b) ≤ 3
byte-short b h = written-most 10 1 b (omega arith) 3 (omega arith) h

-- a text, a byte after it, and what follows
pub stored-rest : (out m o : List ℕ) (at end s : ℕ) (w rest : List ℕ) → m ≡ sets out at w → end ≡ at + length w → o ≡ set m end s
    → sets o (end + 1) rest ≡ sets out at (w ++ s ∷ rest)
stored-rest out m o at end s w rest em e eo = rw (eo, em, e, add-one) (sym (stored-append out at w (s ∷ rest)))

module _ (l : List ℕ) (k : ℕ) where
  pub decimals-end : length l ≤ k → decimals k (drop k l) ≡ []
  unfolding decimals
  decimals-end h = rw (drop_of_length-le l h)

  pub decimals-next : k < length l → decimals k (drop k l) ≡ written 10 1 (get_or l k 0) ++ separator_of k ∷ decimals (k + 1) (drop (k + 1) l)
  unfolding decimals
  decimals-next h = ap (decimals k) (drop-cons l k 0 h) ∙ rw add-one

-- the records that are reported lie within the buffer
pub list-fits : (db : Files) (name buffer : List ℕ) (n : ℕ) → (list_outcome db name buffer).answer ≡ Ok n → 12 * n ≤ length buffer
unfolding list_outcome list_for put
list-fits db name buffer n = go (terminal_of db name)
  where
    go : (t : Terminal) → (list_for t buffer).answer ≡ Ok n → 12 * n ≤ length buffer
    go (refused r) e = let z : ◌≡◌ {A = ℕ} 0 1 = cc in absurd (omega arith)
    go (terminal names fs) f =
        let size = length (records (winning fs)) in
        pick-told (λ (o : Outcome (Result ℕ Refusal)). o.answer ≡ Ok n → 12 * n ≤ length buffer) (leb size (length buffer))
        (λ t e. let same : length (winning fs) ≡ n = cc in omega (arith, records-length (winning fs) (winning-wins fs), leb-true size (length buffer) t))
        (λ t e. let z : ◌≡◌ {A = ℕ} 0 1 = cc in absurd (omega arith)) f
