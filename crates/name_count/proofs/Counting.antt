-- Counting list after list: what is left to look at, and what one more list adds.
-- Assumes nothing.
use Prim.Native.Nat.{ℕ, ◌+◌, ◌≤◌, ◌<◌}
use mathlib.Core.Path.{◌≡◌, refl, ◌∙◌, sym}
use mathlib.Core.Bool.{Bool, true, false}
use mathlib.Core.List.{List, [], ◌∷◌, ◌++◌}
use native.Mathlib.Numerals.{add-one}
use native.Mathlib.Omega.{arith}
use borrow.Author.Tests.{eq-eqb, ne_eqb}
use lib.ListN.{length, drop, drop_of_length-le}
use lib.Seq.{drop-cons}
use Rattle.spec.specs.Choice.{pick, either}
use Rattle.spec.specs.Lists.{same, among}
use Rattle.spec.specs.Lines.{Text, text_at, line_text, later_lines, lines_from, is_ignored}
use Rattle.spec.specs.Files.{file_at}
use Rattle.spec.specs.Search.{split_names, line_names, names_in, file_names, all_names, counted, compared}
use Rattle.laws.proofs.CountedNames.{among-append, compared-append}
use Rattle.laws.proofs.WholeLines.{other_length}
use Rattle.spec.specs.declared.Tally.{Tally}
use Rattle.name_count.specs.Tallies.{Fits, Tallied}

-- ---- one name

module _ (name m : List ℕ) where
  pub other_name : (length m ≡ length name → ⊥) → (among name (m ∷ []) ≡ false) × (compared name (m ∷ []) ≡ 0)
  unfolding among compared counted
  other_name h = rw (other_length name m h, ne_eqb (length m) (length name) h) (refl, refl)

  pub like_name : length m ≡ length name → (among name (m ∷ []) ≡ same name m) × (compared name (m ∷ []) ≡ 1)
  unfolding among compared counted
  like_name h = rw (eq-eqb (length m) (length name) h) (either_false (same name m), one (same name m))
    where
      either_false : (x : Bool) → either x false ≡ x
      either_false true = refl
      either_false false = refl

      one : (x : Bool) → 1 + pick {A = ℕ} x 0 0 ≡ 1
      one true = refl
      one false = refl

-- ---- the names that are left, and the count so far

pub record Left (name : List ℕ) (all : List (List ℕ)) (before : ℕ) (names : List (List ℕ)) (n : ℕ) : Type 0 where
  pub found : among name all ≡ among name names
  pub count : before + compared name all ≡ n + compared name names

module _ (name : List ℕ) (all : List (List ℕ)) (before : ℕ) where
  pub at-start : Left name all before all before
  at-start = record { found = refl; count = refl }

  module _ (a b : List (List ℕ)) (n : ℕ) (left : Left name all before (a ++ b) n) where
    pub next_fits : Fits name all before → Fits name a n
    next_fits h = omega (arith, left.count, compared-append name a b)

    module _ (t : Tally) (tally : Tallied name a n t) where
      pub found_here : t.found ≡ true → Tallied name all before t
      found_here e =
          let here : among name a ≡ true = sym tally.0 ∙ e in
          (e ∙ sym (left.found ∙ among-append name a b ∙ rw here), omega (arith, tally.1, left.count, rw here at (compared-append name a b)))

      pub go_on : t.found ≡ false → Left name all before b t.compared
      go_on e =
          let not-here : among name a ≡ false = sym tally.0 ∙ e in
          record {
            found = left.found ∙ among-append name a b ∙ rw not-here;
            count = omega (arith, tally.1, left.count, rw not-here at (compared-append name a b));
          }

  pub none_left : (n : ℕ) → Left name all before [] n → Tallied name all before (record { found = false; compared = n })
  unfolding among compared
  none_left n left = (sym left.found, sym (left.count ∙ omega arith))

-- ---- a line, the lines of a file, and the files

pub ignored-names : (l : List ℕ) → is_ignored l ≡ true → line_names l ≡ []
unfolding line_names
ignored-names l e = rw e

pub held-names : (l : List ℕ) → is_ignored l ≡ false → line_names l ≡ split_names l
unfolding line_names
held-names l e = rw e

pub names-from : (at : ℕ) (t : Text) → names_in (lines_from at t) ≡ line_names (line_text t) ++ names_in (later_lines t)
unfolding names_in
names-from at t = refl

pub no_names : names_in [] ≡ []
unfolding names_in
no_names = refl

pub file-start : (f : List ℕ) → file_names f ≡ names_in (lines_from 0 (text_at f 0))
unfolding file_names
file-start f = refl

-- The names of the files from a file on.
unfoldable pub names_onward : List (List ℕ) → ℕ → List (List ℕ)
names_onward fs k = all_names (drop k fs)

module _ (fs : List (List ℕ)) where
  pub onward-start : all_names fs ≡ names_onward fs 0
  unfolding names_onward
  onward-start = refl

  pub onward-next : (k : ℕ) → k < length fs → names_onward fs k ≡ file_names (file_at fs k) ++ names_onward fs (k + 1)
  unfolding names_onward all_names file_at
  onward-next k h = rw (drop-cons fs k [] h, add-one k)

  pub onward-end : (k : ℕ) → length fs ≤ k → names_onward fs k ≡ []
  unfolding names_onward all_names
  onward-end k h = rw (drop_of_length-le fs h)
