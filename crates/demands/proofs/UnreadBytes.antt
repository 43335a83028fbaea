-- Bytes after the last end are not read. Assumes nothing.
use Rattle.std.specs.Prelude.{Option, Some, None, Result, Err}
use Prim.Native.Nat.{ℕ, zero, suc, ◌+◌, ◌-◌, ◌/◌, ◌%◌, ◌≤◌, ◌<◌}
use mathlib.Core.Path.{◌≡◌, refl, ◌∙◌, ap, sym}
use mathlib.Core.Bool.{Bool, true, false}
use mathlib.Core.List.{List, [], ◌∷◌}
use native.Mathlib.Omega.{arith}
use lib.Dec.{eqb}
use lib.ListN.{length, take, drop, get_or}
use lib.Seq.{take-take}
use Rattle.spec.specs.Choice.{pick}
use Rattle.spec.specs.Refusals.{good_name, too_large}
use Rattle.spec.specs.Lists.{among}
use Rattle.spec.specs.Lines.{extent}
use Rattle.spec.specs.Files.{files, rising, good_ends, cut_at, contents, file_start, file_at, find_from}
use Rattle.spec.specs.Chain.{Terminal, refused, resolve}
use Rattle.spec.specs.Questions.{terminal_of, terminal_for, answer_for, string_for, shown, show_answer, shown_bytes, flag_answer, number_answer, string_outcome}
use Rattle.spec.specs.Search.{all_names, compared, told, search_answer}
use Rattle.spec.specs.Answers.{Outcome, keeping, put}
use Rattle.spec.specs.Listing.{list_for, flat_for, list_outcome, flat_outcome}
use Rattle.spec.specs.Batch.{batch_answers, batch_outcome}
use Rattle.spec.specs.declared.Kind.TheVariants.{Flag, Number}
use Rattle.spec.specs.declared.Refusal.{Refusal}
use Rattle.spec.specs.declared.Refusal.TheVariants.{BadName, DatabaseTooLarge, PartialQuestion, BadEnds}
use Rattle.laws.proofs.FileParts.{rises, good-rising, length-contents, located_in, located_extent}
use Rattle.demands.specs.UnreadBytes.{last_end, Unread}
use Rattle.spec.specs.declared.Location.{Location}
use Rattle.spec.specs.declared.Part.{Part}
use Rattle.spec.specs.declared.Tally.{Tally}

-- ---- a window of bytes that agree up to its end

cut_window : (l : List ℕ) (n m last : ℕ) → m + n ≤ last → take n (drop m (take last l)) ≡ take n (drop m l)
cut_window l n zero last h = take-take n last l (omega arith)
cut_window l n (suc m) zero h = absurd (omega arith)
cut_window [] n (suc m) (suc last) h = refl
cut_window (b ∷ l) n (suc m) (suc last) h = cut_window l n m last (omega arith)

window : (a b : List ℕ) (n m last : ℕ) → take last a ≡ take last b → m + n ≤ last → take n (drop m a) ≡ take n (drop m b)
window a b n m last e h = sym (cut_window a n m last h) ∙ ap (λ (l : List ℕ). take n (drop m l)) e ∙ cut_window b n m last h

-- ---- no end is above the last

rising_last : (from size e : ℕ) (es : List ℕ) → rising from size (e ∷ es) ≡ true → e ≤ last_end (e ∷ es)
unfolding last_end
rising_last from size e [] r = omega arith
rising_last from size e (f ∷ es) r =
    let more = (rises from size e (f ∷ es) r).later in
    omega (arith, (rises e size f es more).low, rising_last e size f es more)

last_of : (k : ℕ) (from size : ℕ) (ends : List ℕ) → rising from size ends ≡ true → k < length ends → get_or ends k 0 ≤ last_end ends
unfolding last_end
last_of k from size [] r h = absurd (omega arith)
last_of zero from size (e ∷ es) r h = rising_last from size e es r
last_of (suc k) from size (e ∷ []) r h = absurd (omega arith)
last_of (suc k) from size (e ∷ f ∷ es) r h = last_of k e size (f ∷ es) (rises from size e (f ∷ es) r).later (omega arith)

-- ---- the contents

module _ (a b : List ℕ) (last : ℕ) (agree : take last a ≡ take last b) where
  cut-same : (from size : ℕ) (ends : List ℕ) → rising from size ends ≡ true → last_end ends ≤ last → cut_at from a ends ≡ cut_at from b ends
  unfolding cut_at last_end
  cut-same from size [] r h = refl
  cut-same from size (e ∷ []) r h =
      let up = rises from size e [] r in
      ap (λ (f : List ℕ). f ∷ []) (window a b (e - from) from last agree (omega (arith, up.low)))
  cut-same from size (e ∷ f ∷ es) r h =
      let up = rises from size e (f ∷ es) r in
      let below = rising_last from size e (f ∷ es) r in
      rw (
        window a b (e - from) from last agree (omega (arith, up.low, below)),
        cut-same e size (f ∷ es) up.later h,
      )

module _ (a b ends : List ℕ) (long : length a ≡ length b) (agree : take (last_end ends) a ≡ take (last_end ends) b) where
  good-same : good_ends (files a ends) ≡ good_ends (files b ends)
  unfolding good_ends
  good-same = rw long

  contents-same : good_ends (files a ends) ≡ true → contents (files a ends) ≡ contents (files b ends)
  unfolding contents
  contents-same g = cut-same a b (last_end ends) agree 0 (length a) ends (good-rising (files a ends) g) (omega arith)

  large_same : too_large a ≡ too_large b
  unfolding too_large
  large_same = rw long

  terminal-same : (name : List ℕ) → terminal_of (files a ends) name ≡ terminal_of (files b ends) name
  unfolding terminal_of
  terminal-same name = rw (← good-same, large_same) (go (good_ends (files a ends)) refl)
    where
      in_order : Terminal → Terminal
      in_order t = pick (good_name name) (pick (too_large b) (refused DatabaseTooLarge) t) (refused BadName)

      go : (x : Bool) → good_ends (files a ends) ≡ x
          → pick x (in_order (resolve (contents (files a ends)) name)) (refused BadEnds)
          ≡ pick x (in_order (resolve (contents (files b ends)) name)) (refused BadEnds)
      go true g = rw (contents-same g)
      go false g = refl

  asked-same : (name id : List ℕ) → terminal_for (files a ends) name id ≡ terminal_for (files b ends) name id
  unfolding terminal_for
  asked-same name id = rw (← good-same, terminal-same name)

  search-same : (name : List ℕ) → search_answer (files a ends) name ≡ search_answer (files b ends) name
  unfolding search_answer
  search-same name = rw (← good-same, large_same) (go (good_ends (files a ends)) refl)
    where
      in_order : List (List ℕ) → Result Tally Refusal
      in_order ns = pick (good_name name) (pick (too_large b) (Err DatabaseTooLarge) (told (among name ns) (compared name ns))) (Err BadName)

      go : (x : Bool) → good_ends (files a ends) ≡ x
          → pick x (in_order (all_names (contents (files a ends)))) (Err BadEnds)
          ≡ pick x (in_order (all_names (contents (files b ends)))) (Err BadEnds)
      go true g = rw (contents-same g)
      go false g = refl

  -- ---- a batch

  batch-same : (name questions buffer : List ℕ) → batch_outcome (files a ends) name questions buffer ≡ batch_outcome (files b ends) name questions buffer
  unfolding batch_outcome
  batch-same name questions buffer = rw (← good-same, large_same) (go (good_ends (files a ends)) refl)
    where
      refusing : Refusal → Outcome (Result ℕ Refusal)
      refusing r = keeping (Err r) buffer

      in_order : Terminal → Outcome (Result ℕ Refusal)
      in_order t =
          pick (good_name name)
          (pick (too_large b) (refusing DatabaseTooLarge)
          (pick (eqb (length questions % 4) 0) (put (batch_answers t questions) (length questions / 4) buffer) (refusing PartialQuestion)))
          (refusing BadName)

      go : (x : Bool) → good_ends (files a ends) ≡ x
          → pick x (in_order (resolve (contents (files a ends)) name)) (refusing BadEnds)
          ≡ pick x (in_order (resolve (contents (files b ends)) name)) (refusing BadEnds)
      go true g = rw (contents-same g)
      go false g = refl

  -- ---- Show

  start-same : (k : ℕ) → file_start (files a ends) k ≡ file_start (files b ends) k
  unfolding file_start
  start-same k = refl

  shown-same : (x : Option Location) → good_ends (files a ends) ≡ true → shown (files a ends) x ≡ shown (files b ends) x
  unfolding shown
  shown-same (Some l) g = rw (contents-same g, start-same l.file)
  shown-same None g = refl

  show-same : (name : List ℕ) → show_answer (files a ends) name ≡ show_answer (files b ends) name
  unfolding show_answer
  show-same name = rw (← good-same, large_same) (go (good_ends (files a ends)) refl)
    where
      in_order : Result Part Refusal → Result Part Refusal
      in_order s = pick (good_name name) (pick (too_large b) (Err DatabaseTooLarge) s) (Err BadName)

      go : (x : Bool) → good_ends (files a ends) ≡ x
          → pick x (in_order (shown (files a ends) (find_from (contents (files a ends)) 0 name))) (Err BadEnds)
          ≡ pick x (in_order (shown (files b ends) (find_from (contents (files b ends)) 0 name))) (Err BadEnds)
      go true g = rw (shown-same (find_from (contents (files a ends)) 0 name) g, contents-same g)
      go false g = refl

  -- the bytes of a part that ends no later than the last end
  bytes_same : (name : List ℕ) → shown_bytes a (show_answer (files a ends) name) ≡ shown_bytes b (show_answer (files a ends) name)
  unfolding show_answer shown
  bytes_same name = go (good_ends (files a ends)) refl (good_name name) (too_large a) (find_from (contents (files a ends)) 0 name) refl
    where
      go : (x : Bool) → good_ends (files a ends) ≡ x → (y z : Bool) (f : Option Location) → find_from (contents (files a ends)) 0 name ≡ f
          → shown_bytes a (pick x (pick y (pick z (Err DatabaseTooLarge) (shown (files a ends) f)) (Err BadName)) (Err BadEnds))
          ≡ shown_bytes b (pick x (pick y (pick z (Err DatabaseTooLarge) (shown (files a ends) f)) (Err BadName)) (Err BadEnds))
      go true g true true f e = refl
      go true g true false (Some l) e =
          let x = located_extent (files a ends) name l g e in
          let i = located_in (contents (files a ends)) name 0 l e in
          let below = last_of l.file 0 (length a) ends (good-rising (files a ends) g) (omega (arith, i.0, length-contents (files a ends))) in
          let start = file_start (files a ends) l.file in
          let end = extent (file_at (contents (files a ends)) l.file) l.at in
          window a b (start + end - (start + l.at)) (start + l.at) (last_end ends) agree (omega (arith, x.0, x.1, below))
      go true g true false None e = refl
      go true g false z f e = refl
      go false g y z f e = refl

pub unread : Unread
unfolding flag_answer number_answer string_outcome list_outcome flat_outcome
unread a b ends long agree = record {
  show = show-same a b ends long agree;
  shown-bytes = λ name. bytes_same a b ends long agree name ∙ ap (shown_bytes b) (show-same a b ends long agree name);
  search = search-same a b ends long agree;
  flag = λ name id. ap (answer_for id Flag) (asked-same a b ends long agree name id);
  number = λ name id. ap (answer_for id Number) (asked-same a b ends long agree name id);
  string = λ name id buffer. ap (λ (t : Terminal). string_for id t buffer) (asked-same a b ends long agree name id);
  list = λ name buffer. ap (λ (t : Terminal). list_for t buffer) (terminal-same a b ends long agree name);
  flat = λ name buffer. ap (λ (t : Terminal). flat_for t buffer) (terminal-same a b ends long agree name);
  batch = batch-same a b ends long agree;
}
