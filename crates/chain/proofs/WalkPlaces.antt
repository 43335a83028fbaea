-- The lines passed, as they stand in an array.
-- Assumes nothing.
use Rattle.std.specs.Prelude.{Option, Some, None}
use Prim.Native.Nat.{ℕ, zero, suc, ◌+◌, ◌-◌, ◌≤◌, ◌<◌}
use mathlib.Core.Path.{◌≡◌, refl, ◌∙◌, ap, sym}
use mathlib.Core.Bool.{Bool, true, false}
use mathlib.Core.List.{List, [], ◌∷◌, ◌++◌, map}
use native.Mathlib.Numerals.{add-one}
use native.Mathlib.Omega.{arith}
use lib.Dec.{eqb, eqb-zero-suc, eqb-suc-zero, eqb-suc-suc}
use Rattle.spec.specs.Choice.{both, either}
use Rattle.std.specs.Prelude.{nat_eq, ◌&&◌, ◌||◌}
use Rattle.std.specs.List.{list_any}
use lib.ListN.{length, take, set, length-map}
use lib.Seq.{take-suc-set}
use Rattle.spec.specs.Files.{line_of, find_from}
use Rattle.spec.specs.declared.Location.{Location}
use Rattle.spec.specs.Fields.{line_size, Verdict, malformed_line, no_link, link_to, verdict}
use Rattle.spec.specs.declared.Refusal.{Refusal}
use Rattle.descriptions.specs.Judgement.{Links}
use Rattle.spec.specs.declared.Refusal.TheVariants.{Malformed, ChainTooLarge, LostLink}
use Rattle.spec.specs.Chain.{broken, chain, visited, follow}
use Rattle.laws.proofs.WalkSteps.{follow_spoilt, follow_big, follow_last, follow-next}

eqb_swap : (a b : ℕ) → eqb a b ≡ eqb b a
eqb_swap zero zero = refl
eqb_swap zero (suc b) = rw (eqb-zero-suc b, eqb-suc-zero b)
eqb_swap (suc a) zero = rw (eqb-zero-suc a, eqb-suc-zero a)
eqb_swap (suc a) (suc b) = rw (eqb-suc-suc a b, eqb-suc-suc b a) (eqb_swap a b)

-- Whether a line is among others, by the order of equality that a slice's `contains` has.
pub visited_any : (p : Location) (l : List Location) → list_any (λ q. nat_eq q.file p.file && nat_eq q.at p.at) l ≡ visited p l
unfolding visited
visited_any p [] = refl
visited_any p (q ∷ l) = rw (eqb_swap p.file q.file, eqb_swap p.at q.at, visited_any p l) (split (nat_eq q.file p.file) (nat_eq q.at p.at) (visited p l))
  where
    split : (x y z : Bool) → ((x && y) || z) ≡ either (both x y) z
    split true true z = refl
    split true false z = refl
    split false y z = refl

pub take_more : (l : List Location) (n : ℕ) (p : Location) → n < length l → take n l ++ p ∷ [] ≡ take (n + 1) (set l n p)
take_more l n p h = rw (add-one n) (sym (take-suc-set l n p h))

-- ---- the walk with n lines passed in an array, and `left` of the size left

module _ (db : List (List ℕ)) (lines : List Location) (n left : ℕ) (missing : Refusal) (p : Location) (inside : n < length lines) (room : n < 32)
    (big : left ≤ 16384) (new : visited p (take n lines) ≡ false) where
  pub turn_spoilt : verdict (line_of db p) ≡ malformed_line → follow db (32 - n) (take n lines) (16384 - left) missing (Some p) ≡ broken Malformed
  turn_spoilt e = follow_spoilt db (take n lines) (16384 - left) missing n p room new e

  pub turn_big : (z : ℕ) → (verdict (line_of db p) ≡ malformed_line → ⊥) → line_size (line_of db p) ≡ z → left < z
      → follow db (32 - n) (take n lines) (16384 - left) missing (Some p) ≡ broken ChainTooLarge
  turn_big z e s h = follow_big db (take n lines) (16384 - left) missing n p room new e (omega arith)

  pub turn_last : (z : ℕ) → verdict (line_of db p) ≡ no_link → line_size (line_of db p) ≡ z → z ≤ left
      → follow db (32 - n) (take n lines) (16384 - left) missing (Some p) ≡ chain (take (n + 1) (set lines n p))
  turn_last z e s h = follow_last db (take n lines) (16384 - left) missing n p room new e (omega arith) ∙ ap chain (take_more lines n p inside)

  pub turn-next : (z : ℕ) (name : List ℕ) → verdict (line_of db p) ≡ link_to name → line_size (line_of db p) ≡ z → z ≤ left
      → follow db (32 - n) (take n lines) (16384 - left) missing (Some p)
      ≡ follow db (32 - (n + 1)) (take (n + 1) (set lines n p)) (16384 - (left - z)) LostLink (find_from db p.file name)
  turn-next z name e s h =
      let q : 16384 - left + line_size (line_of db p) ≡ 16384 - (left - z) = omega arith in
      follow-next db (take n lines) (16384 - left) missing n p room new name e (omega arith) ∙ rw (q, take_more lines n p inside)

pub last_not : (v : Verdict) → v ≡ no_link → v ≡ malformed_line → ⊥
last_not v e f = let z : ◌≡◌ {A = ℕ} 0 1 = cc in omega arith

pub next_not : (v : Verdict) (n : List ℕ) → v ≡ link_to n → v ≡ malformed_line → ⊥
next_not v n e f = let z : ◌≡◌ {A = ℕ} 0 1 = cc in omega arith

pub judged_not : (s : List ℕ) (w v : Verdict) (o : Option ℕ) → w ≡ v → Links s v o → w ≡ malformed_line → ⊥
judged_not s w v None e h = last_not w (e ∙ h)
judged_not s w v (Some name) e h = next_not w _ (e ∙ h.0)

-- What owning an array of structs tells of its list.
pub length_mapped : (X Y : Type 0) (f : X → Y) (l : List X) (n : ℕ) → length (map f l) ≡ n → length l ≡ n
length_mapped X Y f l n e = sym (length-map l f) ∙ e
