-- The walk step by step: n descriptions are passed, and room for 32 - n is left.
-- Assumes nothing.
use Rattle.std.specs.Prelude.{Some, None}
use Prim.Native.Nat.{ℕ, zero, suc, ◌+◌, ◌-◌, ◌≤◌, ◌<◌}
use mathlib.Core.Path.{◌≡◌, refl}
use mathlib.Core.Bool.{true, false}
use mathlib.Core.List.{List, [], ◌∷◌, ◌++◌}
use native.Mathlib.Omega.{arith}
use borrow.Author.Tests.{lt-ltb, le-ltb}
use lib.Dec.{ltb}
use Rattle.spec.specs.Files.{line_of, find_from}
use Rattle.spec.specs.declared.Location.{Location}
use Rattle.spec.specs.Fields.{line_size, Verdict, malformed_line, no_link, link_to, verdict}
use Rattle.spec.specs.declared.Refusal.{Refusal}
use Rattle.spec.specs.declared.Refusal.TheVariants.{Malformed, Cycle, ChainTooLarge, LostLink, UnknownName}
use Rattle.spec.specs.Chain.{Chain, broken, chain, visited, link_target, entered, follow, walk}

pub visited_nil : (p : Location) → visited p [] ≡ false
unfolding visited
visited_nil p = refl

module _ (db : List (List ℕ)) (seen : List Location) (size : ℕ) (missing : Refusal) where
  pub follow-none : (m : ℕ) → follow db m seen size missing None ≡ broken missing
  unfolding follow
  follow-none zero = refl
  follow-none (suc m) = refl

  pub follow-back : (m : ℕ) (p : Location) → visited p seen ≡ true → follow db m seen size missing (Some p) ≡ broken Cycle
  unfolding follow
  follow-back zero p e = rw e
  follow-back (suc m) p e = rw e

  pub follow_full : (n : ℕ) (p : Location) → 32 ≤ n → visited p seen ≡ false → follow db (32 - n) seen size missing (Some p) ≡ broken ChainTooLarge
  unfolding follow
  follow_full n p h e =
      let z : 32 - n ≡ 0 = omega arith in
      rw (z, e)

  -- the line at p is new, and there is room for it
  module _ (n : ℕ) (p : Location) (room : n < 32) (new : visited p seen ≡ false) where
    step : follow db (32 - n) seen size missing (Some p)
        ≡ entered (seen ++ p ∷ []) (verdict (line_of db p)) (ltb 16384 (size + line_size (line_of db p)))
        (follow db (32 - (n + 1)) (seen ++ p ∷ []) (size + line_size (line_of db p)) LostLink (link_target db p (verdict (line_of db p))))
    unfolding follow
    step =
        let z : 32 - n ≡ suc (32 - (n + 1)) = omega arith in
        rw (z, new)

    pub follow_spoilt : verdict (line_of db p) ≡ malformed_line → follow db (32 - n) seen size missing (Some p) ≡ broken Malformed
    unfolding entered
    follow_spoilt e = rw (step, e)

    pub follow_big : (verdict (line_of db p) ≡ malformed_line → ⊥) → 16384 < size + line_size (line_of db p)
        → follow db (32 - n) seen size missing (Some p) ≡ broken ChainTooLarge
    unfolding entered
    follow_big e h = rw (step, lt-ltb 16384 (size + line_size (line_of db p)) h) (go (verdict (line_of db p)) refl _)
      where
        go : (v : Verdict) → verdict (line_of db p) ≡ v → (more : Chain) → entered (seen ++ p ∷ []) v true more ≡ broken ChainTooLarge
        go malformed_line q more = absurd (e q)
        go no_link q more = refl
        go (link_to name) q more = refl

    pub follow_last : verdict (line_of db p) ≡ no_link → size + line_size (line_of db p) ≤ 16384
        → follow db (32 - n) seen size missing (Some p) ≡ chain (seen ++ p ∷ [])
    unfolding entered
    follow_last e h = rw (step, e, le-ltb 16384 (size + line_size (line_of db p)) h)

    pub follow-next : (name : List ℕ) → verdict (line_of db p) ≡ link_to name → size + line_size (line_of db p) ≤ 16384
        → follow db (32 - n) seen size missing (Some p) ≡ follow db (32 - (n + 1)) (seen ++ p ∷ []) (size + line_size (line_of db p)) LostLink
        (find_from db p.file name)
    unfolding entered link_target
    follow-next name e h = rw (step, e, le-ltb 16384 (size + line_size (line_of db p)) h)

pub walk_first : (db : List (List ℕ)) (name : List ℕ) → walk db name ≡ follow db (32 - 0) [] 0 UnknownName (find_from db 0 name)
unfolding walk
walk_first db name = refl
