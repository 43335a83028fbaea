-- An accepted walk, line by line: each line is new and not malformed, it fits, and its link leads to the next one.
-- Assumes nothing.
use Rattle.std.specs.Prelude.{Option, Some, None}
use Prim.Native.Nat.{ℕ, zero, suc, ◌+◌, ◌≤◌}
use mathlib.Core.Path.{◌≡◌, refl, ◌∙◌, ap, sym}
use mathlib.Core.Bool.{Bool, true, false}
use mathlib.Core.List.{List, [], ◌∷◌, ◌++◌, append-nil, append_assoc}
use native.Mathlib.Omega.{arith}
use borrow.Author.Tests.{ltb-false, le-ltb, eq-eqb}
use lib.Dec.{eqb, ltb}
use lib.ListN.{length, length-append}
use Rattle.spec.specs.Choice.{pick, both, either}
use Rattle.spec.specs.Files.{line_of, find_from}
use Rattle.spec.specs.Lists.{holds}
use Rattle.spec.specs.Fields.{fields_of, line_size, Verdict, malformed_line, no_link, link_to, judge, verdict}
use Rattle.spec.specs.Chain.{Chain, broken, chain, visited, link_target, entered, follow, walk}
use Rattle.spec.specs.declared.Location.{Location}
use Rattle.spec.specs.declared.Refusal.{Refusal}
use Rattle.spec.specs.declared.Refusal.TheVariants.{Cycle, ChainTooLarge, LostLink, UnknownName}

-- The sum of the sizes of the lines at these places.
unfoldable pub sizes : List (List ℕ) → List Location → ℕ
sizes db [] = 0
sizes db (p ∷ ps) = line_size (line_of db p) + sizes db ps

-- With room for so many descriptions, lines passed and their size: from what is found the walk goes along these lines and is accepted.
pub data Way (db : List (List ℕ)) : ℕ → List Location → ℕ → Option Location → List Location → Type 0 where
  last : {n : ℕ} {seen : List Location} {size : ℕ} (p : Location)
      → visited p seen ≡ false → verdict (line_of db p) ≡ no_link → size + line_size (line_of db p) ≤ 16384 → Way db (suc n) seen size (Some p) (p ∷ [])
  next : {n : ℕ} {seen : List Location} {size : ℕ} (p : Location) (name : List ℕ) {ps : List Location}
      → visited p seen ≡ false → verdict (line_of db p) ≡ link_to name → size + line_size (line_of db p) ≤ 16384
      → Way db n (seen ++ p ∷ []) (size + line_size (line_of db p)) (find_from db p.file name) ps → Way db (suc n) seen size (Some p) (p ∷ ps)

has_colon : (l : List ℕ) (v : Verdict) → verdict l ≡ v → (v ≡ malformed_line → ⊥) → holds 58 l ≡ true
unfolding verdict
has_colon l v e n = go (holds 58 l) e
  where
    go : (x : Bool) → pick x (judge (fields_of l)) malformed_line ≡ v → x ≡ true
    go true q = refl
    go false q = absurd (n (sym q))

module _ (db : List (List ℕ)) where
  -- ---- a walk that is accepted is such a way, and the other way round

  abbrev Went : ℕ → List Location → ℕ → Option Location → List Location → Type 0
  Went n seen size found ps = (qs : List Location) × (ps ≡ seen ++ qs) × Way db n seen size found qs

  entered_way : (n : ℕ) (seen : List Location) (size : ℕ) (p : Location) (v : Verdict) (big : Bool) (more : Chain) (ps : List Location)
      → visited p seen ≡ false → verdict (line_of db p) ≡ v → ltb 16384 (size + line_size (line_of db p)) ≡ big
      → (more ≡ chain ps → Went n (seen ++ p ∷ []) (size + line_size (line_of db p)) (link_target db p v) ps)
      → entered (seen ++ p ∷ []) v big more ≡ chain ps → Went (suc n) seen size (Some p) ps
  unfolding entered link_target
  entered_way n seen size p malformed_line big more ps f e b ih h = let z : ◌≡◌ {A = ℕ} 0 1 = cc in absurd (omega arith)
  entered_way n seen size p no_link true more ps f e b ih h = let z : ◌≡◌ {A = ℕ} 0 1 = cc in absurd (omega arith)
  entered_way n seen size p no_link false more ps f e b ih h =
      let q : ps ≡ seen ++ p ∷ [] = cc in
      (p ∷ [], q, last p f e (ltb-false 16384 (size + line_size (line_of db p)) b))
  entered_way n seen size p (link_to name) true more ps f e b ih h = let z : ◌≡◌ {A = ℕ} 0 1 = cc in absurd (omega arith)
  entered_way n seen size p (link_to name) false more ps f e b ih h =
      let k = ih h in
      (p ∷ k.0, k.1 ∙ append_assoc seen (p ∷ []) k.0, next p name f e (ltb-false 16384 (size + line_size (line_of db p)) b) k.2)

  way_of : (n : ℕ) (seen : List Location) (size : ℕ) (missing : Refusal) (found : Option Location) (ps : List Location)
      → follow db n seen size missing found ≡ chain ps → Went n seen size found ps
  unfolding follow
  way_of zero seen size missing None ps h = let z : ◌≡◌ {A = ℕ} 0 1 = cc in absurd (omega arith)
  way_of zero seen size missing (Some p) ps h = go (visited p seen) h
    where
      go : (x : Bool) → pick x (broken Cycle) (broken ChainTooLarge) ≡ chain ps → Went zero seen size (Some p) ps
      go true h = let z : ◌≡◌ {A = ℕ} 0 1 = cc in absurd (omega arith)
      go false h = let z : ◌≡◌ {A = ℕ} 0 1 = cc in absurd (omega arith)
  way_of (suc n) seen size missing None ps h = let z : ◌≡◌ {A = ℕ} 0 1 = cc in absurd (omega arith)
  way_of (suc n) seen size missing (Some p) ps h =
      go (visited p seen) refl (way_of n (seen ++ p ∷ []) (size + line_size (line_of db p)) LostLink (link_target db p (verdict (line_of db p))) ps) h
    where
      more : Chain
      more = follow db n (seen ++ p ∷ []) (size + line_size (line_of db p)) LostLink (link_target db p (verdict (line_of db p)))

      go : (x : Bool) → visited p seen ≡ x
          → (more ≡ chain ps → Went n (seen ++ p ∷ []) (size + line_size (line_of db p)) (link_target db p (verdict (line_of db p))) ps)
          → pick x (broken Cycle) (entered (seen ++ p ∷ []) (verdict (line_of db p)) (ltb 16384 (size + line_size (line_of db p))) more) ≡ chain ps
          → Went (suc n) seen size (Some p) ps
      go true f ih h = let z : ◌≡◌ {A = ℕ} 0 1 = cc in absurd (omega arith)
      go false f ih h = entered_way n seen size p (verdict (line_of db p)) _ more ps f refl refl ih h

  follow_way : {n : ℕ} {seen : List Location} {size : ℕ} {found : Option Location} {ps : List Location} → Way db n seen size found ps
      → (missing : Refusal) → follow db n seen size missing found ≡ chain (seen ++ ps)
  unfolding follow entered link_target
  follow_way (last {size = size} p f e h) missing = rw (f, e, le-ltb 16384 (size + line_size (line_of db p)) h)
  follow_way (next {seen = seen} {size = size} p name {ps = ps} f e h w) missing =
      rw (f, e, le-ltb 16384 (size + line_size (line_of db p)) h) (follow_way w LostLink ∙ ap chain (append_assoc seen (p ∷ []) ps))

  pub walk_way : (name : List ℕ) (ps : List Location) → walk db name ≡ chain ps → Way db 32 [] 0 (find_from db 0 name) ps
  unfolding walk
  walk_way name ps e = let k = way_of 32 [] 0 UnknownName (find_from db 0 name) ps e in rw k.1 k.2

  pub way_walk : (name : List ℕ) (ps : List Location) → Way db 32 [] 0 (find_from db 0 name) ps → walk db name ≡ chain ps
  unfolding walk
  way_walk name ps w = follow_way w UnknownName

  -- ---- what an accepted walk has

  pub some-line : {n : ℕ} {seen : List Location} {size : ℕ} {found : Option Location} {ps : List Location} → Way db n seen size found ps → ps ≡ [] → ⊥
  some-line (last p f e h) q = let z : ◌≡◌ {A = ℕ} 0 1 = cc in absurd (omega arith)
  some-line (next p name f e h w) q = let z : ◌≡◌ {A = ℕ} 0 1 = cc in absurd (omega arith)

  pub way_count : {n : ℕ} {seen : List Location} {size : ℕ} {found : Option Location} {ps : List Location} → Way db n seen size found ps → length ps ≤ n
  way_count (last p f e h) = omega arith
  way_count (next p name f e h w) = omega (arith, way_count w)

  pub way_fits : {n : ℕ} {seen : List Location} {size : ℕ} {found : Option Location} {ps : List Location} → Way db n seen size found ps
      → size + sizes db ps ≤ 16384
  unfolding sizes
  way_fits (last p f e h) = omega arith
  way_fits (next p name f e h w) = omega (arith, way_fits w)

-- ---- lines passed

pub visited_first : (p : Location) (qs : List Location) → visited p (p ∷ qs) ≡ true
unfolding visited
visited_first p qs = rw (eq-eqb p.file p.file refl, eq-eqb p.at p.at refl)

visited-append : (p : Location) (qs rs : List Location) → visited p (qs ++ rs) ≡ either (visited p qs) (visited p rs)
unfolding visited
visited-append p [] rs = refl
visited-append p (q ∷ qs) rs = rw (visited-append p qs rs) (go (both (eqb p.file q.file) (eqb p.at q.at)))
  where
    go : (x : Bool) → either x (either (visited p qs) (visited p rs)) ≡ either (either x (visited p qs)) (visited p rs)
    go true = refl
    go false = refl

pub new_right : (p : Location) (qs rs : List Location) → visited p (qs ++ rs) ≡ false → visited p rs ≡ false
new_right p qs rs e = go (visited p qs) (visited p rs) (sym (visited-append p qs rs) ∙ e)
  where
    go : (x y : Bool) → either x y ≡ false → y ≡ false
    go true true h = h
    go true false h = refl
    go false y h = h

pub no_end : (qs : List Location) (l : Location) (rs : List Location) → [] ≡ qs ++ l ∷ rs → ⊥
no_end qs l rs e =
    let n : 0 ≡ length (qs ++ l ∷ rs) = ap length e in
    omega (arith, length-append qs (l ∷ rs))

-- With fewer lines passed and more room the walk is accepted too.
lighter : (db : List (List ℕ)) {n : ℕ} {seen : List Location} {size : ℕ} {found : Option Location} {ps : List Location} → Way db n seen size found ps
    → (m : ℕ) (extra fewer : List Location) (less : ℕ) → seen ≡ extra ++ fewer → less ≤ size → n ≤ m → Way db m fewer less found ps
lighter db (last p f e h) zero extra fewer less q l r = absurd (omega arith)
lighter db (last p f e h) (suc m) extra fewer less q l r = last {size = less} p (new_right p extra fewer (rw (← q) f)) e (omega arith)
lighter db (next p name f e h w) zero extra fewer less q l r = absurd (omega arith)
lighter db (next p name f e h w) (suc m) extra fewer less q l r =
    let passed = ap (λ (ls : List Location). ls ++ p ∷ []) q ∙ append_assoc extra fewer (p ∷ []) in
    next {size = less} p name (new_right p extra fewer (rw (← q) f)) e (omega arith)
    (lighter db w m extra (fewer ++ p ∷ []) (less + line_size (line_of db p)) passed (omega arith) (omega arith))

-- ---- a line of the chain

-- It was searched for, and from it the walk goes on along the lines behind it.
pub record Reached (db : List (List ℕ)) (n : ℕ) (passed : List Location) (l : Location) (after : List Location) : Type 0 where
  pub room : ℕ
  pub fewer : room ≤ n
  pub size : ℕ
  pub from : ℕ
  pub name : List ℕ
  pub way : Way db room passed size (find_from db from name) (l ∷ after)

module _ (db : List (List ℕ)) (l : Location) (after : List Location) where
  pub reach : {n : ℕ} {seen : List Location} {size : ℕ} {found : Option Location} {ps : List Location} → Way db n seen size found ps
      → (before : List Location) (from : ℕ) (name : List ℕ) → found ≡ find_from db from name → ps ≡ before ++ l ∷ after → Reached db n (seen ++ before) l after
  reach {n} {seen} {size} w [] from name g e =
      record { room = n; fewer = omega arith; size = size; from = from; name = name; way = rw (append-nil seen, ← g, ← e) w }
  reach (last p f v h) (q ∷ before) from name g e =
      let t : [] ≡ before ++ l ∷ after = cc in
      absurd (no_end before l after t)
  reach (next {n = n} {seen = seen} p link {ps = ps} f v h w) (q ∷ before) from name g e =
      let t : ps ≡ before ++ l ∷ after = cc in
      let i : p ≡ q = cc in
      let k = reach {n = n} w before p.file link refl t in
      let j : seen ++ p ∷ [] ++ before ≡ seen ++ q ∷ before = rw (← i) (append_assoc seen (p ∷ []) before) in
      record { room = k.room; fewer = omega (arith, k.fewer); size = k.size; from = k.from; name = k.name; way = rw (← j) k.way }

  -- what the walk says of the line itself
  pub record Stands (seen : List Location) (size : ℕ) (found : Option Location) : Type 0 where
    pub at : found ≡ Some l
    pub new : visited l seen ≡ false
    pub colon : holds 58 (line_of db l) ≡ true
    pub fits : size + line_size (line_of db l) + sizes db after ≤ 16384

  pub stands : {n : ℕ} {seen : List Location} {size : ℕ} {found : Option Location} {ps : List Location} → Way db n seen size found ps → ps ≡ l ∷ after
      → Stands seen size found
  unfolding sizes
  stands (last p f v h) e =
      let i : p ≡ l = cc in
      let t : after ≡ [] = cc in
      let c = has_colon (line_of db p) no_link v (λ x. let z : ◌≡◌ {A = ℕ} 0 1 = cc in absurd (omega arith)) in
      record { at = ap Some i; new = rw (← i) f; colon = rw (← i) c; fits = rw (← i, t) (omega arith) }
  stands (next p name {ps = ps} f v h w) e =
      let i : p ≡ l = cc in
      let t : ps ≡ after = cc in
      let c = has_colon (line_of db p) (link_to name) v (λ x. let z : ◌≡◌ {A = ℕ} 0 1 = cc in absurd (omega arith)) in
      record { at = ap Some i; new = rw (← i) f; colon = rw (← i) c; fits = rw (← i, ← t) (way_fits db w) }

  -- and of its link: the walk from there is accepted on its own
  pub onward : (linked : List ℕ) → verdict (line_of db l) ≡ link_to linked
      → {n : ℕ} {seen : List Location} {size : ℕ} {found : Option Location} {ps : List Location} → Way db n seen size found ps → ps ≡ l ∷ after → n ≤ 32
      → Way db 32 [] 0 (find_from db l.file linked) after
  onward linked b (last p f v h) e r =
      let i : p ≡ l = cc in
      let q : no_link ≡ link_to linked = sym v ∙ ap (λ (x : Location). verdict (line_of db x)) i ∙ b in
      let z : ◌≡◌ {A = ℕ} 0 1 = cc in
      absurd (omega arith)
  onward linked b (next {seen = seen} p name {ps = ps} f v h w) e r =
      let i : p ≡ l = cc in
      let t : ps ≡ after = cc in
      let q : link_to name ≡ link_to linked = sym v ∙ ap (λ (x : Location). verdict (line_of db x)) i ∙ b in
      let u : name ≡ linked = cc in
      rw (← t, ← u, ← i) (lighter db w 32 (seen ++ p ∷ []) [] 0 (sym (append-nil (seen ++ p ∷ []))) (omega arith) (omega arith))
