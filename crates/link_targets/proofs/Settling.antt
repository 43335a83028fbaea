-- Numbers settled one after the other: by a store, by a name, by the names of a line, by all lines.
-- Assumes nothing.
use Rattle.std.specs.Prelude.{Option, Some}
use Prim.Native.Nat.{ℕ, ◌≤◌, ◌<◌}
use mathlib.Core.Path.{◌≡◌, refl, ◌∙◌, sym}
use mathlib.Core.Bool.{Bool, true, false}
use mathlib.Core.List.{List, [], ◌∷◌}
use native.Mathlib.Omega.{arith}
use borrow.Author.Tests.{eqb-true, eqb-false, ne_eqb}
use lib.Dec.{eqb}
use lib.ListN.{length, get_or, set, get_or-eq_default}
use lib.Seq.{get_or-set_same, get_or-set_other}
use Rattle.spec.specs.Choice.{pick, both, either}
use Rattle.spec.specs.Lists.{holds}
use Rattle.spec.specs.Lines.{text_at, line_text, line_at, later_lines, lines_from, is_ignored, first_name, later_names}
use Rattle.spec.specs.Repair.{lines_of}
use Rattle.laws.proofs.Tests.{both_false}
use Rattle.link_targets.specs.Targets.{name_at, place_of, settled, or_else, any_numbered, line_names, numbered, first_numbered, Settles, Unsettled, FirstLines}

-- ---- one number

settled_twice : (at v : ℕ) (x y : Bool) → settled at y (settled at x v) ≡ settled at (either x y) v
unfolding settled
settled_twice at v x y = go x y (eqb v 1048577) refl (eqb at 1048577) refl
  where
    go : (x y s : Bool) → eqb v 1048577 ≡ s → (t : Bool) → eqb at 1048577 ≡ t
        → pick (both y (eqb (pick (both x (eqb v 1048577)) at v) 1048577)) at (pick (both x (eqb v 1048577)) at v) ≡ pick
        (both (either x y) (eqb v 1048577)) at v
    go true true true s true t = rw (s, t)
    go true true true s false t = rw (s, t)
    go true true false s r t = rw (s, s)
    go true false true s r t = rw s
    go true false false s r t = rw s
    go false y s e r t = refl

settled_else : (at v : ℕ) (hit : Bool) (rest : Option ℕ) → (at ≡ 1048577 → ⊥) → or_else (settled at hit v) rest ≡ or_else v (pick hit (Some at) rest)
unfolding settled or_else place_of
settled_else at v hit rest n = go hit (eqb v 1048577) refl
  where
    go : (x s : Bool) → eqb v 1048577 ≡ s
        → pick (eqb (pick (both x (eqb v 1048577)) at v) 1048577) (place_of rest) (pick (both x (eqb v 1048577)) at v) ≡ pick (eqb v 1048577)
        (place_of (pick x (Some at) rest)) v
    go true true s = rw (s, ne_eqb at 1048577 n)
    go true false s = rw (s, s)
    go false s e = refl

-- ---- a store

module _ (firsts : List ℕ) (j at : ℕ) where
  pub settle_outside : length firsts ≤ j → Settles at (eqb j) firsts firsts
  unfolding Settles settled
  settle_outside h i = go (eqb j i) refl
    where
      go : (x : Bool) → eqb j i ≡ x → get_or firsts i 0 ≡ pick (both x (eqb (get_or firsts i 0) 1048577)) at (get_or firsts i 0)
      go true e =
          let s : length firsts ≤ i = omega (arith, eqb-true j i e) in
          rw (get_or-eq_default firsts 0 s)
      go false e = refl

  pub settle_before : (get_or firsts j 0 ≡ 1048577 → ⊥) → Settles at (eqb j) firsts firsts
  unfolding Settles settled
  settle_before n i = go (eqb j i) refl
    where
      go : (x : Bool) → eqb j i ≡ x → get_or firsts i 0 ≡ pick (both x (eqb (get_or firsts i 0) 1048577)) at (get_or firsts i 0)
      go true e = rw (ne_eqb (get_or firsts i 0) 1048577 (rw (← eqb-true j i e) n))
      go false e = refl

  pub settle_now : j < length firsts → get_or firsts j 0 ≡ 1048577 → Settles at (eqb j) firsts (set firsts j at)
  unfolding Settles settled
  settle_now h f i = go (eqb j i) refl
    where
      go : (x : Bool) → eqb j i ≡ x → get_or (set firsts j at) i 0 ≡ pick (both x (eqb (get_or firsts i 0) 1048577)) at (get_or firsts i 0)
      go true e =
          let s = eqb-true j i e in
          rw (← s, f) (get_or-set_same firsts j at 0 h)
      go false e = get_or-set_other firsts j i at 0 (λ s. eqb-false j i e (sym s))

pub settle_as : (at r s : ℕ) (old new : List ℕ) → r ≡ s → Settles at (eqb r) old new → Settles at (eqb s) old new
settle_as at r s old new e h = rw (← e) h

-- ---- the names of a line

pub settle_first : (at : ℕ) (hit : ℕ → Bool) (old new : List ℕ) → Settles at hit old new → (other : ℕ → Bool) → ((j : ℕ) → other j ≡ hit j)
    → Settles at other old new
unfolding Settles
settle_first at hit old new s other e j = rw (e j) (s j)

pub settle_none : (at : ℕ) (hit : ℕ → Bool) (old : List ℕ) → ((j : ℕ) → hit j ≡ false) → Settles at hit old old
unfolding Settles settled
settle_none at hit old e j = rw (e j)

-- What is settled so far, and what the names from a place on settle, is what all of them settle.
unfoldable pub Settling : ℕ → (ℕ → Bool) → List ℕ → (ℕ → Bool) → List ℕ → Type 0
Settling at all old rest now = (j : ℕ) → settled at (all j) (get_or old j 0) ≡ settled at (rest j) (get_or now j 0)

pub settling_all : (at : ℕ) (all : ℕ → Bool) (old : List ℕ) → Settling at all old all old
unfolding Settling
settling_all at all old j = refl

no_name : (number : List ℕ → ℕ) (at v j : ℕ) → settled at (any_numbered number [] j) v ≡ v
unfolding any_numbered settled
no_name number at v j = refl

module _ (number : List ℕ → ℕ) (at : ℕ) (all : ℕ → Bool) (old : List ℕ) (n : List ℕ) (ns : List (List ℕ)) (now new : List ℕ)
    (inv : Settling at all old (any_numbered number (n ∷ ns)) now) (s : Settles at (eqb (number n)) now new) where
  step : (j : ℕ) → settled at (all j) (get_or old j 0) ≡ settled at (any_numbered number ns j) (get_or new j 0)
  unfolding Settling Settles any_numbered
  step j = inv j ∙ sym (rw (s j) (settled_twice at (get_or now j 0) (eqb (number n) j) (any_numbered number ns j)))

  pub settling_on : (ms : List (List ℕ)) → ns ≡ ms → Settling at all old (any_numbered number ms) new
  unfolding Settling
  settling_on ms e j = rw (← e) (step j)

  pub settling_done : ns ≡ [] → Settles at all old new
  unfolding Settles
  settling_done e j = sym (step j ∙ rw e (no_name number at (get_or new j 0) j))

-- the same of the code's places: p, and the place of the next name
module _ (number : List ℕ → ℕ) (at : ℕ) (all : ℕ → Bool) (old : List ℕ) (db : List ℕ) (p : ℕ) (now new : List ℕ)
    (inv : Settling at all old (any_numbered number (line_names (line_at db p))) now) (s : Settles at (eqb (number (name_at db p))) now new) where
  pub settling_next : (n : ℕ) → later_names (line_text (text_at db p)) ≡ line_names (line_text (text_at db n))
      → Settling at all old (any_numbered number (line_names (line_at db n))) new
  unfolding line_at name_at
  settling_next n e =
      settling_on number at all old (first_name (line_text (text_at db p))) (later_names (line_text (text_at db p))) now new inv s
      (line_names (line_text (text_at db n))) e

  pub settling_last : later_names (line_text (text_at db p)) ≡ [] → Settles at all old new
  unfolding line_at name_at
  settling_last e = settling_done number at all old (first_name (line_text (text_at db p))) (later_names (line_text (text_at db p))) now new inv s e

-- ---- a line

pub in_line_ignored : (db : List ℕ) (at : ℕ) (r : Bool) → r ≡ is_ignored (line_text (text_at db at)) → (x : Bool) → r ≡ x → is_ignored (line_at db at) ≡ x
unfolding line_at
in_line_ignored db at r e x f = sym e ∙ f

module _ (number : List ℕ → ℕ) (l : List ℕ) where
  pub numbered-ignored : is_ignored l ≡ true → (j : ℕ) → numbered number l j ≡ false
  unfolding numbered
  numbered-ignored e j = rw e

  pub numbered_dropped : holds 58 l ≡ false → (j : ℕ) → numbered number l j ≡ false
  unfolding numbered
  numbered_dropped e j = rw (e, both_false)

  pub numbered-left : is_ignored l ≡ false → holds 58 l ≡ true → (j : ℕ) → numbered number l j ≡ any_numbered number (line_names l) j
  unfolding numbered
  numbered-left e f j = rw (e, f)

-- ---- all lines: what is settled so far, or else what the lines from a place on settle, is what all lines settle

no_line : (number : List ℕ → ℕ) (v j : ℕ) → or_else v (first_numbered number j []) ≡ v
unfolding or_else first_numbered place_of
no_line number v j = go (eqb v 1048577) refl
  where
    go : (x : Bool) → eqb v 1048577 ≡ x → pick x 1048577 v ≡ v
    go true e = sym (eqb-true v 1048577 e)
    go false e = refl

module _ (db : List ℕ) (number : List ℕ → ℕ) where
  unfoldable pub Lines : ℕ → List ℕ → Type 0
  Lines at firsts =
      (j : ℕ) → j < length firsts → place_of (first_numbered number j (lines_of db))
      ≡ or_else (get_or firsts j 0) (first_numbered number j (lines_from at (text_at db at)))

  pub lines_first : (firsts : List ℕ) → Unsettled firsts → Lines 0 firsts
  unfolding Lines Unsettled or_else lines_of
  lines_first firsts u j h = rw (u j h)

  module _ (at : ℕ) (small : at ≤ 1048576) (firsts new : List ℕ) (inv : Lines at firsts) (kept : length new ≡ length firsts)
      (s : Settles at (numbered number (line_at db at)) firsts new) where
    passed : (j : ℕ) → j < length new → place_of (first_numbered number j (lines_of db))
        ≡ or_else (get_or new j 0) (first_numbered number j (later_lines (text_at db at)))
    unfolding Lines Settles first_numbered line_at
    passed j h =
        let m : j < length firsts = omega arith in
        let n : at ≡ 1048577 → ⊥ = λ e. omega arith in
        let hit = numbered number (line_text (text_at db at)) j in
        let rest = first_numbered number j (later_lines (text_at db at)) in
        inv j m ∙ sym (rw (s j) (settled_else at (get_or firsts j 0) hit rest n))

    pub lines_on : (n : ℕ) → later_lines (text_at db at) ≡ lines_from n (text_at db n) → Lines n new
    unfolding Lines
    lines_on n e j h = rw (← e) (passed j h)

    pub lines_done : later_lines (text_at db at) ≡ [] → FirstLines db number new
    unfolding FirstLines
    lines_done e j h = sym (passed j h ∙ rw e (no_line number (get_or new j 0) j))
