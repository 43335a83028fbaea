-- In a sound database no walk is refused with 5, 6 or 7.
-- Assumes nothing.
use Rattle.std.specs.Prelude.{Option, Some, None}
use Prim.Native.Nat.{ℕ, zero, suc, ◌+◌, ◌≤◌}
use mathlib.Core.Path.{◌≡◌, refl, ◌∙◌, ap}
use mathlib.Core.Logic.{inl, inr}
use mathlib.Core.Bool.{Bool, true, false, not}
use mathlib.Core.List.{List, [], ◌∷◌, ◌++◌}
use native.Mathlib.Omega.{arith}
use borrow.Author.Tests.{eqb-true}
use lib.Dec.{eqb, ltb}
use Rattle.spec.specs.Choice.{pick, both, either}
use Rattle.laws.proofs.Tests.{both_true, not_is_true}
use Rattle.spec.specs.Refusals.{good_name, too_large, refusal_number}
use Rattle.spec.specs.Lines.{Line, is_ignored, has_name, find, find_line, line_at}
use Rattle.spec.specs.Fields.{Verdict, malformed_line, no_link, link_to, line_size, verdict}
use Rattle.spec.specs.Files.{alone}
use Rattle.spec.specs.Chain.{refused}
use Rattle.spec.specs.Questions.{terminal_of}
use Rattle.spec.specs.Repair.{lines_of}
use Rattle.spec.specs.declared.Refusal.{Refusal}
use Rattle.spec.specs.declared.Refusal.TheVariants.{BadName, DatabaseTooLarge, UnknownName, LostLink, Malformed, Cycle, ChainTooLarge}
use Rattle.demands.specs.OneFile.{PlaceChain, broken, chain, passed, target, reached, followed, terminal_at, terminal_before}
use Rattle.demands.specs.RepairPromises.{along, EachDescription, Sound, Breaks}
use Rattle.demands.proofs.OneFile.{terminal-alone}

-- ---- what holds of each description holds of one that is found

find_each : (P : ℕ → Type 0) (name : List ℕ) (ls : List Line) (p : ℕ) → EachDescription P ls → find name ls ≡ Some p → P p
unfolding find
find_each P name [] p h e = let z : ◌≡◌ {A = ℕ} 0 1 = cc in absurd (omega arith)
find_each P name (l ∷ ls) p h e = go (both (not (is_ignored l.text)) (has_name name l.text)) refl e (find_each P name ls p h.1)
  where
    go : (x : Bool) → both (not (is_ignored l.text)) (has_name name l.text) ≡ x → pick x (Some l.start) (find name ls) ≡ Some p
        → (find name ls ≡ Some p → P p) → P p
    go true t q ih =
        let s : l.start ≡ p = cc in
        rw (← s) (h.0 (not_is_true _ (both_true _ _ t).0))
    go false t q ih = ih q

pub found_each : (P : ℕ → Type 0) (db name : List ℕ) (p : ℕ) → EachDescription P (lines_of db) → find_line db name ≡ Some p → P p
unfolding find_line lines_of
found_each P db name p h e = find_each P name (lines_of db) p h e

-- ---- refusals differ

outside : (t r : Refusal) → t ≡ r → ((5 ≤ refusal_number t) → (refusal_number t ≤ 7) → ⊥) → Breaks r → ⊥
outside t r s n (inl e) = let z : t ≡ LostLink = s ∙ e in rw z at n (omega arith) (omega arith)
outside t r s n (inr (inl e)) = let z : t ≡ Malformed = s ∙ e in rw z at n (omega arith) (omega arith)
outside t r s n (inr (inr e)) = let z : t ≡ Cycle = s ∙ e in rw z at n (omega arith) (omega arith)

not_large : (r : Refusal) → broken ChainTooLarge ≡ broken r → Breaks r → ⊥
not_large r e b = let s : ChainTooLarge ≡ r = cc in outside ChainTooLarge r s (λ k m. omega arith) b

terminal-broken : (db : List ℕ) (t r : Refusal) → terminal_at db (broken t) ≡ refused r → t ≡ r
unfolding terminal_at
terminal-broken db t r e = cc

terminal-chain : (db ps : List ℕ) (r : Refusal) → terminal_at db (chain ps) ≡ refused r → ⊥
unfolding terminal_at
terminal-chain db ps r e = let z : ◌≡◌ {A = ℕ} 0 1 = cc in omega arith

-- ---- the walk

module _ (db : List ℕ) (sound : Sound db) where
  abbrev next : Option ℕ → Option ℕ
  next None = None
  next (Some p) = target db (verdict (line_at db p))

  -- one link more
  along_more : (n : ℕ) (f : Option ℕ) → along db (suc n) f ≡ next (along db n f)
  unfolding along
  along_more zero None = refl
  along_more zero (Some p) = refl
  along_more (suc n) None = refl
  along_more (suc n) (Some p) = along_more n (target db (verdict (line_at db p)))

  along-none : (f : Option ℕ) → along db 0 f ≡ f
  unfolding along
  along-none f = refl

  -- each line that was passed leads to what was found now
  abbrev Lead : List ℕ → Option ℕ → Type 0
  Lead [] f = Unit {0}
  Lead (q ∷ qs) f = ((n : ℕ) × (along db (suc n) (Some q) ≡ f)) × Lead qs f

  lead_on : (p : ℕ) (qs : List ℕ) → Lead qs (Some p) → Lead (qs ++ p ∷ []) (next (Some p))
  lead_on p [] h = ((0, along_more 0 (Some p) ∙ ap next (along-none (Some p))), tt)
  lead_on p (q ∷ qs) h = ((suc h.0.0, along_more (suc h.0.0) (Some q) ∙ ap next h.0.1), lead_on p qs h.1)

  -- a line that was passed is not found again
  new : (p : ℕ) (qs : List ℕ) → Lead qs (Some p) → ((n : ℕ) → along db (suc n) (Some p) ≡ Some p → ⊥) → passed p qs ≡ false
  unfolding passed
  new p [] h c = refl
  new p (q ∷ qs) h c = go (eqb p q) refl (new p qs h.1 c)
    where
      go : (x : Bool) → eqb p q ≡ x → passed p qs ≡ false → either x (passed p qs) ≡ false
      go true e ih = absurd (c h.0.0 (ap (λ (q : ℕ). along db (suc h.0.0) (Some q)) (eqb-true p q e) ∙ h.0.1))
      go false e ih = ih

  abbrev Fine : ℕ → Type 0
  Fine p = (verdict (line_at db p) ≡ malformed_line → ⊥)
      × ((name : List ℕ) → verdict (line_at db p) ≡ link_to name → find_line db name ≡ None → ⊥)
      × ((n : ℕ) → along db (suc n) (Some p) ≡ Some p → ⊥)

  fine : (name : List ℕ) (p : ℕ) → find_line db name ≡ Some p → Fine p
  fine name p e =
      (found_each _ db name p sound.well_formed e, found_each _ db name p sound.no_lost_link e, found_each _ db name p sound.no_cycle e)

  -- what a step looks for is there, or the walk has only begun; and it is a sound description
  abbrev Ready : Refusal → Option ℕ → Type 0
  Ready missing None = Breaks missing → ⊥
  Ready missing (Some p) = Fine p

  ready : (name : List ℕ) (f : Option ℕ) → find_line db name ≡ f → (f ≡ None → ⊥) → Ready LostLink f
  ready name None e n = absurd (n refl)
  ready name (Some p) e n = fine name p e

  no_break : (room : ℕ) (qs : List ℕ) (size : ℕ) (missing : Refusal) (f : Option ℕ) → Lead qs f → Ready missing f
      → (r : Refusal) → followed db room qs size missing f ≡ broken r → Breaks r → ⊥
  unfolding followed reached target
  no_break zero qs size missing None l h r e b = let s : missing ≡ r = cc in h (rw s b)
  no_break zero qs size missing (Some p) l h r e b =
      let full : broken ChainTooLarge ≡ broken r = rw (new p qs l h.2) at e in
      not_large r full b
  no_break (suc room) qs size missing None l h r e b = let s : missing ≡ r = cc in h (rw s b)
  no_break (suc room) qs size missing (Some p) l h r e b =
      let total = size + line_size (line_at db p) in
      go (verdict (line_at db p)) refl (ltb 16384 total) (no_break room (qs ++ p ∷ []) total LostLink) (lead_on p qs l)
      (rw (new p qs l h.2) at e)
    where
      go : (v : Verdict) → verdict (line_at db p) ≡ v → (big : Bool)
          → ((f : Option ℕ) → Lead (qs ++ p ∷ []) f → Ready LostLink f → (r : Refusal)
          → followed db room (qs ++ p ∷ []) (size + line_size (line_at db p)) LostLink f ≡ broken r → Breaks r → ⊥)
          → Lead (qs ++ p ∷ []) (target db (verdict (line_at db p)))
          → reached (qs ++ p ∷ []) (verdict (line_at db p)) big
          (followed db room (qs ++ p ∷ []) (size + line_size (line_at db p)) LostLink (target db (verdict (line_at db p)))) ≡ broken r → ⊥
      go malformed_line s big ih k q = h.0 s
      go no_link s true ih k q = let w = rw s at q in not_large r w b
      go no_link s false ih k q = let w = rw s at q in let z : ◌≡◌ {A = ℕ} 0 1 = cc in absurd (omega arith)
      go (link_to name) s true ih k q = let w = rw s at q in not_large r w b
      go (link_to name) s false ih k q = ih (find_line db name) (rw s at k) (ready name (find_line db name) refl (h.1 name s)) r (rw s at q) b

  abbrev walk : List ℕ → PlaceChain
  walk name = followed db 32 [] 0 UnknownName (find_line db name)

  walk-sound : (name : List ℕ) (r : Refusal) → walk name ≡ broken r → Breaks r → ⊥
  walk-sound name r e b = no_break 32 [] 0 UnknownName (find_line db name) tt (first (find_line db name) refl) r e b
    where
      first : (f : Option ℕ) → find_line db name ≡ f → Ready UnknownName f
      first None s = outside UnknownName UnknownName refl (λ k m. omega arith)
      first (Some p) s = fine name p s

  -- "NO NAME IS REFUSED WITH 5, 6 OR 7"
  pub terminal-sound : (name : List ℕ) (r : Refusal) → terminal_of (alone db) name ≡ refused r → Breaks r → ⊥
  unfolding terminal_before
  terminal-sound name r e b = go (good_name name) (too_large db) (walk name) refl (rw (terminal-alone db name) at e)
    where
      go : (x y : Bool) (w : PlaceChain) → walk name ≡ w
          → pick x (pick y (refused DatabaseTooLarge) (terminal_at db (walk name))) (refused BadName) ≡ refused r → ⊥
      go true true w s q = let z : DatabaseTooLarge ≡ r = cc in outside DatabaseTooLarge r z (λ k m. omega arith) b
      go true false (broken t) s q = let u = rw s at q in let z : t ≡ r = terminal-broken db t r u in walk-sound name r (s ∙ ap broken z) b
      go true false (chain ps) s q = terminal-chain db ps r (rw s at q)
      go false y w s q = let z : BadName ≡ r = cc in outside BadName r z (λ k m. omega arith) b
