-- The winning fields are those that the lookup comes to. Assumes nothing.
use mathlib.Core.Path.{◌≡◌, refl, sym, ap, ◌∙◌}
use mathlib.Core.Bool.{Bool, true, false, not}
use mathlib.Core.List.{List, [], ◌∷◌, ◌++◌}
use lib.Dec.{eqb}
use Rattle.spec.specs.Choice.{pick, both}
use Rattle.spec.specs.Fields.{Reading, malformed, ignored, link, capability, reading, content_kind}
use Rattle.spec.specs.Chain.{Field}
use Rattle.spec.specs.Lookup.{Hit, none, hit, is_present, is_live, lookup, can_win, hidden, winning_after, winning, read_before}
use Rattle.laws.proofs.Winning.{winning-after, winner_answers, winner_first, loser_passed}
use Rattle.demands.specs.Winning.{makes_live, WinningFields}

-- a field that is passed over or answered before changes nothing
same-hit : (h : Hit) → both (not (is_present h)) (is_present h) ≡ false
same-hit none = refl
same-hit (hit t) = refl

module _ (before : List Field) (f : Field) where
  wins : Bool
  wins = both (can_win (reading f.text)) (not (hidden (read_before [] before) (reading f.text)))

  by-lookup : (r : Reading) → reading f.text ≡ r → both (can_win r) (not (hidden (read_before [] before) r)) ≡ makes_live r before f
  unfolding can_win
  by-lookup malformed e = refl
  by-lookup ignored e = refl
  by-lookup (link n) e = refl
  by-lookup (capability a b c) e = by_kind (not (eqb 0 (content_kind c))) refl
    where
      h : Bool
      h = hidden (read_before [] before) (capability a b c)

      live : Bool
      live = both (not (is_live (a ∷ b ∷ []) (content_kind c) before)) (is_live (a ∷ b ∷ []) (content_kind c) (before ++ f ∷ []))

      by-hidden : (t : Bool) → h ≡ t → can_win (reading f.text) ≡ true → not t ≡ live
      by-hidden true q w = sym (rw (loser_passed before f [] a b c e w (rw e q)) (same-hit (lookup (a ∷ b ∷ []) (content_kind c) before)))
      by-hidden false q w = sym (rw (winner_first before f [] a b c e w (rw e q), winner_answers before f [] a b c e w (rw e q)))

      by_kind : (x : Bool) → not (eqb 0 (content_kind c)) ≡ x → both x (not h) ≡ both x live
      by_kind true q = by-hidden h refl (unfold can_win in rw e q)
      by_kind false q = refl

pub winning-fields : WinningFields
unfolding winning winning_after
winning-fields = record {
  none = refl;
  next = λ before f.
      winning-after [] before (f ∷ [])
      ∙ ap (λ (x : Bool). winning_after [] before ++ pick x (f ∷ []) []) (by-lookup before f (reading f.text) refl);
  kept = λ before after. (winning_after (read_before [] before) after, winning-after [] before after);
}
