-- A field taken: its mark, and whether it wins.
-- Assumes nothing.
use Prim.Native.Nat.{ℕ}
use mathlib.Core.Path.{◌≡◌, refl, sym}
use mathlib.Core.Bool.{Bool, true, false, not}
use mathlib.Core.List.{List}
use Rattle.spec.specs.Fields.{Content, cancel, Reading, malformed, ignored, link, capability, reading, content_kind, content_value}
use Rattle.spec.specs.Lookup.{matches, can_win, hidden}
use Rattle.spec.specs.Listing.{record_of}
use Rattle.field_bounds.specs.Answers.{field_at}
use Rattle.fields.specs.Readings.{Reads}
use Rattle.fields.specs.declared.FieldRead.{FieldRead}
use Rattle.fields.specs.declared.FieldRead.TheVariants.{Malformed, Ignored, Link, Cancel, Flag, Number, String}
use Rattle.capability_table.specs.Table.{is_first, marked}
use Rattle.capability_table.proofs.Marking.{other-marks, capability-marks, first_open}
use Rattle.listing.specs.Answers.{won_if, WonAfter, TookReading}
use Rattle.listing.specs.declared.Won.{Won}
use Rattle.std.specs.Prelude.{Option, None}

-- malformed, ignored, or a link: the answers that the arm `_` takes together, by their tags
pub took_other : (s : List ℕ) (at : ℕ) (read : FieldRead) (t : List ℕ) → Reads s at read
    → ((a b : ℕ) → read ≡ Cancel a b → ⊥) → ((a b : ℕ) → read ≡ Flag a b → ⊥)
    → ((a b v : ℕ) → read ≡ Number a b v → ⊥) → ((a b text n : ℕ) → read ≡ String a b text n → ⊥)
    → TookReading (reading (field_at s at)) t t None
unfolding matches can_win
took_other s at Malformed t h o0 o1 o2 o3 = rw h (λ qs m. (other-marks malformed qs t (λ id k. refl) m, refl))
took_other s at Ignored t h o0 o1 o2 o3 = rw h (λ qs m. (other-marks ignored qs t (λ id k. refl) m, refl))
took_other s at (Link name) t h o0 o1 o2 o3 = rw h.0 (λ qs m. (other-marks (link (field_at s name)) qs t (λ id k. refl) m, refl))
took_other s at (Cancel a b) t h o0 o1 o2 o3 = absurd (o0 a b refl)
took_other s at (Flag a b) t h o0 o1 o2 o3 = absurd (o1 a b refl)
took_other s at (Number a b v) t h o0 o1 o2 o3 = absurd (o2 a b v refl)
took_other s at (String a b text n) t h o0 o1 o2 o3 = absurd (o3 a b text n refl)

module _ (text t : List ℕ) where
  module _ (a b : ℕ) where
    pub took_cancel : (t' : List ℕ) → reading text ≡ capability a b cancel → t' ≡ marked t a b 0 → TookReading (reading text) t t' None
    unfolding can_win
    took_cancel t' e s = rw (s, e) (λ qs m. (capability-marks text a b cancel e qs t m, refl))

    pub took_capability : (c : Content) (t' : List ℕ) (won : Option Won) → reading text ≡ capability a b c → can_win (capability a b c) ≡ true
        → t' ≡ marked t a b (content_kind c) → won ≡ won_if (is_first t a b (content_kind c)) a b (content_kind c) (content_value c)
        → TookReading (reading text) t t' won
    unfolding record_of
    took_capability c t' won e w s f =
        rw (s, f, e) λ qs m. (capability-marks text a b c e qs t m, go qs (is_first t a b (content_kind c)) (first_open text a b c e qs t m))
      where
        go : (qs : List Reading) (x : Bool) → x ≡ not (hidden qs (capability a b c))
            → WonAfter qs (capability a b c) (won_if x a b (content_kind c) (content_value c))
        go qs true h = (rw w (sym h), λ from. refl)
        go qs false h = rw w (sym h)
