-- The records of winning fields.
-- Assumes nothing.
use Prim.Native.Nat.{ℕ, suc, ◌*◌, ◌≤◌, ◌<◌}
use mathlib.Core.Path.{◌≡◌, refl, ap, sym}
use mathlib.Core.Bool.{true}
use mathlib.Core.List.{List, [], ◌∷◌}
use native.Mathlib.Omega.{arith}
use lib.ListN.{length, length-append}
use Rattle.spec.specs.Fields.{Reading, malformed, ignored, link, capability, reading, size}
use Rattle.laws.proofs.Readings.{reading-entered}
use Rattle.spec.specs.Chain.{Field, placed, texts}
use Rattle.spec.specs.Lookup.{can_win, value_of}
use Rattle.laws.proofs.Removal.{AllWin}
use Rattle.spec.specs.Listing.{record_of, records}
use Rattle.laws.proofs.Tests.{clash}

pub record_length : (p n : ℕ) (r : Reading) → can_win r ≡ true → length (record_of p n r) ≡ 12
unfolding can_win record_of
record_length p n malformed e = clash (sym e)
record_length p n ignored e = clash (sym e)
record_length p n (link m) e = clash (sym e)
record_length p n (capability a b s) e = refl

pub records-length : (fs : List Field) → AllWin (texts fs) → length (records fs) ≡ 12 * length fs
unfolding records texts
records-length [] h = refl
records-length (f ∷ fs) h =
    omega (
      arith,
      length-append (record_of f.place f.file (reading f.text)) (records fs),
      record_length f.place f.file (reading f.text)
          h.0,
      records-length fs h.2,
    )

pub placed-length : (p n : ℕ) (fs : List Field) → length (placed p n (texts fs)) ≡ length fs
unfolding placed texts
placed-length p n [] = refl
placed-length p n (f ∷ fs) = ap suc (placed-length p n fs)

-- ---- values fit in two bytes, and so in a record's four

pub value-small : (t : List ℕ) → length t ≤ 16384 → value_of (reading t) < 65536
unfolding value_of
value-small t h = go (reading t) refl
  where
    go : (r : Reading) → reading t ≡ r → value_of r < 65536
    go malformed e = omega arith
    go ignored e = omega arith
    go (link n) e = omega arith
    go (capability a b s) e = omega (arith, (reading-entered t a b s e).bound)

abbrev pub AllSmall : List (List ℕ) → Type 0
AllSmall [] = Unit {0}
AllSmall (t ∷ ts) = (value_of (reading t) < 4294967296) × AllSmall ts

pub values-small : (ts : List (List ℕ)) → size ts ≤ 16384 → AllSmall ts
unfolding size
values-small [] h = tt
values-small (t ∷ ts) h = (omega (arith, value-small t (omega arith)), values-small ts (omega arith))
