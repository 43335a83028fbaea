-- `listing::put_flat` meets its contract.
use mathlib.Core.Path.{◌≡◌}
use native.Mathlib.Omega.{arith}
use borrow.Author.Rules.{rules}
use lib.ListN.{length}
use Rattle.chain.proofs.WalkPlaces.{length_mapped}
use Rattle.listing.proofs.Delivering.{flat-stored, first_line, first-short, whole-length}
use Rattle.listing.proofs.put_flat.Goals as goal

pub overflow_add-names : goal.overflow_add-names
overflow_add-names c =
    let array : length c.args.c.lines ≡ 32 = search (rules, length_mapped) in
    omega (arith, first-short _ c.args.c _ _ _ array c.requires.1 c.file.ensures c.copy_field-names.ensures.0 c.requires.3)

pub write_winning-end-requires : goal.write_winning-end-requires
write_winning-end-requires c =
    let array : length c.args.c.lines ≡ 32 = search (rules, length_mapped) in
    let short = first-short _ c.args.c _ _ _ array c.requires.1 c.file.ensures c.copy_field-names.ensures.0 c.requires.3 in
    (c.requires.0, c.requires.2, omega (arith, short))

pub overflow_add-result : goal.overflow_add-result
overflow_add-result c =
    let array : length c.args.c.lines ≡ 32 = search (rules, length_mapped) in
    let named = c.copy_field-names.ensures.0 in
    let long = whole-length _ c.args.c _ _ _ array c.requires.1 c.file.ensures named _ _ _ c.write_winning-end.ensures in
    omega (arith, c.requires.3.flat-bytes, long)

pub returns : goal.returns
returns c =
    let a = c.args in
    let array : length a.c.lines ≡ 32 = search (rules, length_mapped) in
    let names = c.copy_field-names.ensures in
    let w = c.write_winning-end.ensures in (
      whole-length _ a.c _ _ _ array c.requires.1 c.file.ensures names.0 _ _ _ w,
      rw (first_line _ a.c _ _ _ array c.requires.1 c.file.ensures names.0)
          (flat-stored _ _ _ _ _ _ names.0 w a.out.now _ _ names.1 c.put_byte.ensures c.put_byte-2.ensures),
    )
