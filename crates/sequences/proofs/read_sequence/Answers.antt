-- `sequences::read_sequence` meets its contract, by the letter and whether bytes follow it.
use Rattle.std.proofs.Common.{rules}
use Rattle.spec.specs.declared.position.Change.TheVariants.{Increment, Xor, Bcd, Delta}
use Rattle.spec.specs.declared.position.Sequence.TheVariants.{Percent, Decimal, Byte, ChangeEvery, ChangeNext, Exchange}
use Rattle.sequences.proofs.ReadingLaws.{read_nothing, read_one, read_unknown, cut-after_plus, cut-after_above, read_added, cut-after_threshold, read_above}
use Rattle.sequences.proofs.read_sequence.Goals as goal

pub returns-in_err-get : goal.returns-in_err-get
returns-in_err-get c = rw c.from_residual.ensures (read_nothing _ _ c.in_err-get.ensures.lookup.3)

pub returns-in_err-c-in-43 : goal.returns-in_err-c-in-43
returns-in_err-c-in-43 c =
    let cut = cut-after_plus _ _ _ c.in_ok-get.ensures.lookup.3 c.in-43.is c.in_err-c-in-43.ensures.lookup.3 in
    rw c.from_residual-in_err-c-in-43.ensures cut

pub returns-in_ok-c-in-43 : goal.returns-in_ok-c-in-43
returns-in_ok-c-in-43 c = read_added _ _ _ c.in_ok-get.ensures.lookup.3 _ c.in_ok-c-in-43.ensures.lookup.3 c.in-43.is

pub returns-in_err-x-in-62 : goal.returns-in_err-x-in-62
returns-in_err-x-in-62 c =
    let cut = cut-after_above _ _ _ c.in_ok-get.ensures.lookup.3 c.in-62.is c.in_err-x-in-62.ensures.lookup.3 in
    rw c.from_residual-in_err-x-in-62.ensures cut

pub returns-in_err-y-in-62 : goal.returns-in_err-y-in-62
returns-in_err-y-in-62 c =
    let x = c.in_ok-x-in-62.ensures.lookup.3 in
    let cut = cut-after_threshold _ _ _ c.in_ok-get.ensures.lookup.3 _ x c.in-62.is c.in_err-y-in-62.ensures.lookup.3 in
    rw c.from_residual-in_err-y-in-62.ensures cut

pub returns-in_ok-y-in-62 : goal.returns-in_ok-y-in-62
returns-in_ok-y-in-62 c =
    let x = c.in_ok-x-in-62.ensures.lookup.3 in
    read_above _ _ _ c.in_ok-get.ensures.lookup.3 _ x c.in-62.is _ c.in_ok-y-in-62.ensures.lookup.3

pub returns-in-37 : goal.returns-in-37
returns-in-37 c = read_one _ _ _ c.in_ok-get.ensures.lookup.3 Percent (rw c.in-37.is)

pub returns-in-100 : goal.returns-in-100
returns-in-100 c = read_one _ _ _ c.in_ok-get.ensures.lookup.3 (Decimal 1) (rw c.in-100.is)

pub returns-in-50 : goal.returns-in-50
returns-in-50 c = read_one _ _ _ c.in_ok-get.ensures.lookup.3 (Decimal 2) (rw c.in-50.is)

pub returns-in-51 : goal.returns-in-51
returns-in-51 c = read_one _ _ _ c.in_ok-get.ensures.lookup.3 (Decimal 3) (rw c.in-51.is)

pub returns-in-46 : goal.returns-in-46
returns-in-46 c = read_one _ _ _ c.in_ok-get.ensures.lookup.3 (Byte 0) (rw c.in-46.is)

pub returns-in-105 : goal.returns-in-105
returns-in-105 c = read_one _ _ _ c.in_ok-get.ensures.lookup.3 (ChangeEvery Increment) (rw c.in-105.is)

pub returns-in-110 : goal.returns-in-110
returns-in-110 c = read_one _ _ _ c.in_ok-get.ensures.lookup.3 (ChangeEvery Xor) (rw c.in-110.is)

pub returns-in-114 : goal.returns-in-114
returns-in-114 c = read_one _ _ _ c.in_ok-get.ensures.lookup.3 Exchange (rw c.in-114.is)

pub returns-in-66 : goal.returns-in-66
returns-in-66 c = read_one _ _ _ c.in_ok-get.ensures.lookup.3 (ChangeNext Bcd) (rw c.in-66.is)

pub returns-in-68 : goal.returns-in-68
returns-in-68 c = read_one _ _ _ c.in_ok-get.ensures.lookup.3 (ChangeNext Delta) (rw c.in-68.is)

pub returns-in_default : goal.returns-in_default
returns-in_default c = read_unknown _ _ _ c.in_ok-get.ensures.lookup.3 (search rules)
