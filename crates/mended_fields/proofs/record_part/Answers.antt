-- `mended_fields::record_part` meets its contract.
use Rattle.mended_fields.proofs.WrittenPieces.{record_none, record_some}
use Rattle.mended_fields.proofs.record_part.Goals as goal

pub returns-then-reason-eq-KEPT : goal.returns-then-reason-eq-KEPT
returns-then-reason-eq-KEPT c = record_none _ _ _ _ _ _ c.if-reason-eq-KEPT.true

pub returns : goal.returns
returns c = record_some _ _ _ _ _ _ _ c.if-reason-eq-KEPT.false c.put_record.ensures
