-- `repair::repair_listed` meets its contract: the reasons that are found stand beside the places.
use native.Mathlib.Omega.{arith}
use Rattle.repair.proofs.repair_listed.Goals as goal

pub put_mended-requires : goal.put_mended-requires
put_mended-requires c =
    let pre = c.requires in
    record { small = pre.db_len_bound; starts = pre.ats_value; beside = omega (arith, pre.reasons_len); right = c.find_reasons.ensures.0 }
