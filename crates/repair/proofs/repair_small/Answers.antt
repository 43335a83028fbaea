-- `repair::repair_small` meets its contract: the parts of the four lists that have a link are lent on.
use mathlib.Core.Path.{refl}
use native.Mathlib.Omega.{arith}
use Rattle.repair.proofs.Delivering.{too_many, not_refused, alike}
use Rattle.repair.proofs.repair_small.Goals as goal

pub returns-in_default : goal.returns-in_default
returns-in_default c =
    let many = c.in_default.ensures in
    rw (too_many _ _ _ c.requires many) (refl, refl, refl)

pub repair_listed-requires : goal.repair_listed-requires
repair_listed-requires c =
    let w = c.in-Some.ensures in
    record {
      db_len_bound = c.requires;
      ats_value = w.starts;
      names_value = w.texts;
      names_len = alike _ _ _ w.fits (omega arith);
      tos_len = alike _ _ _ w.fits (omega arith);
      reasons_len = alike _ _ _ w.fits (omega arith);
    }

pub returns : goal.returns
returns c = rw (not_refused _ _ _ c.requires c.in-Some.ensures.few) c.repair_listed.ensures
