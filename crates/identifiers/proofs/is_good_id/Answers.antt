-- `identifiers::is_good_id` meets its contract.
use mathlib.Core.Path.{◌∙◌, sym}
use native.Mathlib.Omega.{arith}
use Rattle.identifiers.proofs.AskedNames.{id_other, id_two}
use Rattle.identifiers.proofs.is_good_id.Goals as goal

pub returns-in-len2 : goal.returns-in-len2
returns-in-len2 c = c.is_id.ensures ∙ sym (id_two _ (omega arith))

pub returns-in_default : goal.returns-in_default
returns-in_default c = sym (id_other _ (λ e. omega (arith, e)))

pub returns-in_default-2 : goal.returns-in_default-2
returns-in_default-2 c = sym (id_other _ (λ e. omega (arith, e)))
