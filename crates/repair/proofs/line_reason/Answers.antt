-- `repair::line_reason` meets its contract.
use mathlib.Core.Path.{refl}
use mathlib.Core.Logic.{inl, inr}
use native.Mathlib.Omega.{arith}
use Rattle.repair.proofs.line_reason.Goals.{else-k-ats-via-then-k-ats+else-ats-k, else-k-ats-via-else-k-ats}
use Rattle.repair.proofs.line_reason.Goals as goal

pub returns-then-ats-k : goal.returns-then-ats-k
returns-then-ats-k c = inl (omega arith, c.if-ats-k.true, refl, refl)

pub returns-else-k-ats : goal.returns-else-k-ats
returns-else-k-ats c = elim c.else-k-ats.branch [
  | else-k-ats-via-then-k-ats+else-ats-k w ↦ inr ((λ h e. w.if-ats-k.false e), refl, refl)
  | else-k-ats-via-else-k-ats w ↦ inr ((λ h e. omega (arith, w.if-k-ats.false)), refl, refl)
]
