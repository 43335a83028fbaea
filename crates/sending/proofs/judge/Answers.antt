-- `sending::judge` meets its contract: the place is judged before the prefix.
use mathlib.Core.Path.{◌≡◌}
use mathlib.Core.Bool.{Bool, true}
use mathlib.Core.List.{List}
use Prim.Native.Nat.{ℕ}
use Rattle.std.specs.Prelude.{Result, Ok, Err}
use Rattle.spec.specs.declared.Refusal.{Refusal}
use Rattle.padding.specs.Reading.{PrefixRead}
use Rattle.padding.specs.declared.Prefix.{Prefix}
use Rattle.sending.specs.Steps.{CommandJudged}
use Rattle.sending.proofs.Outgoing.{delay-small}
use Rattle.sending.proofs.judge.Goals as goal

judged : (cmd : List ℕ) (t : Bool) (r : Result Prefix Refusal) → t ≡ true → PrefixRead cmd r → CommandJudged cmd t r
judged cmd t (Ok p) e read = (e, read.0, read.1, delay-small cmd p read)
judged cmd t (Err r) e read = rw e read

pub returns : goal.returns
returns c = judged _ _ _ c.if-not-in_range.false c.read_prefix.ensures
