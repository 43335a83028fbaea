-- `padding::pad_count` meets its contract: a product of two 32-bit numbers, and 99,999 more, fits 64 bits.
use Prim.Native.Nat.{ℕ, ◌*◌, ◌≤◌, ◌<◌}
use mathlib.Core.Path.{refl}
use native.Mathlib.Nat.{mul-le-mul}
use native.Mathlib.Omega.{arith}
use Rattle.spec.specs.Padding.{pad_count}
use Rattle.padding.proofs.pad_count.Goals as goal

product : (d s : ℕ) → d < 4294967296 → s < 4294967296 → d * s ≤ 4294967295 * 4294967295
product d s h k = let d' : d ≤ 4294967295 = omega arith in let s' : s ≤ 4294967295 = omega arith in mul-le-mul d' s'

pub overflow_mul-result : goal.overflow_mul-result
overflow_mul-result c = let m = product c.args.delay c.args.speed (omega arith) (omega arith) in omega arith

pub overflow_add-result : goal.overflow_add-result
overflow_add-result c = let m = product c.args.delay c.args.speed (omega arith) (omega arith) in omega arith

pub returns : goal.returns
unfolding pad_count
returns c = refl
