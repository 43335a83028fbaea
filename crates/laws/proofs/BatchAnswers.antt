-- The answers of a batch have eight bytes each, one for each whole question. Assumes nothing.
use Rattle.std.specs.Prelude.{Option, Some, None, Result, Ok, Err}
use Prim.Native.Nat.{ℕ, ◌*◌, ◌/◌}
use mathlib.Core.Path.{◌≡◌, refl}
use mathlib.Core.List.{List, [], ◌∷◌}
use native.Mathlib.Omega.{arith}
use lib.ListN.{length, length-append}
use Rattle.spec.specs.Chain.{Terminal}
use Rattle.spec.specs.Batch.{batch_answer, answer_bytes, batch_answers}
use Rattle.spec.specs.declared.Refusal.{Refusal}

pub answer-size : (x : Result (Option ℕ) Refusal) → length (answer_bytes x) ≡ 8
answer-size (Ok (Some v)) = refl
answer-size (Ok None) = refl
answer-size (Err r) = refl

pub answers-size : (t : Terminal) (l : List ℕ) → length (batch_answers t l) ≡ 8 * (length l / 4)
unfolding batch_answers
answers-size t [] = omega arith
answers-size t (a ∷ []) = omega arith
answers-size t (a ∷ b ∷ []) = omega arith
answers-size t (a ∷ b ∷ k ∷ []) = omega arith
answers-size t (a ∷ b ∷ k ∷ z ∷ l) =
    let x = batch_answer t a b k z in
    omega (arith, length-append (answer_bytes x) (batch_answers t l), answer-size x, answers-size t l)
