-- A part that is shown does not end before it starts. Assumes nothing.
use Rattle.std.specs.Prelude.{Result, Ok, Err}
use Prim.Native.Nat.{ℕ}
use mathlib.Core.Path.{◌≡◌, sym}
use mathlib.Core.List.{List}
use Rattle.spec.specs.Files.{Files}
use Rattle.spec.specs.Questions.{show_answer}
use Rattle.show.proofs.ShownParts.{show-inside}
use Rattle.c_results.specs.Results.{Ordered}
use Rattle.spec.specs.declared.Refusal.{Refusal}
use Rattle.spec.specs.declared.Part.{Part}

pub ordered : (db : Files) (name : List ℕ) (x : Result Part Refusal) → x ≡ show_answer db name → Ordered x
ordered db name (Ok part) e = (show-inside db name part (sym e)).0
ordered db name (Err r) e = tt
