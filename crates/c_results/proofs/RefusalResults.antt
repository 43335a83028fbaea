-- The result for a refusal is its number: no refusal has the number 0. Assumes nothing.
use mathlib.Core.Path.{◌≡◌, refl}
use Rattle.spec.specs.Refusals.{refusal_number}
use Rattle.spec.specs.Answers.{refused_report}
use Rattle.spec.specs.declared.Refusal.{Refusal}
use Rattle.spec.specs.declared.Refusal.TheVariants.{BadName, BadId, DatabaseTooLarge, UnknownName, LostLink, Malformed, Cycle, ChainTooLarge}
use Rattle.spec.specs.declared.Refusal.TheVariants.{NoRoom, UnknownSequence, TooFewParameters, OutOfRange, BadPadding}
use Rattle.spec.specs.declared.Refusal.TheVariants.{TooManyLines, PartialQuestion, BadEnds, InvalidState}
use Rattle.c_results.specs.Results.{result_of}

pub refused_result : (r : Refusal) → refusal_number r ≡ result_of (refused_report r)
unfolding result_of
refused_result BadName = refl
refused_result BadId = refl
refused_result DatabaseTooLarge = refl
refused_result UnknownName = refl
refused_result LostLink = refl
refused_result Malformed = refl
refused_result Cycle = refl
refused_result ChainTooLarge = refl
refused_result NoRoom = refl
refused_result UnknownSequence = refl
refused_result TooFewParameters = refl
refused_result OutOfRange = refl
refused_result BadPadding = refl
refused_result TooManyLines = refl
refused_result PartialQuestion = refl
refused_result BadEnds = refl
refused_result InvalidState = refl
