-- What an operation with output gives: an answer and the lent buffer afterwards; and document 01's number and values for each answer.
use Rattle.std.specs.Prelude.{ℕ, List, [], ◌∷◌, ◌++◌, leb, length, drop, Option, Some, None, Result, Ok, Err}
use Rattle.spec.specs.Choice.{pick}
use Rattle.spec.specs.Refusals.{refusal_number}
use Rattle.spec.specs.declared.Refusal.{Refusal}
use Rattle.spec.specs.declared.Refusal.TheVariants.{NoRoom}
use Rattle.spec.specs.declared.Finished.{Finished}
use Rattle.spec.specs.declared.Part.{Part}
use Rattle.spec.specs.declared.Tally.{Tally}
use Rattle.spec.specs.declared.Amounts.{Amounts}

pub record Outcome (A : Type 0) : Type 0 where
  pub answer : A
  pub buffer : List ℕ

-- "The output buffer keeps every byte."
abbrev pub keeping : {A : Type 0} → A → List ℕ → Outcome A
keeping answer buffer = record { answer = answer; buffer = buffer }

-- Bytes for the start of a buffer, and the number to report of them. Where they do not fit (9), no byte changes; where they do, only
-- those.
unfoldable pub put : List ℕ → ℕ → List ℕ → Outcome (Result ℕ Refusal)
put bytes n buffer =
    pick (leb (length bytes) (length buffer))
    (record { answer = Ok n; buffer = bytes ++ drop (length bytes) buffer })
    (keeping (Err NoRoom) buffer)

-- ---- document 01's number and values for each case of an answer

-- The refusal's number, or 0; and the values that are reported, none if absent or refused.
pub record Report : Type 0 where
  pub refusal : ℕ
  pub values : List ℕ

abbrev pub refused_report : Refusal → Report
refused_report r = record { refusal = refusal_number r; values = [] }

abbrev pub answer_report : Result (Option ℕ) Refusal → Report
answer_report (Ok (Some v)) = record { refusal = 0; values = v ∷ [] }
answer_report (Ok None) = record { refusal = 0; values = [] }
answer_report (Err r) = refused_report r

abbrev pub written_report : Result ℕ Refusal → Report
written_report (Ok n) = record { refusal = 0; values = n ∷ [] }
written_report (Err r) = refused_report r

-- The place where the part starts, and the one where it ends.
abbrev pub shown_report : Result Part Refusal → Report
shown_report (Ok p) = record { refusal = 0; values = p.from ∷ p.to ∷ [] }
shown_report (Err r) = refused_report r

-- Of the search that counts: 1 if the name is found, else 0; and how many names had bytes compared.
abbrev pub searched_report : Result Tally Refusal → Report
searched_report (Ok t) = record { refusal = 0; values = pick t.found 1 0 ∷ t.compared ∷ [] }
searched_report (Err r) = refused_report r

-- Of Repair: the bytes of the mended database, and the number of records.
abbrev pub repaired_report : Result Amounts Refusal → Report
repaired_report (Ok a) = record { refusal = 0; values = a.bytes ∷ a.records ∷ [] }
repaired_report (Err r) = refused_report r

-- Of the first half of Send at: the delay, 1 for a star and 0 for none, and the count of the finished bytes.
abbrev pub filled_report : Result Finished Refusal → Report
filled_report (Ok f) = record { refusal = 0; values = f.delay ∷ pick f.star 1 0 ∷ f.count ∷ [] }
filled_report (Err r) = refused_report r
