-- The bytes of a string as they are measured and written.
-- Assumes nothing.
use Rattle.std.specs.Prelude.{Option, Some, None, Result, Ok, Err}
use Prim.Native.Nat.{ℕ, ◌≤◌, ◌<◌}
use mathlib.Core.Path.{◌≡◌, ◌∙◌, ap, sym}
use mathlib.Core.List.{List, []}
use native.Mathlib.Omega.{arith}
use lib.ListN.{length}
use lib.Seq.{sets}
use Rattle.spec.specs.Strings.{bad, good, plain, decode}
use Rattle.spec.specs.Fields.{reading}
use Rattle.spec.specs.Lookup.{hit, bytes_of}
use Rattle.spec.specs.Questions.{decoded_outcome}
use Rattle.spec.specs.declared.Refusal.TheVariants.{NoRoom}
use Rattle.laws.proofs.Buffers.{put-fits, put_full}
use Rattle.laws.proofs.Stores.{stored_front}
use Rattle.field_bounds.specs.Answers.{field_at}
use Rattle.escapes.specs.Steps.{Decodes}
use Rattle.fields.specs.Readings.{ReadAs}
use Rattle.fields.specs.declared.FieldRead.TheVariants.{String}
use Rattle.questions.specs.Answers.{TextWritten}
use Rattle.spec.specs.declared.Refusal.{Refusal}

-- ---- a text of n bytes

module _ (s : List ℕ) (text n : ℕ) (buffer l : List ℕ) (d : decode plain (field_at s text) ≡ good l) (e : length l ≡ n) where
  pub text_full : length buffer < n → TextWritten s text buffer (Err NoRoom) buffer
  text_full h =
      let f : length buffer < length l = omega arith in
      let p = put_full l (length l) buffer f in
      (l, d, rw p, rw p)

  pub text-fits : (after : List ℕ) → n ≤ length buffer → after ≡ sets buffer 0 l → TextWritten s text buffer (Ok (Some n)) after
  text-fits after h q =
      let f : length l ≤ length buffer = omega arith in
      let p = put-fits l (length l) buffer f in
      (l, d, rw (p, e), rw p (q ∙ stored_front buffer l f))

-- what the decoder wrote of a text that is known to be good
pub decoded_stored : (s : List ℕ) (text : ℕ) (buffer after l : List ℕ) (r : Option ℕ) → decode plain (field_at s text) ≡ good l → Decodes s text buffer after r
    → after ≡ sets buffer 0 l
decoded_stored s text buffer after l (Some n) d w =
    let e : w.0 ≡ l = let q : good w.0 ≡ good l = sym w.1 ∙ d in cc in
    w.3 ∙ ap (sets buffer 0) e
decoded_stored s text buffer after l None d w = let z : ◌≡◌ {A = ℕ} 0 1 = let q : good l ≡ bad = sym d ∙ w.0 in cc in absurd (omega arith)

-- ---- a field that answers

abbrev FieldWritten : List ℕ → List ℕ → Result (Option ℕ) Refusal → List ℕ → Type 0
FieldWritten f buffer r after = (r ≡ (decoded_outcome (hit f) buffer).answer) × (after ≡ (decoded_outcome (hit f) buffer).buffer)

pub none_written : (f buffer : List ℕ) → bytes_of (reading f) ≡ [] → FieldWritten f buffer (Ok (Some 0)) buffer
unfolding decoded_outcome
none_written f buffer e =
    let p = put-fits [] 0 buffer (omega arith) in
    (rw (e, p), rw (e, p))

pub string-written : (s f : List ℕ) (a b text n : ℕ) (buffer after : List ℕ) (r : Result (Option ℕ) Refusal) → ReadAs s (reading f) (String a b text n)
    → TextWritten s text buffer r after → FieldWritten f buffer r after
unfolding decoded_outcome bytes_of
string-written s f a b text n buffer after r p w =
    let e : w.0 ≡ p.0 = let q : good w.0 ≡ good p.0 = sym w.1 ∙ p.2 in cc in
    (rw (p.1, ← e) w.2, rw (p.1, ← e) w.3)
