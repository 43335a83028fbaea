-- A string's text decoded step by step: a step's answer passed on, and the bytes stored so far.
-- Assumes nothing.
use Rattle.std.specs.Prelude.{Some, None}
use Prim.Native.Nat.{ℕ, ◌+◌, ◌≤◌, ◌<◌}
use mathlib.Core.Path.{◌≡◌, refl, ◌∙◌, ap, sym}
use mathlib.Core.List.{List, [], ◌∷◌, ◌++◌, append-nil}
use native.Mathlib.Omega.{arith}
use lib.ListN.{length, set, length-append}
use lib.Seq.{sets, length-sets}
use Rattle.spec.specs.Strings.{Decoded, bad, good, emit, Mode, plain, decode}
use Rattle.laws.proofs.FieldSteps.{after, after-emit}
use Rattle.laws.proofs.Stores.{stored-append}
use Rattle.field_bounds.specs.Answers.{field_at, Passed}
use Rattle.field_bounds.proofs.FieldBytes.{passed_none, passed_over}
use Rattle.escapes.specs.Steps.{in_hand, TextBegins, Decodes, Measures}
use Rattle.escapes.specs.declared.TextStep.{TextStep}
use Rattle.escapes.specs.declared.TextStep.TheVariants.{Byte, End, Bad}

-- a byte was passed, and the rest of the text is what another answer is about
pub text_on : (m k : Mode) (s : List ℕ) (at n : ℕ) (r : TextStep) → decode m (field_at s at) ≡ decode k (field_at s n) → at < n → Passed s at n 1
    → in_hand m + 1 ≡ in_hand k → TextBegins k s n r → TextBegins m s at r
text_on m k s at n (Byte v j w) e h q f t = (e ∙ t.0, omega arith, t.2, λ p o. t.3 p (rw (← f) (passed_over s p at n _ _ o q)))
text_on m k s at n End e h q f t = e ∙ t
text_on m k s at n Bad e h q f t = e ∙ t

-- The text of the field at `at` stands for these `k` bytes up to the place `i`.
pub record Reading (s : List ℕ) (at i k : ℕ) (bytes : List ℕ) : Type 0 where
  pub few : k ≤ i
  pub read : decode plain (field_at s at) ≡ after bytes (decode plain (field_at s i))
  pub count : length bytes ≡ k

after_none : (o : Decoded) → o ≡ after [] o
unfolding after
after_none bad = refl
after_none (good l) = refl

reading-none : (s : List ℕ) (at : ℕ) → Reading s at at 0 []
reading-none s at = record { few = omega arith; read = after_none _; count = refl }

module _ (s : List ℕ) (at i k : ℕ) (bytes : List ℕ) (q : Reading s at i k bytes) where
  reading_on : (b n : ℕ) → decode plain (field_at s i) ≡ emit b (decode plain (field_at s n)) → i < n → Reading s at n (k + 1) (bytes ++ b ∷ [])
  reading_on b n e h = record {
    few = omega (arith, q.few);
    read = q.read ∙ ap (after bytes) e ∙ after-emit bytes b _;
    count = length-append bytes (b ∷ []) ∙ omega (arith, q.count);
  }

  reading_done : decode plain (field_at s i) ≡ good [] → decode plain (field_at s at) ≡ good bytes
  unfolding after
  reading_done e = q.read ∙ ap (after bytes) e ∙ ap good (append-nil bytes)

  reading-fault : decode plain (field_at s i) ≡ bad → decode plain (field_at s at) ≡ bad
  unfolding after
  reading-fault e = q.read ∙ ap (after bytes) e

-- They are in the buffer.
pub record Decoding (s : List ℕ) (at : ℕ) (out₀ out : List ℕ) (i k : ℕ) : Type 0 where
  pub bytes : List ℕ
  pub text : Reading s at i k bytes
  pub stored : out ≡ sets out₀ 0 bytes

pub decoding_none : (s : List ℕ) (at : ℕ) (out : List ℕ) → Decoding s at out out at 0
decoding_none s at out = record { bytes = []; text = reading-none s at; stored = refl }

module _ (s : List ℕ) (at : ℕ) (out₀ out : List ℕ) (i k : ℕ) (q : Decoding s at out₀ out i k) where
  pub decoding_kept : length out ≡ length out₀
  decoding_kept = ap length q.stored ∙ length-sets out₀ 0 q.bytes

  pub decoding_on : (b n : ℕ) (next : List ℕ) → decode plain (field_at s i) ≡ emit b (decode plain (field_at s n)) → i < n → next ≡ set out (0 + k) b
      → Decoding s at out₀ next n (k + 1)
  decoding_on b n next e h f =
      let place : 0 + k ≡ 0 + length q.bytes = omega (arith, q.text.count) in
      record {
        bytes = q.bytes ++ b ∷ [];
        text = reading_on s at i k q.bytes q.text b n e h;
        stored = f ∙ ap (λ (l : List ℕ). set l (0 + k) b) q.stored ∙ ap (λ (j : ℕ). set (sets out₀ 0 q.bytes) j b) place
            ∙ sym (stored-append out₀ 0 q.bytes (b ∷ []));
      }

  pub decoding_done : decode plain (field_at s i) ≡ good [] → Decodes s at out₀ out (Some k)
  decoding_done e = (q.bytes, reading_done s at i k q.bytes q.text e, q.text.count, q.stored)

  pub decoding_fault : decode plain (field_at s i) ≡ bad → Decodes s at out₀ out None
  decoding_fault e = (reading-fault s at i k q.bytes q.text e, decoding_kept)

-- They are counted, and `w` bytes of the text are passed.
pub record Measuring (s : List ℕ) (at i k w : ℕ) : Type 0 where
  pub bytes : List ℕ
  pub text : Reading s at i k bytes
  pub passed : Passed s at i w

pub measuring_none : (s : List ℕ) (at : ℕ) → Measuring s at at 0 0
measuring_none s at = record { bytes = []; text = reading-none s at; passed = passed_none s at }

module _ (s : List ℕ) (at i k w : ℕ) (q : Measuring s at i k w) where
  module _ (b n v : ℕ) (p : TextBegins plain s i (Byte b n v)) where
    pub measuring_on : Measuring s at n (k + 1) (w + v)
    measuring_on = record {
      bytes = q.bytes ++ b ∷ [];
      text = reading_on s at i k q.bytes q.text b n p.0 p.1;
      passed = passed_over s at i n w v q.passed (p.3 i (passed_none s i));
    }

  pub measuring_done : decode plain (field_at s i) ≡ good [] → Measures s at (record { count = Some k; stop = i; passed = w })
  measuring_done e = ((q.bytes, reading_done s at i k q.bytes q.text e, q.text.count), q.passed)

  pub measuring_fault : decode plain (field_at s i) ≡ bad → Measures s at (record { count = None; stop = i; passed = w })
  measuring_fault e = (reading-fault s at i k q.bytes q.text e, q.passed)
