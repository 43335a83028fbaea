-- What the readers of a prefix answer, by the cases of their answers.
use Rattle.std.specs.Prelude.{ℕ, ◌+◌, ◌-◌, ◌^◌, ◌≤◌, ◌<◌, ◌≡◌, List, [], length, drop, Result, Ok, Err}
use Rattle.spec.specs.Digits.{value, value_from, leading}
use Rattle.spec.specs.Padding.{split, refused, starred, past_star, prefix_of}
use Rattle.spec.specs.declared.Refusal.{Refusal}
use Rattle.padding.specs.declared.Prefix.{Prefix}

-- The prefix: the body is the part of the command from a place on; or 13.
abbrev pub PrefixRead : List ℕ → Result Prefix Refusal → Type 0
PrefixRead cmd (Ok p) = (prefix_of cmd ≡ split (record { delay = p.delay; star = p.star; body = drop p.from cmd })) × (p.from ≤ length cmd)
PrefixRead cmd (Err r) = prefix_of cmd ≡ refused r

-- The star at a place.
abbrev pub StarRead : List ℕ → ℕ → ℕ → Prefix → Type 0
StarRead s at delay p = (p.delay ≡ delay) × (p.star ≡ starred (drop at s)) × (drop p.from s ≡ past_star (drop at s)) × (p.from ≤ length s)

-- The digits from a place on are those up to `end`, whose value is n, and those after it, of which there are none unless five were read.
pub record DigitsRead (s : List ℕ) (at n end : ℕ) : Type 0 where
  pub after : at ≤ end
  pub within : end ≤ length s
  pub five : end ≤ at + 5
  pub below : n < 10 ^ (end - at)
  pub reads : value 10 (leading 10 (drop at s)) ≡ value_from 10 n (leading 10 (drop end s))
  pub counts : at + length (leading 10 (drop at s)) ≡ end + length (leading 10 (drop end s))
  pub ends : end < at + 5 → leading 10 (drop end s) ≡ []
