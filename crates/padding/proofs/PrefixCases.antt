-- The prefix in each case of what was read: the star, the digits before the point, and those after it. Assumes nothing.
use mathlib.Core.Path.{◌≡◌, refl, sym, ap, ◌∙◌}
use mathlib.Core.Bool.{false}
use mathlib.Core.List.{List, [], ◌∷◌}
use Prim.Native.Nat.{ℕ, ◌+◌, ◌*◌, ◌≤◌, ◌<◌}
use native.Mathlib.Omega.{arith}
use borrow.Author.Tests.{ne_eqb, lt-ltb, le-ltb}
use lib.ListN.{length, drop, get_or, drop_of_length-le}
use lib.Seq.{drop-drop, get_or-drop}
use Rattle.spec.specs.Choice.{is_empty}
use Rattle.spec.specs.Digits.{value, value_from, leading, trailing}
use Rattle.spec.specs.Padding.{split, refused, tenths, starred, past_star, past_digits, prefix_of}
use Rattle.spec.specs.declared.Refusal.TheVariants.{BadPadding as Bad}
use Rattle.laws.proofs.LeadingDigits.{trailing-drop}
use Rattle.laws.proofs.TextSteps.{drop-next}
use Rattle.padding.specs.Reading.{PrefixRead, StarRead, DigitsRead}
use Rattle.padding.specs.declared.Prefix.{Prefix}
use Rattle.std.specs.Prelude.{Ok, Err}

-- ---- the prefix, by what was read

some_digits : (l : List ℕ) → 0 < length l → is_empty l ≡ false
some_digits [] h = absurd (omega arith)
some_digits (c ∷ l) h = refl

module _ (s : List ℕ) (at n end : ℕ) (d : DigitsRead s at n end) where
  read_count : end < at + 5 → at + length (leading 10 (drop at s)) ≡ end
  read_count h = let e = d.ends h in d.counts ∙ ap (λ (l : List ℕ). end + length l) e ∙ omega arith

  read_value_lem : end < at + 5 → value 10 (leading 10 (drop at s)) ≡ n
  unfolding value_from
  read_value_lem h = d.reads ∙ ap (value_from 10 n) (d.ends h)

  read_behind : end < at + 5 → trailing 10 (drop at s) ≡ drop end s
  read_behind h =
      let k = read_count h in
      let e : at + length (leading 10 (drop at s)) ≡ end = k in
      trailing-drop 10 (drop at s) ∙ drop-drop (length (leading 10 (drop at s))) at s ∙ ap (λ (m : ℕ). drop m s) e

  read_many : end ≡ at + 5 → 4 < length (leading 10 (drop at s))
  read_many e = omega (arith, d.counts)

-- what stands behind the digits
star-split : (s : List ℕ) (at delay : ℕ) (p : Prefix) → StarRead s at delay p
    → split (record { delay = delay; star = starred (drop at s); body = past_star (drop at s) })
    ≡ split (record { delay = p.delay; star = p.star; body = drop p.from s })
star-split s at delay p st =
    let e = sym st.0 in
    let f = sym st.1 in
    let g = sym st.2 in
    λ i. split (record { delay = e i; star = f i; body = g i })

past-plain : (n : ℕ) (s : List ℕ) → (get_or s 0 0 ≡ 46 → ⊥) → past_digits n s ≡ split
    (record { delay = 10 * n; star = starred s; body = past_star s })
unfolding tenths value_from
past-plain n [] p = let w : 10 * n + 0 ≡ 10 * n = omega arith in rw w
past-plain n (c ∷ t) p = let w : 10 * n + 0 ≡ 10 * n = omega arith in rw (ne_eqb _ _ p, w)

past_point : (n : ℕ) (s t : List ℕ) → s ≡ 46 ∷ t → leading 10 t ≡ [] → past_digits n s ≡ split (record { delay = 10 * n; star = false; body = s })
unfolding tenths value_from
past_point n s t e p = let w : 10 * n + 0 ≡ 10 * n = omega arith in rw (e, p, w)

past_two : (n : ℕ) (s t : List ℕ) → s ≡ 46 ∷ t → 1 < length (leading 10 t) → past_digits n s ≡ refused Bad
unfolding tenths
past_two n s t e p = rw (e, lt-ltb _ _ p)

past_tenth : (n m : ℕ) (s t u : List ℕ) → s ≡ 46 ∷ t → length (leading 10 t) ≡ 1 → value 10 (leading 10 t) ≡ m → trailing 10 t ≡ u
    → past_digits n s ≡ split (record { delay = 10 * n + m; star = starred u; body = past_star u })
unfolding tenths
past_tenth n m s t u e k v b = rw (e, k, v, some_digits (leading 10 t) (omega arith), b)

module _ (cmd : List ℕ) (n end : ℕ) (d : DigitsRead cmd 0 n end) where
  pub prefix-none : end ≡ 0 → PrefixRead cmd (Ok (record { delay = 0; star = false; from = 0 }))
  unfolding prefix_of
  prefix-none e = let k = read_count cmd 0 n end d (omega arith) in (rw (drop_of_length-le (leading 10 cmd) {i = 0} (omega arith)), omega arith)

  pub prefix_many : 4 < end → PrefixRead cmd (Err Bad)
  unfolding prefix_of
  prefix_many h =
      let f = d.five in
      let m : 4 < length (leading 10 cmd) = read_many cmd 0 n end d (omega arith) in
      rw (some_digits (leading 10 cmd) (omega arith), lt-ltb _ _ m)

  module _ (some : end ≡ 0 → ⊥) (few : end ≤ 4) where
    past : prefix_of cmd ≡ past_digits n (drop end cmd)
    unfolding prefix_of
    past =
        let k : 0 + length (leading 10 cmd) ≡ end = read_count cmd 0 n end d (omega arith) in
        let l : length (leading 10 cmd) ≤ 4 = omega arith in
        let v : value 10 (leading 10 cmd) ≡ n = read_value_lem cmd 0 n end d (omega arith) in
        let b : trailing 10 cmd ≡ drop end cmd = read_behind cmd 0 n end d (omega arith) in
        rw (some_digits (leading 10 cmd) (omega arith), le-ltb 4 _ l, v, b)

    -- no point: the star is looked for where the digits end
    pub prefix-plain : (get_or cmd end 0 ≡ 46 → ⊥) → (r : Prefix) → StarRead cmd end (10 * n) r → PrefixRead cmd (Ok r)
    prefix-plain p r st =
        let e : end + 0 ≡ end = omega arith in
        let first : get_or (drop end cmd) 0 0 ≡ get_or cmd end 0 = get_or-drop end cmd 0 0 ∙ rw e in
        (past ∙ past-plain n (drop end cmd) (λ f. p (sym first ∙ f)) ∙ star-split cmd end (10 * n) r st, st.3)

    -- a point, and the digits behind it: none, more than one, or one, and then maybe a star
    module _ (m to : ℕ) (l : end < length cmd) (p : get_or cmd end 0 ≡ 46) (e : DigitsRead cmd (end + 1) m to) where
      point : drop end cmd ≡ 46 ∷ drop (end + 1) cmd
      point = drop-next cmd end l ∙ ap (λ (c : ℕ). c ∷ drop (end + 1) cmd) p

      pub prefix_point : to ≡ end + 1 → PrefixRead cmd (Ok (record { delay = 10 * n; star = false; from = end }))
      prefix_point t =
          let k = read_count cmd (end + 1) m to e (omega arith) in (
            past ∙ past_point n (drop end cmd) (drop (end + 1) cmd) point (drop_of_length-le (leading 10 (drop (end + 1) cmd)) {i = 0} (omega arith)),
            omega
                arith,
          )

      pub prefix_two : end + 2 < to → PrefixRead cmd (Err Bad)
      prefix_two t = past ∙ past_two n (drop end cmd) (drop (end + 1) cmd) point (omega (arith, e.counts))

      pub prefix_tenth : to ≡ end + 2 → (r : Prefix) → StarRead cmd to (10 * n + m) r → PrefixRead cmd (Ok r)
      prefix_tenth t r st =
          let k = read_count cmd (end + 1) m to e (omega arith) in
          let v = read_value_lem cmd (end + 1) m to e (omega arith) in
          let b = read_behind cmd (end + 1) m to e (omega arith) in (
            past ∙ past_tenth n m (drop end cmd) (drop (end + 1) cmd) (drop to cmd) point (omega (arith, e.after)) v b ∙ star-split cmd to (10 * n + m) r st,
            st.3,
          )
