-- Laws of the set of failed plans: what it has, what one plan more changes, and that its ones are the plans in it, counted one by one.
use Prim.Native.Nat.{ℕ, zero, suc, ◌+◌, ◌-◌, ◌*◌, ◌/◌, ◌%◌, ◌^◌, ◌<◌, ◌≤◌}
use native.Mathlib.Decide.{dec_lt}
use native.Mathlib.Nat.{mod-lt, pow-suc, div-eq_of_lt, mod-eq_of_lt, div_self, zero-add, one-mul, suc-mul, mul-mod_left, lt_of_not-le, eq-or-lt_of_le}
use native.Mathlib.Numerals.{add-one, one-add}
use native.Mathlib.Omega.{arith}
use mathlib.Core.Path.{◌≡◌, refl, ap, ap₂, sym, subst, ◌∙◌}
use mathlib.Core.Bool.{true, false, cond}
use mathlib.Core.Logic.{⊎_elim, dite}
use lib.Arith.{lt-one}
use lib.Bits.{bit_or, bit_and, or_add_and, and_high, or_shr, or_mod, or_zero_r, or_lt}
use lib.Count.{ones, ones_cat, ones_step}
use lib.Dec.{eqb}
use lib.Pow.{pow_pos, pow_mono, pow-lt, pow-add, split, shr_lt, field, mod-mod-pow, shl-shr}
use borrow.Author.Tests.{eqb-true, eqb-false, lt-ltb, le-ltb}
use Rattle.lists.proofs.BoolLaws.{by_cases}
use Rattle.situation.specs.FailedSet.{has, insert, with_plan, size_of, count_below}

-- ---- Bits

bit : ℕ → ℕ → ℕ
bit set plan = set / 2 ^ plan % 2

bit_below : (set plan : ℕ) → bit set plan < 2
unfolding bit
bit_below set plan = mod-lt (set / 2 ^ plan) (omega arith)

has-bit : (set plan : ℕ) → has set plan ≡ eqb (bit set plan) 1
unfolding has bit
has-bit set plan = refl

counted : (set plan : ℕ) → cond (has set plan) 1 0 ≡ bit set plan
unfolding has bit
counted set plan = go (set / 2 ^ plan % 2) (mod-lt (set / 2 ^ plan) (omega arith))
  where
    go : (b : ℕ) → b < 2 → cond (eqb b 1) 1 0 ≡ b
    go zero h = refl
    go (suc zero) h = refl
    go (suc (suc b)) h = absurd (omega arith)

-- a set has no plan past its bits
pub has-past : (set plan n : ℕ) → set < 2 ^ n → n ≤ plan → has set plan ≡ false
unfolding has
has-past set plan n h g =
    let p : 2 ^ n ≤ 2 ^ plan = pow_mono g in
    let q : set < 2 ^ plan = omega arith in
    rw (div-eq_of_lt q)

-- the empty set has none
pub has_empty : (plan : ℕ) → has 0 plan ≡ false
has_empty plan = has-past 0 plan 0 (omega arith) (omega arith)

-- ---- One plan more, by the bit

own : (plan : ℕ) → bit (2 ^ plan) plan ≡ 1
unfolding bit
own plan = rw (div_self (pow_pos plan))

others : (plan other : ℕ) → (other ≡ plan → ⊥) → bit (2 ^ plan) other ≡ 0
unfolding bit
others plan other ne =
    dite (dec_lt other plan)
    (λ (l : other < plan).
    let e : plan ≡ suc (plan - suc other) + other = omega arith in
    ap (λ (m : ℕ). 2 ^ m / 2 ^ other % 2) e
    ∙ ap (λ (m : ℕ). m / 2 ^ other % 2) (pow-add 2 (suc (plan - suc other)) other)
    ∙ ap (λ (m : ℕ). m % 2) (shl-shr (2 ^ suc (plan - suc other)) other ∙ pow-suc 2 (plan - suc other))
    ∙ mul-mod_left (2 ^ (plan - suc other)) 2)
    (λ (g : other < plan → ⊥).
    ap (λ (m : ℕ). m % 2) (div-eq_of_lt (pow-lt {i = plan} {j = other} (lt_of_not-le (λ (h : other ≤ plan). ⊎_elim ne g (eq-or-lt_of_le h))))))

bit_or_lem : (x y plan : ℕ) → bit (bit_or x y) plan ≡ bit_or (bit x plan) (bit y plan)
unfolding bit
bit_or_lem x y plan = rw (or_shr x y plan) (or_mod (x / 2 ^ plan) (y / 2 ^ plan) 1)

-- the bit alone
and_bit : (set plan : ℕ) → bit_and set (2 ^ plan) ≡ bit set plan * 2 ^ plan
unfolding bit
and_bit set plan =
    let e : 2 ^ (1 + plan) - 2 ^ plan ≡ 2 ^ plan = rw (one-add plan, pow-suc 2 plan) (omega arith) in
    ap (bit_and set) (sym e) ∙ and_high set 1 plan

-- what the code's `|` makes of a set
pub or_insert : (set plan : ℕ) → bit_or set (2 ^ plan) ≡ insert set plan
unfolding insert
or_insert set plan =
    by_cases (has set plan)
    (λ e. rw e (set_already (eqb-true _ _ (sym (has-bit set plan) ∙ e))))
    (λ e. rw e (set_now (bit_below set plan) (eqb-false _ _ (sym (has-bit set plan) ∙ e))))
  where
    sums : bit_or set (2 ^ plan) + bit set plan * 2 ^ plan ≡ set + 2 ^ plan
    sums = rw (← and_bit set plan) (or_add_and set (2 ^ plan))

    set_already : bit set plan ≡ 1 → bit_or set (2 ^ plan) ≡ set
    set_already e = omega (arith, (rw (e, one-mul) at sums))

    set_now : bit set plan < 2 → (bit set plan ≡ 1 → ⊥) → bit_or set (2 ^ plan) ≡ set + 2 ^ plan
    set_now h ne = let e : bit set plan ≡ 0 = omega arith in omega (arith, (rw e at sums))

-- ---- What one plan more changes

or_one : (b : ℕ) → b < 2 → bit_or b 1 ≡ 1
or_one zero h = refl
or_one (suc zero) h = refl
or_one (suc (suc b)) h = absurd (omega arith)

-- the plan is in it
pub insert-has : (set plan : ℕ) → has (insert set plan) plan ≡ true
insert-has set plan =
    rw (← or_insert set plan, has-bit (bit_or set (2 ^ plan)) plan, bit_or_lem set (2 ^ plan) plan, own plan, or_one (bit set plan) (bit_below set plan))

-- the others are as they were
pub insert_other : (set plan other : ℕ) → (other ≡ plan → ⊥) → has (insert set plan) other ≡ has set other
insert_other set plan other ne =
    rw (← or_insert set plan, has-bit (bit_or set (2 ^ plan)) other, bit_or_lem set (2 ^ plan) other, others plan other ne, or_zero_r, has-bit set other)

-- a plan that is in it changes nothing
pub insert_held : (set plan : ℕ) → has set plan ≡ true → insert set plan ≡ set
unfolding insert
insert_held set plan e = rw e

-- a plan that was not makes it one larger
pub insert-size : (set plan : ℕ) → has set plan ≡ false → size_of (insert set plan) ≡ size_of set + 1
unfolding insert size_of bit
insert-size set plan e = rw e (ap ones up ∙ ones_cat plan (suc a) r below ∙ odd ∙ ap (λ (n : ℕ). n + 1) (sym (ones_cat plan a r below) ∙ ap ones (split set plan)))
  where
    a : ℕ
    a = set / 2 ^ plan

    r : ℕ
    r = set % 2 ^ plan

    below : r < 2 ^ plan
    below = mod-lt set (pow_pos plan)

    clear : a % 2 ≡ 0
    clear = omega (arith, eqb-false (a % 2) 1 (sym (has-bit set plan) ∙ e), mod-lt a {m = 2} (omega arith))

    up : set + 2 ^ plan ≡ suc a * 2 ^ plan + r
    up = omega (arith, suc-mul a (2 ^ plan), split set plan)

    odd : ones (suc a) + ones r ≡ ones a + ones r + 1
    odd = omega (arith, clear, ones_step (suc a), ones_step a, ap ones half)
      where
        half : suc a / 2 ≡ a / 2
        half = omega (arith, clear)

-- a set of plans below n stays one
pub insert_below : (set plan n : ℕ) → set < 2 ^ n → plan < n → insert set plan < 2 ^ n
insert_below set plan n h g = rw (← or_insert set plan) (or_lt n set (2 ^ plan) h (pow-lt {i = plan} {j = n} g))

-- ---- The size is the count

pub size_empty : size_of 0 ≡ 0
unfolding size_of ones
size_empty = refl

bit_low : (set plan j : ℕ) → bit (set % 2 ^ (suc j + plan)) plan ≡ bit set plan
unfolding bit
bit_low set plan j =
    ap (λ (n : ℕ). n % 2) (field set (suc j) plan)
    ∙ ap (λ (n : ℕ). set / 2 ^ plan % 2 ^ n % 2) (sym (add-one j))
    ∙ mod-mod-pow (set / 2 ^ plan) j 1

count_low : (n j set : ℕ) → count_below (set % 2 ^ (j + n)) n ≡ count_below set n
unfolding count_below
count_low zero j set = refl
count_low (suc n) j set =
    let e : j + suc n ≡ suc j + n = omega arith in
    ap (λ m. count_below (set % 2 ^ m) (suc n)) e ∙ (ap₂ (λ (a b : ℕ). a + b) (count_low n (suc j) set) (counted (set % 2 ^ (suc j + n)) n ∙ bit_low set n j ∙ sym (counted set n)))

ones_bit : (b : ℕ) → b < 2 → ones b ≡ b
unfolding ones
ones_bit zero h = refl
ones_bit (suc zero) h = refl
ones_bit (suc (suc b)) h = absurd (omega arith)

-- the ones of a set of plans below n are the plans below n that are in it
pub size_counts : (n set : ℕ) → set < 2 ^ n → size_of set ≡ count_below set n
unfolding size_of count_below ones bit
size_counts zero set h = ap ones (lt-one h)
size_counts (suc n) set h =
    let b : set / 2 ^ n < 2 = shr_lt 1 n (subst (λ (m : ℕ). set < 2 ^ m) (sym (one-add n)) h) in
    let r : set % 2 ^ n < 2 ^ n = mod-lt set (pow_pos n) in
    let low : count_below (set % 2 ^ n) n ≡ count_below set n = rw zero-add at (count_low n 0 set) in
    ap ones (sym (split set n))
    ∙ ones_cat n (set / 2 ^ n) (set % 2 ^ n) r
    ∙ ap₂ (λ (x y : ℕ). x + y) (ones_bit (set / 2 ^ n) b ∙ sym (mod-eq_of_lt b) ∙ sym (counted set n)) (size_counts n (set % 2 ^ n) r ∙ low)
    ∙ omega arith

-- ---- The code's names

-- what `1 << plan` gives
pub one_shifted : (plan : ℕ) → plan < 32 → (1 * 2 ^ plan) % 4294967296 ≡ 2 ^ plan
one_shifted plan h = rw one-mul (mod-eq_of_lt (pow-lt {i = plan} {j = 32} h))

module _ (set plan : ℕ) where
  pub with_below : plan < 32 → with_plan set plan ≡ insert set plan
  unfolding with_plan
  with_below h = rw (lt-ltb _ _ h)

  pub with_past : 32 ≤ plan → with_plan set plan ≡ set
  unfolding with_plan
  with_past h = rw (le-ltb _ _ h)
