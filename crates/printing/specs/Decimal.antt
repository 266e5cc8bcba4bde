-- Numbers in base ten, as bytes, and the number that digits say (document 01, "Journal": printed numbers have no leading zeros).
use Rattle.std.specs.Prelude.{ℕ, zero, suc, ◌+◌, ◌-◌, ◌*◌, ◌/◌, ◌%◌, Bool, true, false, List, [], ◌∷◌, ◌++◌, ltb}

-- the byte of the digit 0
abbrev pub zero_digit : ℕ
zero_digit = 48

-- the byte of a number's last digit
abbrev pub last_digit : ℕ → ℕ
last_digit n = zero_digit + n % 10

-- by whether n has one digit: that digit, or the higher digits and then the last
abbrev pub digits_by : Bool → (ℕ → List ℕ) → ℕ → List ℕ
digits_by true higher n = (zero_digit + n) ∷ []
digits_by false higher n = higher (n / 10) ++ (last_digit n ∷ [])

-- the digits of n, at most `most` of them
abbrev pub decimal_by : ℕ → ℕ → List ℕ
decimal_by zero n = []
decimal_by (suc most) n = digits_by (ltb n 10) (decimal_by most) n

-- n without leading zeros: no number has more than suc n digits
unfoldable pub decimal : ℕ → List ℕ
decimal n = decimal_by (suc n) n

-- the number that digits say after those that say `before`
abbrev pub value_from : ℕ → List ℕ → ℕ
value_from before [] = before
value_from before (digit ∷ digits) = value_from (before * 10 + (digit - zero_digit)) digits

-- the number that digits say
abbrev pub value : List ℕ → ℕ
value digits = value_from 0 digits

-- ---- A fixed number of digits

-- the last two digits of n, zeros where it has fewer
abbrev pub last_two : ℕ → List ℕ
last_two n = last_digit (n / 10) ∷ last_digit n ∷ []

-- the last four
abbrev pub last_four : ℕ → List ℕ
last_four n = last_two (n / 100) ++ last_two n
