-- Laws of numbers: what digits say, and what a field says by how many bytes it has and what its digits say.
use Prim.Native.Nat.{ℕ, ◌+◌, ◌-◌, ◌*◌, ◌≤◌, ◌<◌}
use mathlib.Core.Path.{◌≡◌, refl, sym, ap, ◌∙◌}
use mathlib.Core.Bool.{Bool, true, false, cond, ◌&&◌}
use Rattle.std.specs.Prelude.{None, Some}
use mathlib.Core.List.{List, [], ◌∷◌, ◌++◌}
use native.Mathlib.Numerals.{add-one}
use native.Mathlib.Omega.{arith}
use lib.Dec.{leb}
use lib.ListN.{length, take, drop, get_or, take-append-drop}
use lib.Seq.{drop-cons, take-suc, take_all}
use borrow.Author.Tests.{le-leb, lt-leb}
use Rattle.lists.proofs.OptionLaws.{some_equal, none-some}
use Rattle.literal.specs.Match.{and_then}
use Rattle.reading.specs.Call.{is_digit, digits_from, up_to, numeral}

-- ---- Digits

-- what follows digits is read behind their number
pub digits_append : (n value : ℕ) (digits rest : List ℕ) → digits_from n digits ≡ Some value → digits_from n (digits ++ rest) ≡ digits_from value rest
digits_append n value [] rest e = ap (λ m. digits_from m rest) (some_equal e)
digits_append n value (b ∷ digits) rest e = by (is_digit b) e (λ h. digits_append (n * 10 + (b - 48)) value digits rest h) where
  by : (t : Bool) → cond t (digits_from (n * 10 + (b - 48)) digits) None ≡ Some value
      → (digits_from (n * 10 + (b - 48)) digits ≡ Some value → digits_from (n * 10 + (b - 48)) (digits ++ rest) ≡ digits_from value rest)
      → cond t (digits_from (n * 10 + (b - 48)) (digits ++ rest)) None ≡ digits_from value rest
  by true e further = further e
  by false e further = none-some e

-- one digit more
pub digits_more : (value b : ℕ) (digits : List ℕ) → digits_from 0 digits ≡ Some value → 48 ≤ b → b ≤ 57 → digits_from 0 (digits ++ (b ∷ [])) ≡ Some (value * 10 + (b - 48))
digits_more value b digits e low high = digits_append 0 value digits (b ∷ []) e ∙ rw (le-leb 48 b low, le-leb b 57 high)

-- ---- Numbers

pub number_of : (width most value : ℕ) (text : List ℕ) → 1 ≤ length text → length text ≤ width → digits_from 0 text ≡ Some value
    → numeral width most text ≡ up_to most value
unfolding numeral
number_of width most value text one few e = rw (le-leb 1 _ one, le-leb _ width few, e)

module _ (width most : ℕ) (text : List ℕ) where
  pub number_missing : length text ≡ 0 → numeral width most text ≡ None
  unfolding numeral
  number_missing e = rw e

  pub number_long : width < length text → numeral width most text ≡ None
  unfolding numeral
  number_long h = rw (le-leb 1 (length text) (omega arith), lt-leb (length text) width h)

  pub number_wrong : digits_from 0 text ≡ None → numeral width most text ≡ None
  unfolding numeral
  number_wrong e = by (leb 1 (length text) && leb (length text) width) where
    by : (t : Bool) → cond t (and_then (digits_from 0 text) (up_to most)) None ≡ None
    by true = rw e
    by false = refl

-- ---- Digit by digit: what the first i bytes of a field say, and what follows them
module _ (width most : ℕ) (field : List ℕ) (i value : ℕ) (e : digits_from 0 (take i field) ≡ Some value) where
  -- a digit
  pub digit_next : i < length field → 48 ≤ get_or field i 0 → get_or field i 0 ≤ 57 → digits_from 0 (take (i + 1) field) ≡ Some (value * 10 + (get_or field i 0 - 48))
  digit_next inside low high = rw (add-one, take-suc field i 0 inside) (digits_more value (get_or field i 0) (take i field) e low high)

  -- a byte that is none
  pub digit_missing : i < length field → is_digit (get_or field i 0) ≡ false → numeral width most field ≡ None
  digit_missing inside other =
      number_wrong width most field
      (ap (digits_from 0) (sym (take-append-drop i field)) ∙ digits_append 0 value (take i field) (drop i field) e ∙ rw (drop-cons field i 0 inside, other))

  -- nothing, and their number is too large, or is what the field says
  module _ (end : length field ≤ i) (one : 1 ≤ length field) (few : length field ≤ width) where
    says : numeral width most field ≡ up_to most value
    says = number_of width most value field one few (ap (digits_from 0) (sym (take_all i field end)) ∙ e)

    pub digits_over : most < value → numeral width most field ≡ None
    digits_over over = says ∙ rw (lt-leb value most over)

    pub digits_said : value ≤ most → numeral width most field ≡ Some value
    digits_said fits = says ∙ rw (le-leb value most fits)
