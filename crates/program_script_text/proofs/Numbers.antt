-- The digits of a word that is a number.
use Rattle.std.proofs.Common.{◌≡◌, ℕ, ◌+◌, ◌-◌, ◌*◌, ◌<◌, ◌≤◌, ◌^◌, List, length, get_or, take, sym, ap, ◌∙◌}
use Rattle.std.proofs.Common.{[], ◌∷◌, arith, ⊎_elim}
use Rattle.std.specs.Char.{digit_value}
use Rattle.std.specs.Fmt.{decimal}
use Rattle.std.specs.Int.{IsInRange}
use Rattle.std.specs.Str.Parse.{AllDigits, digits_value}
use Rattle.std.proofs.Math.Nat.{pow-le-pow_right}
use Rattle.std.proofs.lemmas.Bool.{cases_lt}
use Rattle.std.proofs.lemmas.List.{length-take}
use Rattle.std.proofs.lemmas.Int.Digits.{digits_value-lt, digits_value_more, digits_more}
use Rattle.std.proofs.lemmas.Str.{digit_value_digit}
use Rattle.std.proofs.lemmas.Str.Parse.{IsNumeralModel, numerals_by_value, tells_digits, digit_at, digits_value_short}
use Rattle.std.proofs.lemmas.Fmt.{decimal-digits_value, first_decimal, decimal_digit, decimal_nonempty, digits_decimal, length-decimal-le}

-- std's own words for digits and their number
pub own : IsNumeralModel (AllDigits 10) (digits_value 10)
own = numerals_by_value (AllDigits 10) tells_digits

-- a number's text begins with a digit
pub first_of_decimal : (n : ℕ) → n < 2 ^ 32 → get_or (decimal n) 0 0 < 58
first_of_decimal n small =
    let wide : n < 2 ^ 64 = omega arith in
    omega (arith, digit_at (decimal n) 0 (digits_decimal own n wide) (decimal_nonempty n wide))

-- the digits of a number below 10^10: one at least, ten at most, and no zero in front of others
pub decimal_shape : (ds : List ℕ) (n : ℕ) → n < 10000000000 → ds ≡ decimal n
    → (0 < length ds) × (length ds ≤ 10) × (get_or ds 0 0 ≡ 48 → length ds ≡ 1)
decimal_shape ds n small e =
    let fits : n < 2 ^ 64 = omega arith in
    let below : n < 10 ^ 10 = omega arith in (
      rw e (decimal_nonempty n fits),
      rw e (length-decimal-le 10 n (omega arith) below fits),
      λ zero_first. ⊎_elim
          (λ none. let none_is : n ≡ 0 = omega arith in rw (e, none_is, decimal_digit 0 (omega arith)))
          (λ some. absurd (omega (arith, first_decimal n some fits, ap (λ bs. get_or bs 0 0) e)))
          (cases_lt n 1),
    )

-- and each is a digit
pub decimal_digit_at : (ds : List ℕ) (n i : ℕ) → n < 10000000000 → ds ≡ decimal n → i < length ds → IsInRange 48 57 (get_or ds i 0)
decimal_digit_at ds n i small e within =
    let fits : n < 2 ^ 64 = omega arith in
    digit_at ds i (rw e (digits_decimal own n fits)) within

-- the first i digits stand for less than 10^k, where i is at most k
pub prefix_below : (ds : List ℕ) (i k : ℕ) → i ≤ k → AllDigits 10 (take i ds) → digits_value 10 (take i ds) < 10 ^ k
prefix_below ds i k short digits =
    let lt = digits_value-lt 10 (take i ds) digits in
    let count : length (take i ds) ≤ k = omega (arith, length-take i ds) in
    let bound : 10 ^ length (take i ds) ≤ 10 ^ k = pow-le-pow_right (omega arith) count in
    omega arith

-- digits with no zero in front of others are the text of what they stand for
pub digits_are_decimal : (ds : List ℕ) → AllDigits 10 ds → 0 < length ds → length ds ≤ 10
    → (get_or ds 0 0 ≡ 48 → length ds ≡ 1) → (ds ≡ decimal (digits_value 10 ds)) × (digits_value 10 ds < 10000000000)
digits_are_decimal ds digits some short plain =
    let below : digits_value 10 ds < 10 ^ 10 = digits_value_short own ds 10 digits short in
    (sym (decimal-digits_value own ds digits some plain (omega arith)), omega arith)

-- one more digit
pub one_more_digit : (ds : List ℕ) (i : ℕ) → i < length ds → AllDigits 10 (take i ds) → IsInRange 48 57 (get_or ds i 0)
    → AllDigits 10 (take (i + 1) ds) × (digits_value 10 (take (i + 1) ds) ≡ digits_value 10 (take i ds) * 10 + (get_or ds i 0 - 48))
one_more_digit ds i within digits range =
    let value : digit_value (get_or ds i 0) ≡ get_or ds i 0 - 48 = omega (arith, digit_value_digit (get_or ds i 0) range) in
    (digits_more 10 ds i within digits (omega arith), digits_value_more 10 ds i within ∙ ap (λ d. digits_value 10 (take i ds) * 10 + d) value)

-- a digit alone is a number's text
pub one_digit : (ds : List ℕ) (d : ℕ) → length ds ≡ 1 → get_or ds 0 0 ≡ 48 + d → d < 10 → ds ≡ decimal d
one_digit [] d one is small = absurd (omega arith)
one_digit (b ∷ []) d one is small = ap (λ (x : ℕ). x ∷ []) is ∙ sym (decimal_digit d small)
one_digit (b ∷ c ∷ ds) d one is small = absurd (omega arith)
