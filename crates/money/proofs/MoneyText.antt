-- Money text: what `{:02}` writes, and that a text has one value.
use Rattle.std.proofs.Common.{◌≡◌, ◌≢◌, ℕ, suc, ◌+◌, ◌-◌, ◌*◌, ◌/◌, ◌%◌, ◌^◌, ◌<◌, ◌≤◌, ℤ, pos, negsuc, ◌<ℤ◌, ◌≤ℤ◌, List, [], ◌∷◌, ◌++◌, length, get_or, take}
use Rattle.std.proofs.Common.{drop, false, sym, ◌∙◌, ap, refl, arith, FitsSigned, w64, unsigned_abs, ⊎_elim}
use Rattle.std.proofs.lemmas.Int.{ints}
use Rattle.std.proofs.lemmas.Bool.{cases_lt}
use Rattle.std.proofs.Math.Seq.{take-append_seam, drop-append_seam}
use Rattle.std.proofs.Math.Nat.{pow-le-pow_right}
use Rattle.std.proofs.lemmas.List.{length-append, length-take, get_or_append_left}
use Rattle.std.proofs.lemmas.Fmt.{decimal_digit, decimal_step, decimal_injective, decimal_is_IsNumeral, decimal_nonempty, length-decimal-le, first_decimal}
use Rattle.std.proofs.lemmas.Fmt.{decimal-digits_value}
use Rattle.std.proofs.lemmas.Int.Digits.{digits_value-lt, digits_value_more, digits_more}
use Rattle.std.specs.Int.{IsInRange}
use Rattle.std.specs.Str.Parse.{AllDigits, digits_value}
use Rattle.std.proofs.lemmas.Str.Parse.{digit_at, numerals_by_value, tells_digits, digits_value_short}
use Rattle.std.proofs.lemmas.Str.{digit_value_digit}
use Rattle.std.specs.Char.{digit_value}
use Rattle.std.specs.Fmt.{decimal, padded_integral, char_count, format_spec, styled_decimal}
use Rattle.money.specs.Money.{two_digits, unsigned_money_text, money_text}

-- what `{:02}` writes of one digit
padded_one : (n : ℕ) → n < 10
    → padded_integral (format_spec 32 0 4 2 (2 ^ 64 - 1)) false [] ((48 + n) ∷ []) ≡ 48 ∷ (48 + n) ∷ []
unfolding padded_integral char_count
padded_one n small = refl

-- and of two
padded_two : (m n : ℕ) → m < 10 → n < 10
    → padded_integral (format_spec 32 0 4 2 (2 ^ 64 - 1)) false [] ((48 + m) ∷ (48 + n) ∷ []) ≡ (48 + m) ∷ (48 + n) ∷ []
unfolding padded_integral char_count
padded_two m n p q = refl

-- what `{:02}` writes of a number below a hundred
pub styled-two_digits : (n : ℕ) → n < 100
    → styled_decimal (format_spec 32 0 4 2 (2 ^ 64 - 1)) n ≡ two_digits n
styled-two_digits n small = ⊎_elim
    (λ one. let high : n / 10 ≡ 0 = omega arith in let low : n % 10 ≡ n = omega arith in rw (decimal_digit n one, padded_one n one, high, low))
    (λ two.
    let fits : n < 2 ^ 64 = omega arith in
    let high : n / 10 < 10 = omega arith in
    let low : n % 10 < 10 = omega arith in
    rw (decimal_step n two fits, decimal_digit (n / 10) high, padded_two (n / 10) (n % 10) high low))
    (cases_lt n 10)

-- two texts that end in parts of one length have the same parts
pub same_parts : (xs ys t u : List ℕ) → length t ≡ length u → xs ++ t ≡ ys ++ u → (xs ≡ ys) × (t ≡ u)
same_parts xs ys t u same e =
    let lengths : length xs + length t ≡ length ys + length u = simp length-append at (ap length e) in
    let fronts : length xs ≡ length ys = omega arith in (
      sym (take-append_seam xs t) ∙ (ap (take (length xs)) e ∙ rw fronts (take-append_seam ys u)),
      sym (drop-append_seam xs t) ∙ (ap (drop (length xs)) e ∙ rw fronts (drop-append_seam ys u)),
    )

-- two digits are those of one number
two_digits-injective : (m n : ℕ) → two_digits m ≡ two_digits n → m ≡ n
two_digits-injective m n e =
    let tens : 48 + m / 10 ≡ 48 + n / 10 = cc in
    let ones : 48 + m % 10 ≡ 48 + n % 10 = cc in
    omega arith

-- two amounts with the same text without a sign are the same
pub unsigned_money_text-injective : (m n : ℕ) → m < 2 ^ 64 → n < 2 ^ 64
    → unsigned_money_text m ≡ unsigned_money_text n → m ≡ n
unsigned_money_text-injective m n p q e =
    let parts = same_parts (decimal (m / 100)) (decimal (n / 100)) (46 ∷ two_digits (m % 100)) (46 ∷ two_digits (n % 100)) refl e in
    let units : m / 100 ≡ n / 100 = decimal_injective (m / 100) (n / 100) (omega arith) (omega arith) parts.0 in
    let digits : two_digits (m % 100) ≡ two_digits (n % 100) = ap (drop 1) parts.1 in
    let hundredths : m % 100 ≡ n % 100 = two_digits-injective (m % 100) (n % 100) digits in
    omega arith

-- a text without a sign begins with a digit
pub unsigned_money_text-first : (n : ℕ) → n < 2 ^ 64 → get_or (unsigned_money_text n) 0 0 ≢ 45
unsigned_money_text-first n p e =
    let small : n / 100 < 2 ^ 64 = omega arith in
    let numeral = decimal_is_IsNumeral (n / 100) small in
    let digit = digit_at (decimal (n / 100)) 0 numeral.0.1 numeral.0.0 in
    let first = get_or_append_left (decimal (n / 100)) (46 ∷ two_digits (n % 100)) 0 0 numeral.0.0 in
    omega (arith, digit, first, e)

-- two amounts with the same text are the same
pub money_text-injective : (a b : ℤ) → FitsSigned w64 a → FitsSigned w64 b → money_text a ≡ money_text b → a ≡ b
money_text-injective (pos m) (pos n) p q e =
    ap pos (unsigned_money_text-injective m n (omega (arith, ints)) (omega (arith, ints)) e)
money_text-injective (pos m) (negsuc n) p q e =
    let small : m < 2 ^ 64 = omega (arith, ints) in
    absurd (unsigned_money_text-first m small (ap (λ bs. get_or bs 0 0) e))
money_text-injective (negsuc m) (pos n) p q e =
    let small : n < 2 ^ 64 = omega (arith, ints) in
    absurd (unsigned_money_text-first n small (ap (λ bs. get_or bs 0 0) (sym e)))
money_text-injective (negsuc m) (negsuc n) p q e =
    let same : suc m ≡ suc n = unsigned_money_text-injective (suc m) (suc n) (omega (arith, ints)) (omega (arith, ints)) (ap (drop 1) e) in
    omega (arith, ints)

-- what the hole `{sign}{units}.{hundredths:02}` writes of an amount from zero on
pub printed-pos : (z : ℤ) (n : ℕ) → pos 0 ≤ℤ z → n ≡ unsigned_abs z
    → decimal (n / 100) ++ (46 ∷ styled_decimal (format_spec 32 0 4 2 (2 ^ 64 - 1)) (n % 100)) ≡ money_text z
printed-pos (pos m) n low same =
    let small : n % 100 < 100 = omega arith in
    rw (styled-two_digits (n % 100) small, same)
printed-pos (negsuc m) n low same = absurd (omega (arith, ints))

-- and below zero
pub printed-neg : (z : ℤ) (n : ℕ) → z <ℤ pos 0 → n ≡ unsigned_abs z
    → 45 ∷ (decimal (n / 100) ++ (46 ∷ styled_decimal (format_spec 32 0 4 2 (2 ^ 64 - 1)) (n % 100))) ≡ money_text z
printed-neg (pos m) n low same = absurd (omega (arith, ints))
printed-neg (negsuc m) n low same =
    let small : n % 100 < 100 = omega arith in
    rw (styled-two_digits (n % 100) small, same)

-- the digits of a number below 10^12: one at least, twelve at most, and no zero in front of others
pub decimal_shape : (ds : List ℕ) (n : ℕ) → n < 1000000000000 → ds ≡ decimal n
    → (0 < length ds) × (length ds ≤ 12) × (get_or ds 0 0 ≡ 48 → length ds ≡ 1)
decimal_shape ds n small e =
    let fits : n < 2 ^ 64 = omega arith in
    let below : n < 10 ^ 12 = omega arith in (
      rw e (decimal_nonempty n fits),
      rw e (length-decimal-le 12 n (omega arith) below fits),
      λ zero_first. ⊎_elim
          (λ none. let none_is : n ≡ 0 = omega arith in rw (e, none_is, decimal_digit 0 (omega arith)))
          (λ some. absurd (omega (arith, first_decimal n some fits, ap (λ bs. get_or bs 0 0) e)))
          (cases_lt n 1),
    )

-- and each is a digit
pub decimal_digit_at : (ds : List ℕ) (n i : ℕ) → n < 1000000000000 → ds ≡ decimal n → i < length ds → IsInRange 48 57 (get_or ds i 0)
decimal_digit_at ds n i small e within =
    let fits : n < 2 ^ 64 = omega arith in
    digit_at ds i (rw e (decimal_is_IsNumeral n fits).0.1) within

-- the first i digits stand for less than 10^k, where i is at most k
pub prefix_below : (ds : List ℕ) (i k : ℕ) → i ≤ k → AllDigits 10 (take i ds) → digits_value 10 (take i ds) < 10 ^ k
prefix_below ds i k short digits =
    let lt = digits_value-lt 10 (take i ds) digits in
    let count : length (take i ds) ≤ k = omega (arith, length-take i ds) in
    let bound : 10 ^ length (take i ds) ≤ 10 ^ k = pow-le-pow_right (omega arith) count in
    omega arith

-- digits with no zero in front of others are the decimal text of what they stand for
pub digits_are_decimal : (ds : List ℕ) → AllDigits 10 ds → 0 < length ds → length ds ≤ 12
    → (get_or ds 0 0 ≡ 48 → length ds ≡ 1) → (ds ≡ decimal (digits_value 10 ds)) × (digits_value 10 ds < 1000000000000)
digits_are_decimal ds digits some short plain =
    let own = numerals_by_value (AllDigits 10) tells_digits in
    let below : digits_value 10 ds < 10 ^ 12 = digits_value_short own ds 12 digits short in
    (sym (decimal-digits_value own ds digits some plain (omega arith)), omega arith)

-- one more digit
pub one_more_digit : (ds : List ℕ) (i : ℕ) → i < length ds → AllDigits 10 (take i ds) → IsInRange 48 57 (get_or ds i 0)
    → AllDigits 10 (take (i + 1) ds) × (digits_value 10 (take (i + 1) ds) ≡ digits_value 10 (take i ds) * 10 + (get_or ds i 0 - 48))
one_more_digit ds i within digits range =
    let value : digit_value (get_or ds i 0) ≡ get_or ds i 0 - 48 = omega (arith, digit_value_digit (get_or ds i 0) range) in
    (digits_more 10 ds i within digits (omega arith), digits_value_more 10 ds i within ∙ ap (λ d. digits_value 10 (take i ds) * 10 + d) value)
