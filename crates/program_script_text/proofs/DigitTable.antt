-- The table of digits, and a number's text by its last three digits.
use Rattle.std.proofs.Common.{◌≡◌, ℕ, zero, suc, ◌+◌, ◌*◌, ◌/◌, ◌%◌, ◌<◌, ◌≤◌, ◌^◌, true, List, [], ◌∷◌, ◌++◌, take, drop, nat_lt, IsAscii}
use Rattle.std.proofs.Common.{refl, ap, ◌∙◌, arith, append_assoc}
use Rattle.std.proofs.lemmas.Bool.{ltb-true, and_parts}
use Rattle.std.proofs.lemmas.Fmt.{decimal_digit, decimal_step}
use Rattle.std.proofs.lemmas.Str.Ascii.{IsAscii-cons, IsAscii-nil}
use Rattle.std.specs.Fmt.{decimal}
use Rattle.std.specs.List.{list_all}
use Rattle.money.specs.Money.{two_digits}
use Rattle.program_script_text.specs.Digits.{three_digits}
use Rattle.program_script_text.specs.declared.digits.TheConstants.{THREES}

-- the digits of so many numbers, from the first on
abbrev digits_from : ℕ → ℕ → List ℕ
digits_from first zero = []
digits_from first (suc n) = three_digits first ++ digits_from (first + 1) n

table_is : THREES.now ≡ digits_from 0 1000
table_is = refl

three_from : (n first i : ℕ) → i < n → take 3 (drop (i * 3) (digits_from first n)) ≡ three_digits (first + i)
three_from zero first i h = absurd (omega arith)
three_from (suc n) first zero h = let e : first ≡ first + zero = omega arith in ap three_digits e
three_from (suc n) first (suc i) h =
    let place : suc i * 3 ≡ suc (suc (suc (i * 3))) = omega arith in
    let number : first + 1 + i ≡ first + suc i = omega arith in
    rw place (three_from n (first + 1) i (omega arith) ∙ ap three_digits number)

-- the last two of three digits
abbrev last_two : ℕ → List ℕ
last_two n = (48 + n / 10 % 10) ∷ (48 + n % 10) ∷ []

two_from : (n first i : ℕ) → i < n → take 2 (drop (i * 3 + 1) (digits_from first n)) ≡ last_two (first + i)
two_from zero first i h = absurd (omega arith)
two_from (suc n) first zero h = let e : first ≡ first + zero = omega arith in ap last_two e
two_from (suc n) first (suc i) h =
    let place : suc i * 3 + 1 ≡ suc (suc (suc (i * 3 + 1))) = omega arith in
    let number : first + 1 + i ≡ first + suc i = omega arith in
    rw place (two_from n (first + 1) i (omega arith) ∙ ap last_two number)

-- what stands in the table at a number's place
pub three_at : (n : ℕ) → n < 1000 → take 3 (drop (n * 3) THREES.now) ≡ three_digits n
three_at n h =
    let same : 0 + n ≡ n = omega arith in
    ap (λ (t : List ℕ). take 3 (drop (n * 3) t)) table_is ∙ three_from 1000 0 n h ∙ ap three_digits same

pub two_at : (n : ℕ) → n < 100 → take 2 (drop (n * 3 + 1) THREES.now) ≡ two_digits n
two_at n h =
    let same : 0 + n ≡ n = omega arith in
    let tens : n / 10 % 10 ≡ n / 10 = omega arith in
    ap (λ (t : List ℕ). take 2 (drop (n * 3 + 1) t)) table_is ∙ two_from 1000 0 n (omega arith)
    ∙ ap last_two same ∙ ap (λ (d : ℕ). (48 + d) ∷ (48 + n % 10) ∷ []) tens

ascii_from : (bs : List ℕ) → list_all (λ b. nat_lt b 128) bs ≡ true → IsAscii bs
ascii_from [] e = IsAscii-nil
ascii_from (b ∷ bs) e =
    let parts = and_parts _ _ e in
    IsAscii-cons b bs (ltb-true b 128 parts.0) (ascii_from bs parts.1)

pub IsAscii-table : IsAscii THREES.now
IsAscii-table = ascii_from THREES.now refl

-- the text of a number of two digits, of three, and of more
pub decimal_two : (n : ℕ) → 10 ≤ n → n < 100 → decimal n ≡ two_digits n
decimal_two n low high = rw (decimal_step n low (omega arith), decimal_digit (n / 10) (omega arith)) refl

pub decimal_three : (n : ℕ) → 100 ≤ n → n < 1000 → decimal n ≡ three_digits n
decimal_three n low high =
    let a : n / 10 / 10 ≡ n / 100 = omega arith in
    rw (decimal_step n (omega arith) (omega arith), decimal_step (n / 10) (omega arith) (omega arith), decimal_digit (n / 10 / 10) (omega arith), a) refl

pub decimal_more : (n : ℕ) → 1000 ≤ n → n < 2 ^ 64 → decimal n ≡ decimal (n / 1000) ++ three_digits (n % 1000)
decimal_more n low high =
    let a : n / 10 / 10 / 10 ≡ n / 1000 = omega arith in
    let b : n / 10 / 10 % 10 ≡ n % 1000 / 100 = omega arith in
    let c : n / 10 % 10 ≡ n % 1000 / 10 % 10 = omega arith in
    let d : n % 10 ≡ n % 1000 % 10 = omega arith in
    rw (decimal_step n (omega arith) high, decimal_step (n / 10) (omega arith) (omega arith), decimal_step (n / 10 / 10) (omega arith) (omega arith), append_assoc, append_assoc, a, b, c, ← d) refl

-- the text of a number of at most three digits
pub ruleset short_decimals = (decimal_digit, decimal_two, decimal_three)
