-- The text of an amount of any size.
use Rattle.std.proofs.Common.{◌≡◌, ◌≢◌, ℕ, zero, suc, ◌+◌, ◌-◌, ◌*◌, ◌<◌, ◌≤◌, ◌/◌, ◌%◌, Bool, true, false, eqb, not, List, [], ◌∷◌, ◌++◌, length}
use Rattle.std.proofs.Common.{length-append, get_or, take, drop, codes, ℤ, pos, negsuc, IsUtf8, MatchBool, sym, ap, ◌∙◌, subst, refl, arith, lit<}
use Rattle.std.specs.List.{AllByRecursion}
use Rattle.std.specs.Str.Parse.{AllDigits}
use Rattle.std.proofs.lemmas.Bool.{true≢false, not-false}
use Rattle.std.proofs.lemmas.List.{take_at, drop_at, take-append-drop}
use Rattle.std.proofs.lemmas.List.Elements.{All-from_recursion}
use Rattle.std.proofs.lemmas.Nat.{div-mul-add, mod-mul-add}
use Rattle.std.proofs.lemmas.Str.{IsUtf8-from_ascii}
use Rattle.std.proofs.lemmas.Str.Ascii.{IsAscii-from_all}
use Rattle.std.proofs.lemmas.Slice.{first_rest}
use Rattle.std.proofs.lemmas.Slice.Eq.{bytes_eq-Decides}
use Rattle.std.specs.Cmp.Lexicographic.{pointwise}
use Rattle.std.proofs.lemmas.Str.Parse.{digit_from_value, digit_at}
use Rattle.money.specs.Money.{two_digits, money_text, IsWithinLimit}
use Rattle.program_script_text.specs.Amount.{numeral, unsigned_amount_text, amount_text}
use Rattle.program_script_text.proofs.Numerals.{text_from_numeral, zero_from_first, numeral_is_decimal, numeral_zero}
use Rattle.program_script_text.proofs.Spaces.{HasNoSpace, not_space}

-- a byte above a space and below 128
abbrev pub IsPrintable : ℕ → Type 0
IsPrintable b = (32 < b) × (b < 128)

printable_append : (xs ys : List ℕ) → AllByRecursion IsPrintable xs → AllByRecursion IsPrintable ys → AllByRecursion IsPrintable (xs ++ ys)
printable_append [] ys h i = i
printable_append (x ∷ xs) ys h i = (h.0, printable_append xs ys h.1 i)

printable_digits : (ds : List ℕ) → AllDigits 10 ds → AllByRecursion IsPrintable ds
printable_digits [] h = tt
printable_digits (c ∷ cs) h = let range = digit_from_value c h.0 in ((omega arith, omega arith), printable_digits cs h.1)

printable_unsigned : (n : ℕ) → AllByRecursion IsPrintable (unsigned_amount_text n)
printable_unsigned n =
    printable_append (numeral (n / 100)) (codes "." ++ two_digits (n % 100)) (printable_digits _ (text_from_numeral (n / 100)).are_digits)
    ((lit< tt, lit< tt), ((omega arith, omega arith), ((omega arith, omega arith), tt)))

pub printable_amount : (z : ℤ) → AllByRecursion IsPrintable (amount_text z)
printable_amount (pos n) = printable_unsigned n
printable_amount (negsuc n) = ((lit< tt, lit< tt), printable_unsigned (suc n))

printable_no_space : (xs : List ℕ) → AllByRecursion IsPrintable xs → HasNoSpace xs
printable_no_space [] h = tt
printable_no_space (x ∷ xs) h = (not_space x h.0.0, printable_no_space xs h.1)

ascii_printable : (xs : List ℕ) → AllByRecursion IsPrintable xs → AllByRecursion (λ b. b < 128) xs
ascii_printable [] h = tt
ascii_printable (x ∷ xs) h = (h.0.1, ascii_printable xs h.1)

-- an amount's text is one word
pub amount_no_space : (z : ℤ) → HasNoSpace (amount_text z)
amount_no_space z = printable_no_space (amount_text z) (printable_amount z)

-- an amount's text is text
pub utf8_amount : (word : List ℕ) (z : ℤ) → word ≡ amount_text z → IsUtf8 word
utf8_amount word z e = subst IsUtf8 (sym e)
    (IsUtf8-from_ascii _ (IsAscii-from_all _ (All-from_recursion (λ b. b < 128) (amount_text z) (ascii_printable _ (printable_amount z)))))

-- units and cents, put together
pub unsigned_from_parts : (units cents : List ℕ) (m n : ℕ) → units ≡ numeral m → n < 100 → cents ≡ codes "." ++ two_digits n → units
    ++ cents ≡ unsigned_amount_text (m * 100 + n)
unsigned_from_parts units cents m n u small e =
    ap (λ l. l ++ cents) u ∙ ap (λ l. numeral m ++ l) e
    ∙ sym (ap (λ k. numeral k ++ (codes "." ++ two_digits ((m * 100 + n) % 100))) (div-mul-add m 100 n small)
    ∙ ap (λ k. numeral m ++ (codes "." ++ two_digits k)) (mod-mul-add m 100 n small))

-- and taken apart
pub units_of : (word : List ℕ) (n : ℕ) → word ≡ unsigned_amount_text n → take (length word - 3) word ≡ numeral (n / 100)
units_of word n e =
    let long : length word ≡ length (numeral (n / 100)) + 3 = ap length e ∙ length-append (numeral (n / 100)) _ in
    ap (take (length word - 3)) e ∙ take_at (numeral (n / 100)) _ (length word - 3) (omega arith)

pub cents_of : (word : List ℕ) (n : ℕ) → word ≡ unsigned_amount_text n → drop (length word - 3) word ≡ codes "." ++ two_digits (n % 100)
cents_of word n e =
    let long : length word ≡ length (numeral (n / 100)) + 3 = ap length e ∙ length-append (numeral (n / 100)) _ in
    ap (drop (length word - 3)) e ∙ drop_at (numeral (n / 100)) _ (length word - 3) (omega arith)

pub long_amount : (word : List ℕ) (n : ℕ) → word ≡ unsigned_amount_text n → 3 ≤ length word
long_amount word n e = omega (arith, ap length e ∙ length-append (numeral (n / 100)) (codes "." ++ two_digits (n % 100)))

-- the first byte is a digit
first_unsigned : (n : ℕ) → get_or (unsigned_amount_text n) 0 0 ≡ get_or (numeral (n / 100)) 0 0
first_unsigned n = go (numeral (n / 100)) (text_from_numeral (n / 100)).some
  where
    go : (xs : List ℕ) → 0 < length xs → get_or (xs ++ (codes "." ++ two_digits (n % 100))) 0 0 ≡ get_or xs 0 0
    go [] some = absurd (omega arith)
    go (x ∷ xs) some = refl

pub no_sign : (n : ℕ) → get_or (unsigned_amount_text n) 0 0 ≢ 45
no_sign n e =
    let text = text_from_numeral (n / 100) in
    let range = digit_at (numeral (n / 100)) 0 text.are_digits text.some in
    omega (arith, first_unsigned n, range)

pub text_of_zero : unsigned_amount_text 0 ≡ codes "0.00"
text_of_zero = ap (λ l. l ++ codes ".00") numeral_zero

-- only no cents at all have that text
pub zero_from_text : (n : ℕ) → unsigned_amount_text n ≡ codes "0.00" → n ≡ 0
zero_from_text n e =
    let no_units : n / 100 ≡ 0 = zero_from_first (n / 100) (sym (first_unsigned n) ∙ ap (λ l. get_or l 0 0) e) in
    let short : codes "0" ++ (codes "." ++ two_digits (n % 100)) ≡ codes "0.00" =
    sym (ap (λ l. l ++ (codes "." ++ two_digits (n % 100))) (ap numeral no_units ∙ numeral_zero)) ∙ e in
    let tens : 48 + n % 100 / 10 ≡ 48 = ap (λ l. get_or l 2 0) short in
    let ones : 48 + n % 100 % 10 ≡ 48 = ap (λ l. get_or l 3 0) short in
    omega arith

-- within the limit it is the text that `Cents` prints
pub amount_is_money : (z : ℤ) → IsWithinLimit z → amount_text z ≡ money_text z
amount_is_money (pos n) small = ap (λ l. l ++ (codes "." ++ two_digits (n % 100))) (numeral_is_decimal (n / 100) (omega arith))
amount_is_money (negsuc n) small = ap (λ l. codes "-" ++ (l ++ (codes "." ++ two_digits (suc n % 100)))) (numeral_is_decimal (suc n / 100) (omega arith))

-- what stands behind a minus
pub behind_minus : (word : List ℕ) → 1 ≤ length word → get_or word 0 0 ≡ 45 → word ≡ 45 ∷ take (length word - 1) (drop 1 word)
behind_minus word some minus = first_rest word 0 (omega arith) ∙ ap (λ b. b ∷ take (length word - 1) (drop 1 word)) minus

negative_text : (word rest : List ℕ) → word ≡ 45 ∷ rest → (z : ℤ) → word ≡ amount_text z → (k : ℕ) × (rest ≡ unsigned_amount_text (suc k))
negative_text word rest minus (pos n) e = absurd (no_sign n (sym (ap (λ l. get_or l 0 0) (sym minus ∙ e))))
negative_text word rest minus (negsuc k) e = (k, ap (drop 1) (sym minus ∙ e))

-- a minus before what is no amount
pub no_negative : (word rest : List ℕ) → word ≡ 45 ∷ rest → ((n : ℕ) → rest ≢ unsigned_amount_text n) → (z : ℤ) → word ≢ amount_text z
no_negative word rest minus none z e = let text = negative_text word rest minus z e in none (suc text.0) text.1

-- a minus before an amount
pub negative_answer : (word rest nought : List ℕ) (b : Bool) → word ≡ 45 ∷ rest → (n : ℕ) × (rest ≡ unsigned_amount_text n) → nought ≡ codes "0.00"
    → b ≡ not (pointwise eqb rest nought) → MatchBool b ((z : ℤ) × (word ≡ amount_text z)) ((z : ℤ) → word ≢ amount_text z)
negative_answer word rest nought true minus (zero, e) zeros test =
    let same : pointwise eqb rest nought ≡ true = (bytes_eq-Decides rest nought).1 (e ∙ text_of_zero ∙ sym zeros) in absurd (true≢false (test ∙ ap not same))
negative_answer word rest nought true minus (suc k, e) zeros test = (negsuc k, minus ∙ ap (λ l. 45 ∷ l) e)
negative_answer word rest nought false minus (n, e) zeros test = λ z is.
    let text = negative_text word rest minus z is in
    let same : rest ≡ nought = (bytes_eq-Decides rest nought).0 (not-false _ (sym test)) in
    let none : suc text.0 ≡ 0 = zero_from_text (suc text.0) (sym text.1 ∙ same ∙ zeros) in omega arith

no_plain : (word : List ℕ) → get_or word 0 0 ≢ 45 → ((n : ℕ) → word ≢ unsigned_amount_text n) → (z : ℤ) → word ≢ amount_text z
no_plain word plain none (pos n) e = none n e
no_plain word plain none (negsuc k) e = plain (ap (λ l. get_or l 0 0) e)

-- a word without a minus
pub plain_answer : (word : List ℕ) (b : Bool) → get_or word 0 0 ≢ 45
    → MatchBool b ((n : ℕ) × (word ≡ unsigned_amount_text n)) ((n : ℕ) → word ≢ unsigned_amount_text n)
    → MatchBool b ((z : ℤ) × (word ≡ amount_text z)) ((z : ℤ) → word ≢ amount_text z)
plain_answer word true plain (n, e) = (pos n, e)
plain_answer word false plain none = λ z. no_plain word plain none z

-- units and cents that were tested
pub unsigned_answer : (word units cents : List ℕ) (b : Bool) → 3 ≤ length word → units ≡ take (length word - 3) word → cents ≡ drop (length word - 3) word
    → (n : ℕ) × (units ≡ numeral n) → MatchBool b ((n : ℕ) × (n < 100) × (cents ≡ codes "." ++ two_digits n))
    ((n : ℕ) → n < 100 → cents ≢ codes "." ++ two_digits n)
    → MatchBool b ((n : ℕ) × (word ≡ unsigned_amount_text n)) ((n : ℕ) → word ≢ unsigned_amount_text n)
unsigned_answer word units cents true long front back (m, u) (n, small, e) = (
  m * 100 + n,
  sym (take-append-drop (length word - 3) word) ∙ ap (λ l. l ++ drop (length word - 3) word) (sym front) ∙ ap (λ l. units ++ l) (sym back)
      ∙ unsigned_from_parts units cents m n u small e,
)
unsigned_answer word units cents false long front back u none = λ n is. none (n % 100) (omega arith) (back ∙ cents_of word n is)

-- three bytes that are a point and two digits
pub cents_from_bytes : (bs : List ℕ) → length bs ≡ 3 → get_or bs 0 0 ≡ 46 → (48 ≤ get_or bs 1 0) × (get_or bs 1 0 ≤ 57) → (48 ≤ get_or bs 2 0)
    × (get_or bs 2 0 ≤ 57) → (n : ℕ) × (n < 100) × (bs ≡ codes "." ++ two_digits n)
cents_from_bytes [] long point tens ones = absurd (omega arith)
cents_from_bytes (p ∷ []) long point tens ones = absurd (omega arith)
cents_from_bytes (p ∷ t ∷ []) long point tens ones = absurd (omega arith)
cents_from_bytes (p ∷ t ∷ o ∷ []) long point tens ones =
    let n : ℕ = (t - 48) * 10 + (o - 48) in
    let is_t : t ≡ 48 + n / 10 = omega arith in
    let is_o : o ≡ 48 + n % 10 = omega arith in
    (n, omega arith, ap (λ b. b ∷ t ∷ o ∷ []) point ∙ ap (λ b. 46 ∷ b ∷ o ∷ []) is_t ∙ ap (λ b. 46 ∷ (48 + n / 10) ∷ b ∷ []) is_o)
cents_from_bytes (p ∷ t ∷ o ∷ more ∷ others) long point tens ones = absurd (omega arith)
