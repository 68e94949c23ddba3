-- The digits of a number of any size.
use Rattle.std.proofs.Common.{◌≡◌, ◌≢◌, ℕ, zero, suc, add-one, ◌+◌, ◌-◌, ◌*◌, ◌<◌, ◌≤◌, ◌^◌, ◌%◌, Bool, true, false, eqb, ◌&&◌, List, [], ◌∷◌, ◌++◌, MatchBool}
use Rattle.std.proofs.Common.{length, get_or, take, map, codes, inl, inr, sym, ap, ◌∙◌, subst, refl, arith, lit<, lit≤}
use Rattle.std.specs.Char.{digit_value, is_ascii_digit}
use Rattle.std.specs.Fmt.{decimal}
use Rattle.std.specs.Int.Digits.{digits_of, number_from_digits, AllBelowBase}
use Rattle.std.specs.List.{list_all}
use Rattle.std.specs.Str.Parse.{AllDigits}
use Rattle.std.proofs.lemmas.Bool.{cases_lt, false_from_ne_true, false≢true}
use Rattle.std.proofs.lemmas.Bool.Decides.{Decides-eqb, nat_tests}
use Rattle.std.proofs.lemmas.Fmt.{decimal-digits_of, decimal_digit}
use Rattle.std.proofs.lemmas.Int.Digits.{digits_of_step, number_more, all_below_base_digits_of, first_digits_of, all_below_base_from_digits}
use Rattle.std.proofs.lemmas.List.{take_more, take_all}
use Rattle.std.proofs.lemmas.List.Elements.{All-from_recursion}
use Rattle.std.proofs.lemmas.Nat.{div-mul-add, mod-mul-add}
use Rattle.std.proofs.lemmas.Str.Parse.{digit_from_value}
use Rattle.program_script_text.specs.Amount.{numeral}

-- one more digit at the end
digits_of_more : (q d : ℕ) (front : List ℕ) → d < 10 → 0 < q * 10 + d → digits_of 10 q ≡ front → digits_of 10 (q * 10 + d) ≡ front ++ (d ∷ [])
digits_of_more q d front small some e =
    digits_of_step 10 (q * 10 + d) (lit≤ tt) some
    ∙ ap (λ k. digits_of 10 k ++ ((q * 10 + d) % 10 ∷ [])) (div-mul-add q 10 d small)
    ∙ ap (λ k. digits_of 10 q ++ (k ∷ [])) (mod-mul-add q 10 d small)
    ∙ ap (λ l. l ++ (d ∷ [])) e

-- the digits up to place i give back themselves
front_digits : (xs : List ℕ) → ((k : ℕ) → k < length xs → get_or xs k 0 < 10) → 0 < get_or xs 0 0 → (i : ℕ) → i < length xs
    → (digits_of 10 (number_from_digits 10 (take (i + 1) xs)) ≡ take (i + 1) xs) × (0 < number_from_digits 10 (take (i + 1) xs))
front_digits xs small first zero within =
    let more = number_more 10 xs 0 within in
    let some : 0 < 0 * 10 + get_or xs 0 0 = omega arith in
    (ap (digits_of 10) more ∙ digits_of_more 0 (get_or xs 0 0) [] (small 0 within) some refl ∙ sym (take_more xs 0 0 within), omega (arith, more))
front_digits xs small first (suc i) within =
    let before = front_digits xs small first i (omega arith) in
    let more : number_from_digits 10 (take (suc i + 1) xs) ≡ number_from_digits 10 (take (i + 1) xs) * 10 + get_or xs (suc i) 0 =
    number_more 10 xs (suc i) within ∙ ap (λ k. number_from_digits 10 (take k xs) * 10 + get_or xs (suc i) 0) (sym (add-one i)) in
    let some : 0 < number_from_digits 10 (take (i + 1) xs) * 10 + get_or xs (suc i) 0 = omega (arith, before.1) in (
      ap (digits_of 10) more ∙ digits_of_more _ (get_or xs (suc i) 0) (take (i + 1) xs) (small (suc i) within) some before.0
          ∙ sym (take_more xs (suc i) 0 within ∙ ap (λ k. take k xs ++ (get_or xs (suc i) 0 ∷ [])) (sym (add-one i))),
      omega (arith, more, some),
    )

digits_of_number : (xs : List ℕ) → AllBelowBase 10 xs → 0 < length xs → 0 < get_or xs 0 0 → (digits_of 10 (number_from_digits 10 xs) ≡ xs)
    × (0 < number_from_digits 10 xs)
digits_of_number xs small some first =
    let all = front_digits xs (λ k within. All-from_recursion (λ d. d < 10) xs small k 0 within) first (length xs - 1) (omega arith) in
    let whole : take (length xs - 1 + 1) xs ≡ xs = take_all (length xs - 1 + 1) xs (omega arith) in
    (subst (λ l. digits_of 10 (number_from_digits 10 l) ≡ l) whole all.0, subst (λ l. 0 < number_from_digits 10 l) whole all.1)

glyph_of_value : (c : ℕ) → digit_value c < 10 → 48 + digit_value c ≡ c
glyph_of_value c small = let range = digit_from_value c small in grind (arith, nat_tests)

glyphs_of_values : (ds : List ℕ) → AllDigits 10 ds → map (λ d. 48 + d) (map digit_value ds) ≡ ds
glyphs_of_values [] h = refl
glyphs_of_values (c ∷ cs) h = ap (λ b. b ∷ map (λ d. 48 + d) (map digit_value cs)) (glyph_of_value c h.0) ∙ ap (λ l. c ∷ l) (glyphs_of_values cs h.1)

value_of_glyph : (d : ℕ) → d < 10 → digit_value (48 + d) < 10
value_of_glyph d small = grind (arith, nat_tests)

digits_from_below : (xs : List ℕ) → AllBelowBase 10 xs → AllDigits 10 (map (λ d. 48 + d) xs)
digits_from_below [] h = tt
digits_from_below (d ∷ ds) h = (value_of_glyph d h.0, digits_from_below ds h.1)

-- how a numeral looks: digits, with no zero in front of others
pub record IsNumeralText (ds : List ℕ) : Type 0 where
  pub some : 0 < length ds
  pub are_digits : AllDigits 10 ds
  pub no_zero : get_or ds 0 0 ≡ 48 → length ds ≡ 1

pub numeral_of_some : (n : ℕ) → 0 < n → numeral n ≡ map (λ d. 48 + d) (digits_of 10 n)
unfolding numeral
numeral_of_some n some = let no : eqb n 0 ≡ false = false_from_ne_true _ (λ e. let zero_n : n ≡ 0 = (Decides-eqb n 0).0 e in omega arith) in rw no refl

pub numeral_zero : numeral 0 ≡ codes "0"
unfolding numeral
numeral_zero = refl

pub length-zero : (xs : List ℕ) → length xs ≡ 0 → xs ≡ []
length-zero [] e = refl
length-zero (x ∷ xs) e = absurd (omega arith)

pub and_left : (a b : Bool) → (a && b) ≡ true → a ≡ true
and_left true b e = refl
and_left false b e = e

pub and_right : (a b : Bool) → (a && b) ≡ true → b ≡ true
and_right true b e = e
and_right false b e = absurd (false≢true e)

and_both : (a b : Bool) → a ≡ true → b ≡ true → (a && b) ≡ true
and_both a b e f = rw e f

value_from_test : (c : ℕ) → is_ascii_digit c ≡ true → digit_value c < 10
value_from_test c e = grind (arith, nat_tests)

test_from_value : (c : ℕ) → digit_value c < 10 → is_ascii_digit c ≡ true
test_from_value c small = let range = digit_from_value c small in grind (arith, nat_tests)

-- such a text is the numeral of some number
pub numeral_from_text : (ds : List ℕ) → IsNumeralText ds → (n : ℕ) × (ds ≡ numeral n)
numeral_from_text [] h = absurd (omega (arith, h.some))
numeral_from_text (c ∷ cs) h =
    elim (cases_lt 0 (digit_value c)) [
      | inl above ↦ let number = digits_of_number (map digit_value (c ∷ cs)) (all_below_base_from_digits 10 (c ∷ cs) h.are_digits) (omega arith) above in (
        number_from_digits 10 (map digit_value (c ∷ cs)),
        sym
            (numeral_of_some _ number.1 ∙ ap (map (λ d. 48 + d)) number.0 ∙ glyphs_of_values (c ∷ cs) h.are_digits),
      )
      | inr none ↦ let glyph = glyph_of_value c h.are_digits.0 in
          let nought : c ≡ 48 = omega arith in
          let alone : cs ≡ [] = length-zero cs (omega (arith, h.no_zero nought)) in
          (0, ap (λ b. b ∷ cs) nought ∙ ap (λ l. 48 ∷ l) alone ∙ sym numeral_zero)
    ]

glyphs_are_text : (xs : List ℕ) → AllBelowBase 10 xs → 0 < get_or xs 0 0 → IsNumeralText (map (λ d. 48 + d) xs)
glyphs_are_text [] small first = absurd (omega arith)
glyphs_are_text (d ∷ ds) small first = record {
  some = omega arith;
  are_digits = digits_from_below (d ∷ ds) small;
  no_zero = λ e. absurd (omega arith);
}

-- and a numeral is such a text
pub text_from_numeral : (n : ℕ) → IsNumeralText (numeral n)
text_from_numeral zero = rw numeral_zero (record { some = lit< tt; are_digits = (lit< tt, tt); no_zero = λ _. refl })
text_from_numeral (suc n) =
    let some : 0 < suc n = omega arith in
    rw (numeral_of_some (suc n) some)
    (glyphs_are_text (digits_of 10 (suc n)) (all_below_base_digits_of 10 (suc n) (lit≤ tt)) (first_digits_of 10 (suc n) (lit≤ tt) some))

-- only 0 begins with a zero
pub zero_from_first : (n : ℕ) → get_or (numeral n) 0 0 ≡ 48 → n ≡ 0
zero_from_first zero e = refl
zero_from_first (suc n) e =
    absurd (go (digits_of 10 (suc n)) (first_digits_of 10 (suc n) (lit≤ tt) (omega arith)) (sym (ap (λ l. get_or l 0 0) (numeral_of_some (suc n) (omega arith)))
    ∙ e))
  where
    go : (xs : List ℕ) → 0 < get_or xs 0 0 → get_or (map (λ d. 48 + d) xs) 0 0 ≡ 48 → Prim.⊥
    go [] first is = omega arith
    go (d ∷ ds) first is = omega arith

-- up to 64 bits a numeral is what `{}` writes
pub numeral_is_decimal : (n : ℕ) → n < 2 ^ 64 → numeral n ≡ decimal n
numeral_is_decimal zero small = numeral_zero ∙ sym (decimal_digit 0 (lit< tt))
numeral_is_decimal (suc n) small = numeral_of_some (suc n) (omega arith) ∙ sym (decimal-digits_of (suc n) (omega arith) small)

-- what the code's test of each byte says
pub digits_from_test : (ds : List ℕ) → list_all is_ascii_digit ds ≡ true → AllDigits 10 ds
digits_from_test [] e = tt
digits_from_test (c ∷ cs) e = let first : is_ascii_digit c ≡ true = and_left _ _ e in (value_from_test c first, digits_from_test cs (and_right _ _ e))

pub test_from_digits : (ds : List ℕ) → AllDigits 10 ds → list_all is_ascii_digit ds ≡ true
test_from_digits [] h = refl
test_from_digits (c ∷ cs) h = and_both _ _ (test_from_value c h.0) (test_from_digits cs h.1)

-- what the test of a word says
pub numeral_answer : (word : List ℕ) (b : Bool) → b ≡ list_all is_ascii_digit word → 0 < length word → (get_or word 0 0 ≡ 48 → length word ≡ 1)
    → MatchBool b ((n : ℕ) × (word ≡ numeral n)) ((n : ℕ) → word ≢ numeral n)
numeral_answer word true e some alone = numeral_from_text word (record { some = some; are_digits = digits_from_test word (sym e); no_zero = alone })
numeral_answer word false e some alone = λ n is.
    let digits = subst (AllDigits 10) (sym is) (text_from_numeral n).are_digits in
    false≢true (e ∙ test_from_digits word digits)

-- no numeral is empty, or has a zero in front of others
pub no_numeral : (word : List ℕ) → (0 < length word → (get_or word 0 0 ≡ 48) × (2 ≤ length word)) → (n : ℕ) → word ≢ numeral n
no_numeral word wrong n is =
    let text = subst IsNumeralText (sym is) (text_from_numeral n) in
    let bad = wrong text.some in
    omega (arith, text.no_zero bad.0, bad.1)
