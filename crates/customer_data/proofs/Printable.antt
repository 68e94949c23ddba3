-- What a Payment puts at the left of a text is printable, and so the text stays one.
use Rattle.std.proofs.Common.{ℕ, zero, suc, ◌+◌, ◌/◌, ◌%◌, ◌<◌, ◌≤◌, ◌==◌, true, false, List, [], ◌∷◌, ◌++◌, All, sym, ap, subst, arith, length-append}
use Rattle.std.specs.Bool.{if◌then◌else◌}
use Rattle.std.specs.Prelude.{ℤ, pos, negsuc, codes}
use Rattle.std.specs.Str.{IsAscii}
use Rattle.std.specs.Fmt.{decimal, digits, digits_onto, digit_glyph}
use Rattle.std.proofs.lemmas.Bool.{lt-ltb}
use Rattle.std.proofs.lemmas.List.{length-take, length-replicate}
use Rattle.std.proofs.lemmas.List.Elements.{All-append, All-cons, All-head, All-nil, All-replicate, All-tail, All-take}
use Rattle.money.specs.Money.{money_text, unsigned_money_text, two_digits}
use Rattle.customer_data.specs.Text.{IsData, put_left, first_text}
use Rattle.customer_data.specs.Payments.{payment_text}
use Rattle.customer_data.specs.declared.payments.PaymentText.{PaymentText}

abbrev pub IsPrintable : ℕ → Type 0
IsPrintable b = (32 ≤ b) × (b ≤ 126)

digit_printable : (d : ℕ) → d < 10 → IsPrintable (digit_glyph false d)
digit_printable d small = subst IsPrintable (sym (ap (λ b. if b then 48 + d else 87 + d) (lt-ltb d 10 small))) (omega (arith, small), omega (arith, small))

digits_printable : (k n : ℕ) (acc : List ℕ) → All IsPrintable acc → All IsPrintable (digits_onto k 10 false n acc)
digits_printable zero n acc all = all
digits_printable (suc k) n acc all =
    let more = All-cons IsPrintable (digit_glyph false (n % 10)) acc (digit_printable (n % 10) (omega arith)) all in
    elim (n / 10 == 0) as (λ b. All IsPrintable (if b then digit_glyph false (n % 10) ∷ acc else digits_onto k 10 false (n / 10) (digit_glyph false (n % 10) ∷ acc))) [
      | true ↦ more
      | false ↦ digits_printable k (n / 10) (digit_glyph false (n % 10) ∷ acc) more
    ]

decimal_printable : (n : ℕ) → All IsPrintable (decimal n)
unfolding digits
decimal_printable n = digits_printable 64 n [] (All-nil IsPrintable)

one_printable : (b : ℕ) → 32 ≤ b → b ≤ 126 → All IsPrintable (b ∷ [])
one_printable b low high = All-cons IsPrintable b [] (low, high) (All-nil IsPrintable)

unsigned_printable : (n : ℕ) → All IsPrintable (unsigned_money_text n)
unsigned_printable n = All-append IsPrintable (decimal (n / 100)) (codes "." ++ two_digits (n % 100)) (decimal_printable (n / 100))
    (All-append IsPrintable (codes ".") (two_digits (n % 100)) (one_printable 46 (omega arith) (omega arith))
    (All-cons IsPrintable (48 + n % 100 / 10) ((48 + n % 100 % 10) ∷ []) (omega arith, omega arith) (one_printable (48 + n % 100 % 10) (omega arith) (omega arith))))

money_printable : (z : ℤ) → All IsPrintable (money_text z)
money_printable (pos n) = unsigned_printable n
money_printable (negsuc n) = All-append IsPrintable (codes "-") (unsigned_money_text (suc n)) (one_printable 45 (omega arith) (omega arith)) (unsigned_printable (suc n))

-- a number with a blank behind it, and then more
number_printable : (n : ℕ) (rest : List ℕ) → All IsPrintable rest → All IsPrintable (decimal n ++ (codes " " ++ rest))
number_printable n rest all = All-append IsPrintable (decimal n) (codes " " ++ rest) (decimal_printable n)
    (All-append IsPrintable (codes " ") rest (one_printable 32 (omega arith) (omega arith)) all)

payment_printable : (p : PaymentText) → All IsPrintable (payment_text p)
payment_printable p = number_printable p.customer _ (number_printable p.customer_district _ (number_printable p.customer_warehouse _
    (number_printable p.district _ (number_printable p.warehouse _
    (All-append IsPrintable (money_text p.amount) (codes "|") (money_printable p.amount) (one_printable 124 (omega arith) (omega arith)))))))

-- a printable text at the left
pub put_left_is : (front text : List ℕ) → All IsPrintable front → IsData text → IsData (put_left front text)
put_left_is front text printable is =
    let all = front ++ text in
    let long = length-append front text in
    let cut = length-take 500 all in
    record {
      at_least = omega (arith, long, cut, is.at_least);
      at_most = omega (arith, cut);
      printable = All-take IsPrintable 500 all (All-append IsPrintable front text printable is.printable);
    }

pub kept : (p : PaymentText) (text : List ℕ) → IsData text → IsData (put_left (payment_text p) text)
kept p text is = put_left_is (payment_text p) text (payment_printable p) is

pub first_is : IsData first_text
first_is = record {
  at_least = omega (arith, length-replicate {A = ℕ} 300 120);
  at_most = omega (arith, length-replicate {A = ℕ} 300 120);
  printable = All-replicate IsPrintable 300 120 (omega arith, omega arith);
}

pub printable_ascii : (bs : List ℕ) → All IsPrintable bs → IsAscii bs
printable_ascii [] all i = omega arith
printable_ascii (b ∷ bs) all zero = omega (arith, (All-head IsPrintable b bs all).1)
printable_ascii (b ∷ bs) all (suc i) = printable_ascii bs (All-tail IsPrintable b bs all) i
