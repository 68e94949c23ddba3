-- The text of an amount of money of any size.
use Rattle.std.specs.Prelude.{ℕ, suc, ◌+◌, ◌/◌, ◌%◌, ℤ, pos, negsuc, List, ◌++◌, codes, map, ◌==◌, if◌then◌else◌}
use Rattle.std.specs.Int.Digits.{digits_of}
use Rattle.money.specs.Money.{two_digits}

-- the digits of a number of any size, with no zero in front
unfoldable pub numeral : ℕ → List ℕ
numeral n = if n == 0 then codes "0" else map (λ d. 48 + d) (digits_of 10 n)

-- this many cents as whole units, a point and two digits
abbrev pub unsigned_amount_text : ℕ → List ℕ
unsigned_amount_text n = numeral (n / 100) ++ (codes "." ++ two_digits (n % 100))

-- the text of an amount of any size; within the limit it is `money_text`
abbrev pub amount_text : ℤ → List ℕ
amount_text (pos n) = unsigned_amount_text n
amount_text (negsuc n) = codes "-" ++ unsigned_amount_text (suc n)
