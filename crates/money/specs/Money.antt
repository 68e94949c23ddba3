use Rattle.std.specs.Prelude.{◌≡◌, ℕ, suc, ◌+◌, ◌/◌, ◌%◌, ◌≤◌, ℤ, pos, negsuc, unsigned_abs, List, [], ◌∷◌, ◌++◌, codes}
use Rattle.std.specs.Fmt.{decimal}
use Rattle.money.specs.declared.cents.TheConstants.{MAX_MONEY}

-- the two decimal digits of a number below a hundred
abbrev pub two_digits : ℕ → List ℕ
two_digits n = (48 + n / 10) ∷ (48 + n % 10) ∷ []

-- this many cents as whole units, a point and two digits
abbrev pub unsigned_money_text : ℕ → List ℕ
unsigned_money_text n = decimal (n / 100) ++ (codes "." ++ two_digits (n % 100))

-- the one text of an amount in cents
abbrev pub money_text : ℤ → List ℕ
money_text (pos n) = unsigned_money_text n
money_text (negsuc n) = codes "-" ++ unsigned_money_text (suc n)

-- at most 10,000,000,000,000 cents from zero
abbrev pub IsWithinLimit : ℤ → Type 0
IsWithinLimit z = unsigned_abs z ≤ unsigned_abs MAX_MONEY

-- the text is the money text of an amount within the limit
abbrev pub IsMoneyText : List ℕ → ℤ → Type 0
IsMoneyText text z = (text ≡ money_text z) × IsWithinLimit z
