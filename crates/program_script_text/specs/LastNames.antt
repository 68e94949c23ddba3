-- How a line names a customer: by its number, or by its last name.
use Rattle.std.specs.Prelude.{ℕ, ◌<◌, ◌^◌, ◌/◌, ◌%◌, List, [], ◌∷◌, ◌++◌, get_or, codes}
use Rattle.std.specs.Fmt.{decimal}
use Rattle.tables.specs.declared.limits.TheConstants.{LAST_NAMES}
use Rattle.tables.specs.declared.customer.Who.{Who}
use Rattle.tables.specs.declared.customer.Who.TheVariants.{Id, Last}

-- the syllables of last names, of the digits 0 to 9 (TPC-C 4.3.2.3)
abbrev pub syllables : List (List ℕ)
syllables =
    codes "BAR" ∷ codes "OUGHT" ∷ codes "ABLE" ∷ codes "PRI" ∷ codes "PRES" ∷ codes "ESE" ∷ codes "ANTI" ∷ codes "CALLY"
    ∷ codes "ATION" ∷ codes "EING" ∷ []

-- the syllable of a digit
abbrev pub syllable : ℕ → List ℕ
syllable d = get_or syllables d []

-- the last name of a number from 0 to 999 (TPC-C 4.3.2.3): a syllable for each of its three digits
abbrev pub name_word : ℕ → List ℕ
name_word n = syllable (n / 100) ++ syllable (n / 10 % 10) ++ syllable (n % 10)

-- the word for a customer
abbrev pub who_word : Who → List ℕ
who_word (Id c) = decimal c
who_word (Last n) = name_word n

-- a number of 32 bits, or the number of a last name
abbrev pub HasWho : Who → Type 0
HasWho (Id c) = c < 2 ^ 32
HasWho (Last n) = n < LAST_NAMES
