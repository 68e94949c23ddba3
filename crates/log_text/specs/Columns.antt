-- The columns that the records of each table have in a log file, and the ranges in which they stand.
use Rattle.std.specs.Prelude.{ℕ, ◌+◌, ◌-◌, ◌^◌, pos, neg_ℤ, nat_lt, int_le, ◌==◌, Bool, true, false, ◌&&◌}
use Rattle.std.specs.Prelude.{List, [], ◌∷◌, ◌++◌, length, replicate}
use Rattle.money.specs.declared.cents.TheConstants.{MAX_MONEY}
use Rattle.money.specs.declared.payload.TheConstants.{PAYLOAD_WORDS}
use Rattle.tables.specs.Sizes.{Sizes, sizes}
use Rattle.tables.specs.Records.{table_number}
use Rattle.tables.specs.Rows.{money_of}
use Rattle.tables.specs.declared.limits.TheConstants.{MAX_CARRIER, MAX_COUNT, MAX_DATE, MAX_LINE_AMOUNT}
use Rattle.tables.specs.declared.limits.TheConstants.{MAX_ORDER_LINES, MAX_PAYMENT, MAX_QUANTITY, MAX_STOCK}
use Rattle.tables.specs.declared.limits.TheConstants.{MIN_ORDER_LINES, MIN_PAYMENT, MIN_STOCK}
use Rattle.tables.specs.declared.records.Table.{Table}
use Rattle.tables.specs.declared.records.Table.TheVariants as table
use Rattle.log_text.specs.declared.columns.Range.{Range}

abbrev pub span : ℕ → ℕ → Range
span low high = record { low = pos low; high = pos high }

-- within 10,000,000,000,000 cents of zero
abbrev pub money_range : Range
money_range = record { low = neg_ℤ MAX_MONEY; high = MAX_MONEY }

abbrev pub count_range : Range
count_range = span 0 MAX_COUNT

abbrev pub date_range : Range
date_range = span 1 MAX_DATE

-- the columns of each table, in their order. A null carrier or delivery date is 0, and O_ALL_LOCAL is 0 or 1
abbrev pub columns : Sizes → Table → List Range
columns s table.Warehouse = money_range ∷ []
columns s table.District = money_range ∷ span 1 (s.orders + 1) ∷ []
columns s table.Customer = money_range ∷ money_range ∷ count_range ∷ count_range ∷ []
columns s table.History = span 1 s.customers ∷ span 1 s.districts ∷ span 1 s.warehouses ∷ span 1 s.districts
    ∷ span 1 s.warehouses ∷ date_range ∷ record { low = MIN_PAYMENT; high = MAX_PAYMENT } ∷ []
columns s table.NewOrder = []
columns s table.Order = span 1 s.customers ∷ date_range ∷ span 0 MAX_CARRIER ∷ span MIN_ORDER_LINES MAX_ORDER_LINES
    ∷ span 0 1 ∷ []
columns s table.OrderLine = span 1 s.items ∷ span 1 s.warehouses ∷ span 0 MAX_DATE ∷ span 1 MAX_QUANTITY
    ∷ record { low = pos 0; high = MAX_LINE_AMOUNT } ∷ []
columns s table.Item = []
columns s table.Stock = span MIN_STOCK MAX_STOCK ∷ count_range ∷ count_range ∷ count_range ∷ []
columns s table.Oldest = span 1 (s.orders + 1) ∷ []
columns s table.Last = span 0 s.orders ∷ []
columns s table.CustomerData = []

-- the records of C_DATA, table 12, hold a text in place of columns
abbrev pub has_text : Table → Bool
has_text t = table_number t == 12

-- how many columns a table has, at whatever scale
abbrev pub width : Table → ℕ
width t = length (columns (sizes 1 1 1 1 1 1) t)

-- past the columns stand zeros
abbrev pub ranges : Sizes → Table → List Range
ranges s t = columns s t ++ replicate (PAYLOAD_WORDS - width t) (span 0 0)

-- a word of 64 bits whose number, two's complement, is in the range
abbrev pub is_within : Range → ℕ → Bool
is_within range word = nat_lt word (2 ^ 64) && (int_le range.low (money_of word) && int_le (money_of word) range.high)

-- each word is within its range
abbrev pub are_within : List Range → List ℕ → Bool
are_within [] [] = true
are_within (range ∷ ranges) (word ∷ words) = is_within range word && are_within ranges words
are_within _ _ = false
