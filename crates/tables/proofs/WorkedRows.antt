-- Worked rows of New-Order's definitions: what they come to at given numbers.
use Rattle.std.proofs.Common.{◌≡◌, ℕ, pos, true, false, List, [], ◌∷◌, Some, None, refl}
use Rattle.money.specs.Total.{total_amount}
use Rattle.tables.specs.NewOrder.{drawn, order_row}
use Rattle.tables.specs.OrderNumbers.{least, greatest}
use Rattle.tables.specs.declared.rows.Stock.{Stock}
use Rattle.tables.specs.declared.new_order.RequestedLine.{RequestedLine}
use Rattle.tables.specs.declared.new_order.NewOrderInput.{NewOrderInput}

-- a stock of so many, from which nothing was drawn
abbrev stock_of : ℕ → Stock
stock_of quantity = record { quantity = quantity; year_to_date = 0; orders = 0; remote_orders = 0 }

-- a line of item 1 from this warehouse
abbrev line : ℕ → ℕ → RequestedLine
line w quantity = record { item = 1; supply_warehouse = w; quantity = quantity }

-- ---- S_QUANTITY after a line of warehouse 1 (TPC-C 2.4.2.2)
-- 40 is left of 50
falls : (drawn 1 (line 1 10) (stock_of 50)).quantity ≡ 40
falls = refl

-- 10 may be left
falls_to_least : (drawn 1 (line 1 10) (stock_of 20)).quantity ≡ 10
falls_to_least = refl

-- 9 may not: 19 - 10 + 91
restocked : (drawn 1 (line 1 10) (stock_of 19)).quantity ≡ 100
restocked = refl

-- of the least stock: 10 - 10 + 91
restocked_least : (drawn 1 (line 1 10) (stock_of 10)).quantity ≡ 91
restocked_least = refl

-- ---- the counts of a stock
year_to_date_rises : (drawn 1 (line 1 10) (stock_of 50)).year_to_date ≡ 10
year_to_date_rises = refl

orders_rise : (drawn 1 (line 1 10) (stock_of 50)).orders ≡ 1
orders_rise = refl

-- its own warehouse supplies the line
home_line : (drawn 1 (line 1 10) (stock_of 50)).remote_orders ≡ 0
home_line = refl

-- another supplies it
remote_line : (drawn 1 (line 2 10) (stock_of 50)).remote_orders ≡ 1
remote_line = refl

-- ---- the total amount (TPC-C 2.4.2.2) of 150.00 and of 5.00, at a discount of 0.1 and taxes of 0.1 and 0.05
whole_cents : total_amount (pos 15000) 1000 1000 500 ≡ pos 15525
whole_cents = refl

-- 5.175 is rounded down
rounded_down : total_amount (pos 500) 1000 1000 500 ≡ pos 517
rounded_down = refl

-- ---- O_ALL_LOCAL of an order of warehouse 1
abbrev order : List RequestedLine → NewOrderInput
order lines = record { date = 1; warehouse = 1; district = 1; customer = 1; lines = lines }

local_lines : (order_row (order (line 1 10 ∷ line 1 10 ∷ []))).all_local ≡ true
local_lines = refl

one_remote_line : (order_row (order (line 1 10 ∷ line 2 10 ∷ line 1 10 ∷ []))).all_local ≡ false
one_remote_line = refl

-- and O_OL_CNT
three_lines : (order_row (order (line 1 10 ∷ line 2 10 ∷ line 1 10 ∷ []))).line_count ≡ 3
three_lines = refl

-- ---- the least and the greatest of some numbers, and of none
least_of_three : least (8 ∷ 3 ∷ 5 ∷ []) ≡ Some 3
least_of_three = refl

greatest_of_three : greatest (3 ∷ 8 ∷ 5 ∷ []) ≡ 8
greatest_of_three = refl

least_of_none : least [] ≡ None
least_of_none = refl

greatest_of_none : greatest [] ≡ 0
greatest_of_none = refl
