-- Rows within their ranges that have the same words are the same.
use Rattle.std.proofs.Common.{◌≡◌, ℕ, ℤ, Bool, true, false, cond, Option, Some, None, List}
use Rattle.std.proofs.Common.{slice_index, refl, sym, ap, ◌∙◌, arith}
use Rattle.std.specs.Option.{ForSome, unwrap_or}
use Rattle.std.proofs.lemmas.Int.{ints}
use Rattle.tables.specs.Sizes.{Sizes, IsNumber}
use Rattle.tables.specs.Rows.{money_word, money_of, order_words, line_words, stock_words}
use Rattle.tables.specs.WellFormed.{IsMoney, IsLineRow}
use Rattle.tables.specs.declared.limits.TheConstants.{MAX_CARRIER, MAX_DATE}
use Rattle.tables.specs.declared.rows.Order.{Order}
use Rattle.tables.specs.declared.rows.OrderLine.{OrderLine}
use Rattle.tables.specs.declared.rows.Stock.{Stock}
use Rattle.rows.specs.Columns.{warehouse_columns_words, AreWarehouseColumns, district_columns_words, AreDistrictColumns}
use Rattle.rows.specs.Columns.{customer_columns_words, AreCustomerColumns, IsOrderOfScale}
use Rattle.rows.specs.Columns.{words_of_oldest, words_of_last}
use Rattle.rows.specs.declared.columns.WarehouseColumns.{WarehouseColumns}
use Rattle.rows.specs.declared.columns.DistrictColumns.{DistrictColumns}
use Rattle.rows.specs.declared.columns.CustomerColumns.{CustomerColumns}
use Rattle.rows.specs.declared.index.Oldest.{Oldest}
use Rattle.rows.specs.declared.index.Last.{Last}

money_back : (z : ℤ) → IsMoney z → money_of (money_word z) ≡ z
money_back z h = omega (arith, ints)

money_once : (a b : ℤ) → IsMoney a → IsMoney b → money_word a ≡ money_word b → a ≡ b
money_once a b in_a in_b e = sym (money_back a in_a) ∙ (ap money_of e ∙ money_back b in_b)

amount_is_money : (s : Sizes) (r : OrderLine) → IsLineRow s r → IsMoney r.amount
amount_is_money s r is =
    let low = is.at_least in
    let high = is.at_most in
    (omega (arith, ints, low), omega (arith, ints, high))

nullable_once : (high : ℕ) (a b : Option ℕ) → ForSome a (λ n. IsNumber high n) → ForSome b (λ n. IsNumber high n)
    → unwrap_or a 0 ≡ unwrap_or b 0 → a ≡ b
nullable_once high None None in_a in_b e = refl
nullable_once high None (Some n) in_a in_b e = let least = (in_b n refl).0 in absurd (omega (arith, least, e))
nullable_once high (Some m) None in_a in_b e = let least = (in_a m refl).0 in absurd (omega (arith, least, e))
nullable_once high (Some m) (Some n) in_a in_b e = ap Some e

flag_once : (a b : Bool) → ◌≡◌ {A = ℕ} (cond a 1 0) (cond b 1 0) → a ≡ b
flag_once true true e = refl
flag_once true false e = absurd (omega (arith, e))
flag_once false true e = absurd (omega (arith, e))
flag_once false false e = refl

-- the same word at each place
word : {v w : List ℕ} → v ≡ w → (n : ℕ) → slice_index v n ≡ slice_index w n
word e n = ap (λ ws. slice_index ws n) e

pub warehouse_determined : (a b : WarehouseColumns) → AreWarehouseColumns a → AreWarehouseColumns b
    → warehouse_columns_words a ≡ warehouse_columns_words b → a ≡ b
warehouse_determined a b in_a in_b e =
    λ i. record { year_to_date = money_once a.year_to_date b.year_to_date in_a in_b (word e 0) i }

pub district_determined : (s : Sizes) (a b : DistrictColumns) → AreDistrictColumns s a → AreDistrictColumns s b
    → district_columns_words a ≡ district_columns_words b → a ≡ b
district_determined s a b in_a in_b e = λ i. record {
  year_to_date = money_once a.year_to_date b.year_to_date in_a.year_to_date in_b.year_to_date (word e 0) i;
  next_order = word e 1 i;
}

pub customer_determined : (a b : CustomerColumns) → AreCustomerColumns a → AreCustomerColumns b
    → customer_columns_words a ≡ customer_columns_words b → a ≡ b
customer_determined a b in_a in_b e = λ i. record {
  balance = money_once a.balance b.balance in_a.balance in_b.balance (word e 0) i;
  paid = money_once a.paid b.paid in_a.paid in_b.paid (word e 1) i;
  payments = word e 2 i;
  deliveries = word e 3 i;
}

pub order_determined : (s : Sizes) (a b : Order) → IsOrderOfScale s a → IsOrderOfScale s b
    → order_words a ≡ order_words b → a ≡ b
order_determined s a b in_a in_b e = λ i. record {
  customer = word e 0 i;
  entry_date = word e 1 i;
  carrier = nullable_once MAX_CARRIER a.carrier b.carrier in_a.row.carrier in_b.row.carrier (word e 2) i;
  line_count = word e 3 i;
  all_local = flag_once a.all_local b.all_local (word e 4) i;
}

pub line_determined : (s : Sizes) (a b : OrderLine) → IsLineRow s a → IsLineRow s b → line_words a ≡ line_words b
    → a ≡ b
line_determined s a b in_a in_b e =
    let dated = nullable_once MAX_DATE a.delivery_date b.delivery_date in_a.delivery_date in_b.delivery_date (word e 2)
    in
    let amount = money_once a.amount b.amount (amount_is_money s a in_a) (amount_is_money s b in_b) (word e 4) in
    λ i. record {
      item = word e 0 i;
      supply_warehouse = word e 1 i;
      delivery_date = dated i;
      quantity = word e 3 i;
      amount = amount i;
    }

pub stock_determined : (a b : Stock) → stock_words a ≡ stock_words b → a ≡ b
stock_determined a b e = λ i. record {
  quantity = word e 0 i;
  year_to_date = word e 1 i;
  orders = word e 2 i;
  remote_orders = word e 3 i;
}

pub oldest_determined : (a b : Oldest) → words_of_oldest a ≡ words_of_oldest b → a ≡ b
oldest_determined a b e = λ i. record { order = word e 0 i }

pub last_determined : (a b : Last) → words_of_last a ≡ words_of_last b → a ≡ b
last_determined a b e = λ i. record { order = word e 0 i }
