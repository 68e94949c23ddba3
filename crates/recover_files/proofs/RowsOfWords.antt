-- The rows of words that stand in the ranges of a table's columns.
use Rattle.std.proofs.Common.{◌≡◌, ℕ, ◌+◌, ℤ, lit<, true, pos, neg_ℤ, List, ◌∷◌, replicate, Option, Some, slice_index, sym, ap, ◌∙◌, subst}
use Rattle.std.proofs.lemmas.Option.{same_Some}
use Rattle.money.specs.declared.cents.TheConstants.{MAX_MONEY}
use Rattle.tables.specs.Sizes.{Sizes}
use Rattle.std.specs.Prelude.{◌==◌}
use Rattle.tables.specs.Rows.{money_of, warehouse_words, district_words, customer_words, new_order_words, order_words, line_words, stock_words}
use Rattle.tables.specs.WellFormed.{IsMoney, IsDistrictRow, IsCustomerRow, IsLineRow, IsStockRow}
use Rattle.tables.specs.declared.limits.TheConstants.{MAX_DATE, MAX_CARRIER, MAX_COUNT, MAX_LINE_AMOUNT, MAX_QUANTITY, MAX_STOCK, MIN_ORDER_LINES}
use Rattle.tables.specs.declared.limits.TheConstants.{MAX_ORDER_LINES, MIN_STOCK}
use Rattle.tables.specs.declared.rows.Credit.TheVariants.{Good}
use Rattle.tables.specs.declared.rows.Warehouse.{Warehouse}
use Rattle.tables.specs.declared.rows.District.{District}
use Rattle.tables.specs.declared.rows.Customer.{Customer}
use Rattle.tables.specs.declared.rows.Order.{Order}
use Rattle.tables.specs.declared.rows.OrderLine.{OrderLine}
use Rattle.tables.specs.declared.rows.Stock.{Stock}
use Rattle.tables.specs.declared.records.Table.{Table}
use Rattle.tables.specs.declared.records.Table.TheVariants as table
use Rattle.rows.specs.Columns.{IsOrderOfScale}
use Rattle.encoding.specs.Puts.{IsRow, MayBeRow}
use Rattle.log_text.specs.Columns.{columns, ranges, are_within}
use Rattle.recover_files.proofs.Ranges.{IsIn, each_in, padded, between, back_in, nullable, null_back, null_in, flag_back}

-- a row may be there, or none
pub there : {X : Type 0} (words : X → List ℕ) (IsKind : X → Type 0) (value : Option (List ℕ)) → IsRow words IsKind value → MayBeRow words IsKind value
there words IsKind value row = (Some row.0, row.1, λ r e. let same = same_Some row.0 r e in subst IsKind same row.2)

module _ (s : Sizes) (words : List ℕ) where
  abbrev word : ℕ → ℕ
  word i = slice_index words i

  abbrev money : ℕ → ℤ
  money i = money_of (word i)

  -- the words stand in the ranges of this table
  abbrev AreOf : Table → Type 0
  AreOf t = are_within (ranges s t) words ≡ true

  -- a row of whatever tax, since that isn't among the words
  pub warehouse_row : AreOf table.Warehouse → IsRow warehouse_words (λ r. IsMoney r.year_to_date) (Some words)
  warehouse_row e =
      let r : Warehouse = record { tax = 0; year_to_date = money 0 } in
      let paid : IsIn (neg_ℤ MAX_MONEY) MAX_MONEY (word 0) = each_in (ranges s table.Warehouse) words e 0 (lit< tt) in (
        r,
        ap Some (padded (columns s table.Warehouse) 6 words e ∙ (λ i. sym (back_in (word 0) paid) i ∷ replicate 6 0)),
        (paid.low, paid.high),
      )

  pub district_row : AreOf table.District → IsRow district_words (IsDistrictRow s) (Some words)
  district_row e =
      let r : District = record { tax = 0; year_to_date = money 0; next_order = word 1 } in
      let each = each_in (ranges s table.District) words e in
      let paid : IsIn (neg_ℤ MAX_MONEY) MAX_MONEY (word 0) = each 0 (lit< tt) in (
        r,
        ap Some (padded (columns s table.District) 5 words e ∙ (λ i. sym (back_in (word 0) paid) i ∷ word 1 ∷ replicate 5 0)),
        record { year_to_date = (paid.low, paid.high); next_order = between 1 (s.orders + 1) (word 1) (each 1 (lit< tt)) },
      )

  pub customer_row : AreOf table.Customer → IsRow customer_words IsCustomerRow (Some words)
  customer_row e =
      let r : Customer = record {
        first_name = 0;
        last_name = 0;
        credit = Good;
        discount = 0;
        balance = money 0;
        paid = money 1;
        payments = word 2;
        deliveries = word 3;
      } in
      let each = each_in (ranges s table.Customer) words e in
      let balance : IsIn (neg_ℤ MAX_MONEY) MAX_MONEY (word 0) = each 0 (lit< tt) in
      let paid : IsIn (neg_ℤ MAX_MONEY) MAX_MONEY (word 1) = each 1 (lit< tt) in (
        r,
        ap Some (padded (columns s table.Customer) 3 words e
            ∙ (λ i. sym (back_in (word 0) balance) i ∷ sym (back_in (word 1) paid) i ∷ word 2 ∷ word 3 ∷ replicate 3 0)),
        record {
          balance = (balance.low, balance.high);
          paid = (paid.low, paid.high);
          payments = (between 0 MAX_COUNT (word 2) (each 2 (lit< tt))).1;
          deliveries = (between 0 MAX_COUNT (word 3) (each 3 (lit< tt))).1;
        },
      )

  pub new_order_row : AreOf table.NewOrder → IsRow new_order_words (λ r. Unit {0}) (Some words)
  new_order_row e = (record {}, ap Some (padded (columns s table.NewOrder) 7 words e), tt)

  pub order_row : AreOf table.Order → IsRow order_words (IsOrderOfScale s) (Some words)
  order_row e =
      let each = each_in (ranges s table.Order) words e in
      let carrier : IsIn (pos 0) (pos MAX_CARRIER) (word 2) = each 2 (lit< tt) in
      let r : Order = record {
        customer = word 0;
        entry_date = word 1;
        carrier = nullable (word 2);
        line_count = word 3;
        all_local = word 4 == 1;
      } in (
        r,
        ap Some (padded (columns s table.Order) 2 words e
            ∙ (λ i. word 0 ∷ word 1 ∷ sym (null_back (word 2)) i ∷ word 3 ∷ sym (flag_back (word 4) (each 4 (lit< tt))) i ∷ replicate 2 0)),
        record {
          row = record {
            entry_date = between 1 MAX_DATE (word 1) (each 1 (lit< tt));
            carrier = null_in MAX_CARRIER (word 2) carrier;
            line_count = between MIN_ORDER_LINES MAX_ORDER_LINES (word 3) (each 3 (lit< tt));
          };
          customer = between 1 s.customers (word 0) (each 0 (lit< tt));
        },
      )

  pub line_row : AreOf table.OrderLine → IsRow line_words (IsLineRow s) (Some words)
  line_row e =
      let each = each_in (ranges s table.OrderLine) words e in
      let amount : IsIn (pos 0) MAX_LINE_AMOUNT (word 4) = each 4 (lit< tt) in
      let r : OrderLine = record {
        item = word 0;
        supply_warehouse = word 1;
        delivery_date = nullable (word 2);
        quantity = word 3;
        amount = money 4;
      } in (
        r,
        ap Some (padded (columns s table.OrderLine) 2 words e
            ∙ (λ i. word 0 ∷ word 1 ∷ sym (null_back (word 2)) i ∷ word 3 ∷ sym (back_in (word 4) amount) i
            ∷ replicate 2 0)),
        record {
          item = between 1 s.items (word 0) (each 0 (lit< tt));
          supply_warehouse = between 1 s.warehouses (word 1) (each 1 (lit< tt));
          delivery_date = null_in MAX_DATE (word 2) (each 2 (lit< tt));
          quantity = between 1 MAX_QUANTITY (word 3) (each 3 (lit< tt));
          at_least = amount.low;
          at_most = amount.high;
        },
      )

  pub stock_row : AreOf table.Stock → IsRow stock_words IsStockRow (Some words)
  stock_row e =
      let each = each_in (ranges s table.Stock) words e in
      let r : Stock = record { quantity = word 0; year_to_date = word 1; orders = word 2; remote_orders = word 3 } in (
        r,
        ap Some (padded (columns s table.Stock) 3 words e),
        record {
          quantity = between MIN_STOCK MAX_STOCK (word 0) (each 0 (lit< tt));
          year_to_date = (between 0 MAX_COUNT (word 1) (each 1 (lit< tt))).1;
          orders = (between 0 MAX_COUNT (word 2) (each 2 (lit< tt))).1;
          remote_orders = (between 0 MAX_COUNT (word 3) (each 3 (lit< tt))).1;
        },
      )
