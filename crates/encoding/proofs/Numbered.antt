-- The records of rows stand before those of the two index records, those of C_DATA behind them, and each holds what its
-- key's record does.
use Rattle.std.proofs.Common.{◌≡◌, ℕ, ◌+◌, ◌-◌, ◌<◌, inl, inr, sym, ap, ◌∙◌, subst, arith}
use Rattle.tables.specs.Constant.{IsOf}
use Rattle.tables.specs.Database.{Database}
use Rattle.tables.specs.Rows.{row_at, rows}
use Rattle.tables.specs.Sizes.{Sizes}
use Rattle.tables.specs.Records.{size, table_of, place_of, number_of_key, key_of, narrow_count, record_count, IsRecordKey, IsRowKey}
use Rattle.tables.proofs.Numbers.{named, wide_named, row_numbered, warehouse_there, district_there, customer_there, order_there, line_there, stock_there}
use Rattle.tables.specs.declared.records.RecordKey.{RecordKey}
use Rattle.tables.specs.declared.records.RecordKey.TheVariants as key
use Rattle.tables.specs.declared.records.Table.TheVariants as table
use Rattle.encoding.specs.Held.{row_count, IsTableRecord}

-- the key of a table's row, C_DATA's among them: of none of the two index records
abbrev pub IsTableKey : RecordKey → Type 0
IsTableKey (key.Oldest k) = ⊥
IsTableKey (key.Last k) = ⊥
IsTableKey k = Unit {0}

module _ (s : Sizes) where
  -- a table of rows ends before the index records begin
  below_rows : (k : RecordKey) → IsRowKey k → place_of s k < size s (table_of k) → number_of_key s k < row_count s
  below_rows (key.Warehouse k) row h = omega arith
  below_rows (key.District k) row h = omega arith
  below_rows (key.Customer k) row h = omega arith
  below_rows (key.NewOrder k) row h = omega arith
  below_rows (key.Order k) row h = omega arith
  below_rows (key.OrderLine k) row h = omega arith
  below_rows (key.Stock k) row h = omega arith
  below_rows (key.Oldest k) row h = absurd row
  below_rows (key.Last k) row h = absurd row
  below_rows (key.CustomerData k) row h = absurd row

  pub row_below : (k : RecordKey) → IsRecordKey s k → IsRowKey k → number_of_key s k < row_count s
  row_below (key.Warehouse k) h row = below_rows (key.Warehouse k) row (warehouse_there s k h).0
  row_below (key.District k) h row = below_rows (key.District k) row (district_there s k h).0
  row_below (key.Customer k) h row = below_rows (key.Customer k) row (customer_there s k h).0
  row_below (key.NewOrder k) h row = below_rows (key.NewOrder k) row (order_there s k h).0
  row_below (key.Order k) h row = below_rows (key.Order k) row (order_there s k h).0
  row_below (key.OrderLine k) h row = below_rows (key.OrderLine k) row (line_there s k h).0
  row_below (key.Stock k) h row = below_rows (key.Stock k) row (stock_there s k h).0
  row_below (key.Oldest k) h row = absurd row
  row_below (key.Last k) h row = absurd row
  row_below (key.CustomerData k) h row = absurd row

  -- a key of a table's row has such a record, and the other way round
  pub table_record : (k : RecordKey) → IsRecordKey s k → IsTableKey k → IsTableRecord s (number_of_key s k)
  table_record (key.Warehouse k) h row = inl (row_below (key.Warehouse k) h tt)
  table_record (key.District k) h row = inl (row_below (key.District k) h tt)
  table_record (key.Customer k) h row = inl (row_below (key.Customer k) h tt)
  table_record (key.NewOrder k) h row = inl (row_below (key.NewOrder k) h tt)
  table_record (key.Order k) h row = inl (row_below (key.Order k) h tt)
  table_record (key.OrderLine k) h row = inl (row_below (key.OrderLine k) h tt)
  table_record (key.Stock k) h row = inl (row_below (key.Stock k) h tt)
  table_record (key.Oldest k) h row = absurd row
  table_record (key.Last k) h row = absurd row
  table_record (key.CustomerData k) h row = inr (omega arith, (named s (key.CustomerData k) h).0)

  pub among_all : (n : ℕ) → IsTableRecord s n → n < record_count s
  among_all n (inl low) = omega arith
  among_all n (inr high) = high.1

  of_row : (k : RecordKey) → IsRowKey k → IsTableKey k
  of_row (key.Warehouse k) row = tt
  of_row (key.District k) row = tt
  of_row (key.Customer k) row = tt
  of_row (key.NewOrder k) row = tt
  of_row (key.Order k) row = tt
  of_row (key.OrderLine k) row = tt
  of_row (key.Stock k) row = tt
  of_row (key.Oldest k) row = row
  of_row (key.Last k) row = row
  of_row (key.CustomerData k) row = tt

  pub table_key : (n : ℕ) → IsTableRecord s n → IsTableKey (key_of s n)
  table_key n (inl low) = of_row (key_of s n) (row_numbered s n (among_all n (inl low)) low)
  table_key n (inr high) =
      let p : ℕ = n - narrow_count s in
      let back : narrow_count s + p ≡ n = omega (arith, high.0) in
      let small : p < size s table.CustomerData = omega (arith, high.0, high.1) in
      subst (λ m. IsTableKey (key_of s m)) back (subst IsTableKey (sym (wide_named s p small)) tt)

-- the record of a key's number holds what the key's record does
pub record_at : (t0 t : Database) → IsOf t0 t → (k : RecordKey) → IsRecordKey t0.scale k → rows t (number_of_key t0.scale k) ≡ row_at t k
record_at t0 t of k is = ap (λ s. row_at t (key_of s (number_of_key t0.scale k))) of.scale ∙ ap (row_at t) (named t0.scale k is).1
