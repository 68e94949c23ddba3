-- The steps of a New-Order (TPC-C 2.4.2.2): the tables when it has come so far, and the records that each step changes.
use Rattle.std.specs.Prelude.{◌≡◌, ◌+◌, Some, List, [], ◌∷◌, ◌++◌, All, Result, Ok, Err}
use Rattle.std.specs.FinMap.{insert}
use Rattle.tables.specs.Keys.{is_district, IsCustomerKey}
use Rattle.tables.specs.Maps.{update_where}
use Rattle.tables.specs.Database.{Database}
use Rattle.tables.specs.NewOrder.{IsRequestedLine, home, buyer, new_key, numbered_district, order_row, with_lines}
use Rattle.tables.specs.NewOrder.{after_draws, supplied_lines}
use Rattle.tables.specs.Records.{number_of_key}
use Rattle.tables.specs.Rows.{new_order_words, order_words, number_words, row_at}
use Rattle.tables.specs.declared.keys.OrderKey.{OrderKey}
use Rattle.tables.specs.declared.new_order.RequestedLine.{RequestedLine}
use Rattle.tables.specs.declared.new_order.NewOrderInput.{NewOrderInput}
use Rattle.tables.specs.declared.new_order.SuppliedLine.{SuppliedLine}
use Rattle.tables.specs.declared.records.RecordKey.TheVariants as key
use Rattle.money.specs.declared.refusal.Refusal.{Refusal}
use Rattle.rows.specs.Columns.{district_columns_words}
use Rattle.rows.specs.declared.columns.DistrictColumns.{DistrictColumns}
use Rattle.readset.specs.Writes.{puts}
use Rattle.readset.specs.Changes.{Changes, Holds}
use Rattle.readset.specs.Transaction.{TransactionView, AtAll, IsStepRefusal}

-- the tables once the order is opened, these of its lines have their rows, and these have drawn from their stocks. With
-- all its lines they are those after it
abbrev pub after_lines : Database → NewOrderInput → List RequestedLine → List RequestedLine → Database
after_lines t x rows draws = record t {
  districts = update_where (is_district x.warehouse x.district) numbered_district t.districts;
  new_orders = insert t.new_orders (new_key t x) (record {});
  orders = insert t.orders (new_key t x) (order_row x);
  lines = with_lines t (new_key t x) 1 rows t.lines;
  stock = after_draws x.warehouse draws t.stock;
}

-- a district's columns, with D_NEXT_O_ID raised by 1
abbrev pub numbered_columns : DistrictColumns → DistrictColumns
numbered_columns c = record c { next_order = c.next_order + 1 }

-- what opening an order of this key changes: its district's columns, and its own two rows
abbrev pub opening_changes : NewOrderInput → OrderKey → DistrictColumns → Changes
opening_changes x k district = (key.District (home x), Some (district_columns_words district))
    ∷ (key.NewOrder k, Some (new_order_words (record {})))
    ∷ (key.Order k, Some (order_words (order_row x))) ∷ []

-- the transaction as it will be once it has written that the order is its buyer's last one, which it writes at its end
abbrev pub with_last : Database → NewOrderInput → OrderKey → TransactionView → TransactionView
with_last t0 x k under_way = record {
  reads = under_way.reads;
  writes = puts under_way.writes (number_of_key t0.scale (key.Last (buyer x))) (Some (number_words k.order));
}

-- these lines of an order have their rows, and these have drawn from their stocks: at all tables at which the
-- transaction may have read, the order has this key, the writes put in make the rows of the tables when it has come so
-- far, and these are the lines of its reply
pub record AreTaken (t0 : Database) (x : NewOrderInput) (order : OrderKey) (rows draws : List RequestedLine)
    (under_way : TransactionView) (told : List SuppliedLine) : Type 0 where
  pub buyer : IsCustomerKey t0.scale (buyer x)
  pub requested : All (IsRequestedLine t0.scale) draws
  pub at_order : AtAll t0 under_way (λ t. new_key t x ≡ order)
  pub holds : AtAll t0 under_way (λ t. Holds t under_way.writes (row_at (after_lines t x rows draws)))
  pub supplied : AtAll t0 under_way (λ t. supplied_lines t x.warehouse t.stock draws ≡ told)
