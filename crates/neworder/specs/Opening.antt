-- How an order is opened: the number that it takes, and how it may be refused.
use Rattle.std.specs.Prelude.{◌≡◌, ◌≤◌, ⊤, Some}
use Rattle.std.specs.Option.{option_map}
use Rattle.std.specs.FinMap.{get}
use Rattle.money.specs.declared.refusal.Refusal.{Refusal}
use Rattle.money.specs.declared.refusal.Refusal.TheVariants.{OutOfMemory, OrdersFull, Stale}
use Rattle.tables.specs.Sizes.{Sizes}
use Rattle.tables.specs.Records.{number_of_key}
use Rattle.tables.specs.Database.{Database}
use Rattle.tables.specs.OrderNumbers.{next_order}
use Rattle.tables.specs.Conditions.{Condition2At}
use Rattle.tables.specs.NewOrder.{home}
use Rattle.tables.specs.declared.new_order.NewOrderInput.{NewOrderInput}
use Rattle.tables.specs.declared.input.Input.TheVariants as input
use Rattle.tables.specs.declared.records.RecordKey.TheVariants as key
use Rattle.rows.specs.Columns.{district_columns, district_columns_words}
use Rattle.rows.specs.declared.columns.DistrictColumns.{DistrictColumns}
use Rattle.readset.specs.Reads.{ReadSetView, IsReadAs}
use Rattle.readset.specs.Explains.{NoCandidate}
use Rattle.readset.specs.Refused.{IsAboveCap}
use Rattle.readset.specs.Transaction.{TransactionView}

-- these are the columns of the order's district at these tables, which meet condition 2 there: D_NEXT_O_ID is the number
-- that the order takes
pub record IsHomeTaken (x : NewOrderInput) (c : DistrictColumns) (t : Database) : Type 0 where
  pub columns : option_map district_columns (get t.districts (home x)) ≡ Some c
  pub next : next_order t (home x) ≡ c.next_order
  pub condition_2 : Condition2At t (home x)

-- the order's district was read as a row whose D_NEXT_O_ID is within the order cap
abbrev pub IsWithinCap : Sizes → NewOrderInput → ReadSetView → Type 0
IsWithinCap s x reads = (c : DistrictColumns) × (c.next_order ≤ s.orders)
    × IsReadAs reads (number_of_key s (key.District (home x))) (Some (district_columns_words c))

-- why an order is refused: for want of memory, since its number as read is above the order cap, or since there are no
-- tables at which it may have read
abbrev pub IsOrderRefusal : Database → NewOrderInput → TransactionView → Refusal → Type 0
IsOrderRefusal t0 x under_way OutOfMemory = ⊤
IsOrderRefusal t0 x under_way OrdersFull = IsAboveCap t0.scale (input.NewOrder x) under_way.reads
IsOrderRefusal t0 x under_way Stale =
    (¬ IsAboveCap t0.scale (input.NewOrder x) under_way.reads) × NoCandidate t0 under_way.reads
IsOrderRefusal t0 x under_way _ = ⊥
