-- How the execution of a transaction is refused.
use Rattle.std.specs.Prelude.{◌≡◌, ◌<◌, ⊤, Some}
use Rattle.money.specs.declared.refusal.Refusal.{Refusal}
use Rattle.money.specs.declared.refusal.Refusal.TheVariants.{OutOfMemory, Stale, ItemNotValid, OrdersFull}
use Rattle.tables.specs.Sizes.{Sizes}
use Rattle.tables.specs.Database.{Database}
use Rattle.tables.specs.Constant.{IsOf}
use Rattle.tables.specs.NewOrder.{home}
use Rattle.tables.specs.Apply.{RolledBack, apply}
use Rattle.tables.specs.Records.{number_of_key}
use Rattle.tables.specs.declared.input.Input.{Input}
use Rattle.tables.specs.declared.input.Input.TheVariants as input
use Rattle.tables.specs.declared.records.RecordKey.TheVariants as key
use Rattle.cells.specs.Records.{ReaderView}
use Rattle.rows.specs.Columns.{AreDistrictColumns, district_columns_words}
use Rattle.rows.specs.declared.columns.DistrictColumns.{DistrictColumns}
use Rattle.readset.specs.Reads.{ReadSetView, AreRead, IsReadAs}
use Rattle.readset.specs.Commit.{IsCommitted}
use Rattle.readset.specs.Explains.{NoCandidate}

-- the transaction isn't rolled back at any tables of the population: no item of it is missing
abbrev pub NoneMissing : Database → Input → Type 0
NoneMissing t0 x = (t : Database) → IsOf t0 t → IsCommitted (apply t x)

-- a New-Order's district was read as a row of the scale whose D_NEXT_O_ID is above the order cap; no other transaction
-- takes a number
abbrev pub IsAboveCap : Sizes → Input → ReadSetView → Type 0
IsAboveCap s (input.NewOrder x) reads = (c : DistrictColumns) × AreDistrictColumns s c × (s.orders < c.next_order)
    × IsReadAs reads (number_of_key s (key.District (home x))) (Some (district_columns_words c))
IsAboveCap s _ reads = ⊥

-- how an execution may be refused, whose reader goes from one of these states to the other: for an item that isn't in
-- ITEM; else for an order number above the order cap, as read; else for reads of no tables at which it may have read
abbrev pub IsRefusal : Database → Input → ReaderView → ReaderView → Refusal → Type 0
IsRefusal t0 x old new OutOfMemory = ⊤
IsRefusal t0 x old new (ItemNotValid item) = (t : Database) → IsOf t0 t → apply t x ≡ RolledBack item
IsRefusal t0 x old new OrdersFull = NoneMissing t0 x
    × ((reads : ReadSetView) × AreRead old new reads × IsAboveCap t0.scale x reads)
IsRefusal t0 x old new Stale = NoneMissing t0 x
    × ((reads : ReadSetView) × AreRead old new reads × ¬ IsAboveCap t0.scale x reads × NoCandidate t0 reads)
IsRefusal t0 x old new _ = ⊥
