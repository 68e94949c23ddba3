-- Where the records stand that sums count. No public clause cites it.
use Rattle.std.specs.Prelude.{ℕ, ◌+◌, ◌<◌, ◌≤◌, ◌⊎◌}
use Rattle.tables.specs.Sizes.{Sizes}
use Rattle.tables.specs.Records.{size, first_number}
use Rattle.tables.specs.declared.records.Table.TheVariants as table
use Rattle.totals.specs.declared.places.Counted.{Counted}

-- DISTRICT, and NEW-ORDER to ORDER-LINE
abbrev pub counted_in : Sizes → Counted
counted_in s = record {
  first_district = first_number s table.District;
  end_districts = first_number s table.District + size s table.District;
  first_new_order = first_number s table.NewOrder;
  first_order = first_number s table.Order;
  first_line = first_number s table.OrderLine;
  end_lines = first_number s table.OrderLine + size s table.OrderLine;
}

-- a record of another table
abbrev pub IsOfAnotherTable : Counted → ℕ → Type 0
IsOfAnotherTable c n = (n < c.first_district) ⊎ (((c.end_districts ≤ n) × (n < c.first_new_order)) ⊎ (c.end_lines ≤ n))
