-- The sums of the tables that a database begins with, counted record by record.
use Rattle.std.specs.Prelude.{ℕ, zero, suc, ◌+◌, ◌*◌, ℤ, pos, Option, None, List, [], ◌∷◌, replicate}
use Rattle.tables.specs.Sizes.{Sizes}
use Rattle.tables.specs.Maps.{sum_of}
use Rattle.tables.specs.Records.{narrow_count}
use Rattle.tables.specs.declared.rows.History.{History}
use Rattle.totals.specs.Totals.{SumsView}
use Rattle.totals.specs.Worth.{Worth}
use Rattle.totals.specs.Moves.{MovesSums, moved, order_before}

-- the sums of tables without rows
abbrev pub no_sums : Sizes → SumsView
no_sums s = record {
  scale = s;
  year_to_date = replicate s.warehouses (pos 0);
  paid_at_warehouse = replicate s.warehouses (pos 0);
  paid_at_district = replicate (s.warehouses * s.districts) (pos 0);
  paid_by_customer = replicate (s.warehouses * s.districts * s.customers) (pos 0);
  delivered = replicate (s.warehouses * s.districts * s.customers) (pos 0);
  line_counts = replicate (s.warehouses * s.districts) (pos 0);
  district_lines = replicate (s.warehouses * s.districts) (pos 0);
  order_lines = replicate (s.warehouses * s.districts * s.orders) (pos 0);
  waiting = replicate (s.warehouses * s.districts) (pos 0);
}

-- so many records from a number on, each with what it holds
abbrev pub records_from : (ℕ → Option (List ℕ)) → ℕ → ℕ → List (ℕ × Option (List ℕ))
records_from held zero n = []
records_from held (suc k) n = (n, held n) ∷ records_from held k (n + 1)

-- what so many records from a number on are worth together, where nothing was counted of them
abbrev pub worth_from : Sizes → (ℕ → Option (List ℕ)) → ℕ → ℕ → Worth → ℤ
worth_from s held k n f = moved s (λ m. None) (records_from held k n) f

-- the sums have counted all records, which hold these words, and these HISTORY rows
abbrev pub SumsOpen : Sizes → (ℕ → Option (List ℕ)) → List History → SumsView → Type 0
SumsOpen s held history v = MovesSums s (order_before s held) (worth_from s held (narrow_count s) 0)
    (λ f. sum_of f history) (no_sums s) v
