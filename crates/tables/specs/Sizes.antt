-- How large a database is (TPC-C 1.2), and within which limits.
use Rattle.std.specs.Prelude.{ℕ, ◌≤◌}
use Rattle.tables.specs.declared.limits.TheConstants.{MAX_WAREHOUSES, MAX_DISTRICTS, MIN_CUSTOMERS, MAX_CUSTOMERS}
use Rattle.tables.specs.declared.limits.TheConstants.{MIN_ITEMS, MAX_ITEMS, MAX_ORDERS, MAX_COMMITS}

-- the numbers of warehouses, districts a warehouse, customers a district and items, the greatest order number of a
-- district, and the greatest number of commits
pub record Sizes : Type 0 where
  pub warehouses : ℕ
  pub districts : ℕ
  pub customers : ℕ
  pub items : ℕ
  pub orders : ℕ
  pub commits : ℕ

abbrev pub sizes : ℕ → ℕ → ℕ → ℕ → ℕ → ℕ → Sizes
sizes warehouses districts customers items orders commits =
    record {
      warehouses = warehouses;
      districts = districts;
      customers = customers;
      items = items;
      orders = orders;
      commits = commits;
    }

abbrev pub IsBetween : ℕ → ℕ → ℕ → Type 0
IsBetween low high n = (low ≤ n) × (n ≤ high)

-- one of the numbers from 1 to n
abbrev pub IsNumber : ℕ → ℕ → Type 0
IsNumber n k = IsBetween 1 n k

-- the limits of this engine
pub record IsScale (s : Sizes) : Type 0 where
  pub warehouses : IsBetween 1 MAX_WAREHOUSES s.warehouses
  pub districts : IsBetween 1 MAX_DISTRICTS s.districts
  pub customers : IsBetween MIN_CUSTOMERS MAX_CUSTOMERS s.customers
  pub items : IsBetween MIN_ITEMS MAX_ITEMS s.items
  pub orders : IsBetween s.customers MAX_ORDERS s.orders
  pub commits : IsBetween 1 MAX_COMMITS s.commits
