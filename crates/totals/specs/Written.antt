-- Tables that differ by what a commit wrote.
use Rattle.std.specs.Prelude.{◌≡◌, ℕ, ◌<◌, Option, Some, None, List, unwrap_or}
use Rattle.std.specs.Ordering.{nat_cmp}
use Rattle.std.specs.List.{All}
use Rattle.std.specs.List.Sorted.{IsStrictlySortedBy}
use Rattle.std.specs.Map.{keys_of, lookup}
use Rattle.std.specs.BTreeMap.{is_at}
use Rattle.std.specs.FinMap.{get}
use Rattle.tables.specs.Sizes.{Sizes}
use Rattle.tables.specs.Records.{record_count}
use Rattle.tables.specs.Rows.{rows}
use Rattle.tables.specs.Database.{Database}
use Rattle.tables.specs.declared.keys.OrderKey.{OrderKey}
use Rattle.tables.specs.declared.rows.Order.{Order}
use Rattle.readset.specs.Writes.{WriteSetView, value_for}

-- a commit's writes stand in the order of their records, a look-up finds each, and each is of a record of the scale
pub record AreWrites (s : Sizes) (writes : WriteSetView) : Type 0 where
  pub ascend : IsStrictlySortedBy nat_cmp (keys_of writes.values)
  pub found : All (λ e. value_for writes e.0 ≡ Some e.1) writes.values
  pub below : All (λ e. e.0 < record_count s) writes.values

-- the tables u are t with these values in their records, which stand in the order of their numbers
pub record AreWritten (t u : Database) (writes : List (ℕ × Option (List ℕ))) : Type 0 where
  pub scale : u.scale ≡ t.scale
  pub ascend : IsStrictlySortedBy nat_cmp (keys_of writes)
  pub found : All (λ e. lookup (is_at (nat_cmp e.0)) writes ≡ Some e.1) writes
  pub below : All (λ e. e.0 < record_count t.scale) writes
  pub rows : (n : ℕ) → n < record_count t.scale
      → rows u n ≡ unwrap_or (lookup (is_at (nat_cmp n)) writes) (rows t n)

-- an order that was there is there, and is the same customer's
abbrev pub OrdersKeepCustomers : Database → Database → Type 0
OrdersKeepCustomers t u = (k : OrderKey) (order : Order) → get t.orders k ≡ Some order
    → (later : Order) × (get u.orders k ≡ Some later) × (later.customer ≡ order.customer)

-- an order that wasn't there isn't delivered
abbrev pub NewOrdersWait : Database → Database → Type 0
NewOrdersWait t u = (k : OrderKey) (order : Order) → get t.orders k ≡ None → get u.orders k ≡ Some order
    → order.carrier ≡ None
