-- Customers by their last names (TPC-C 2.5.2.2, 2.6.2.2).
use Rattle.std.specs.Prelude.{ℕ, ◌+◌, ◌-◌, ◌/◌, ◌==◌, ◌&&◌, Option, List, map, length}
use Rattle.std.specs.List.{filter, slice_get}
use Rattle.std.specs.Option.{option_map}
use Rattle.std.specs.FinMap.{FinMap, entries, keys, from_entries}
use Rattle.std.specs.Ordering.{nat_cmp, ordering_then}
use Rattle.std.specs.declared.cmp.Ordering.{Ordering}
use Rattle.tables.specs.Keys.{customer_cmp, is_district}
use Rattle.tables.specs.declared.keys.DistrictKey.{DistrictKey}
use Rattle.tables.specs.declared.keys.CustomerKey.{CustomerKey}
use Rattle.tables.specs.declared.names.NameKey.{NameKey}
use Rattle.tables.specs.declared.rows.Customer.{Customer}

-- the order of names: column by column
abbrev pub name_cmp : NameKey → NameKey → Ordering
name_cmp a b =
    ordering_then (nat_cmp a.warehouse b.warehouse)
    (ordering_then (nat_cmp a.district b.district)
    (ordering_then (nat_cmp a.last_name b.last_name)
    (ordering_then (nat_cmp a.first_name b.first_name) (nat_cmp a.customer b.customer))))

abbrev pub name_of : CustomerKey → Customer → NameKey
name_of k r = record {
  warehouse = k.warehouse;
  district = k.district;
  last_name = r.last_name;
  first_name =
      r.first_name;
  customer = k.customer;
}

-- the names of all customers, in their order
abbrev pub names : FinMap customer_cmp Customer → List NameKey
names customers = keys (from_entries {X = Unit {0}} {R = name_cmp}
    (map (λ (e : CustomerKey × Customer). (name_of e.0 e.1, tt)) (entries customers)))

-- those of a district with a last name: they stand in the order of C_FIRST, and where that is the same of C_ID
abbrev pub named : List NameKey → DistrictKey → ℕ → List NameKey
named ks d n = filter (λ k. is_district k.warehouse k.district d && (k.last_name == n)) ks

-- the one at position n/2, rounded up, of n that are counted from 1 (TPC-C 2.5.2.2)
abbrev pub middle : List NameKey → Option NameKey
middle ks = slice_get ks ((length ks + 1) / 2 - 1)

-- the C_ID of the customer whom a last name means in a district, if it is somebody's there
abbrev pub customer_named : List NameKey → DistrictKey → ℕ → Option ℕ
customer_named ks d n = option_map (λ k. k.customer) (middle (named ks d n))
