-- The numbers of a district's orders: which there are, and which comes next.
use Rattle.std.specs.Prelude.{ℕ, max, min, Bool, Option, None, Some, List, [], ◌∷◌, map}
use Rattle.std.specs.List.{filter}
use Rattle.std.specs.Option.{option_map_or}
use Rattle.std.specs.FinMap.{FinMap, get, entries}
use Rattle.tables.specs.Keys.{order_cmp, is_district}
use Rattle.tables.specs.Database.{Database}
use Rattle.tables.specs.declared.keys.DistrictKey.{DistrictKey}
use Rattle.tables.specs.declared.keys.OrderKey.{OrderKey}

-- the least of some numbers, if there is one; the greatest, or 0
abbrev pub least : List ℕ → Option ℕ
least [] = None
least (n ∷ ns) = Some (option_map_or (min n) (least ns) n)

abbrev pub greatest : List ℕ → ℕ
greatest [] = 0
greatest (n ∷ ns) = max n (greatest ns)

-- the order numbers of the rows that pass a test, of ORDER or of NEW-ORDER
abbrev pub order_numbers : {X : Type 0} → (OrderKey × X → Bool) → FinMap order_cmp X → List ℕ
order_numbers {X} p m = map (λ (e : OrderKey × X). e.0.order) (filter p (entries m))

-- those of a district
abbrev pub numbers_in : {X : Type 0} → DistrictKey → FinMap order_cmp X → List ℕ
numbers_in {X} k m = order_numbers (λ (e : OrderKey × X). is_district e.0.warehouse e.0.district k) m

-- D_NEXT_O_ID. A column of a missing row counts as 0
abbrev pub next_order : Database → DistrictKey → ℕ
next_order t k = option_map_or (λ r. r.next_order) (get t.districts k) 0
