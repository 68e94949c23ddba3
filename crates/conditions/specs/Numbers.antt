-- How many order numbers there are, the least and the greatest.
use Rattle.std.specs.Prelude.{◌≡◌, ℕ, ◌+◌, ◌<◌, ◌^◌, ◌==◌, cond, min, max, Some, List, length, map, unwrap_or}
use Rattle.std.specs.List.{filter}
use Rattle.std.specs.Option.{option_map_or}
use Rattle.std.specs.Ordering.{eq_by_cmp}
use Rattle.std.specs.BTreeMap.{BTreeMap, get}
use Rattle.tables.specs.Keys.{district_cmp, is_district}
use Rattle.tables.specs.OrderNumbers.{least, greatest}
use Rattle.tables.specs.declared.keys.DistrictKey.{DistrictKey}
use Rattle.tables.specs.declared.keys.OrderKey.{OrderKey}
use Rattle.conditions.specs.declared.numbers.Numbers.{Numbers}
use Rattle.conditions.specs.declared.numbers.Gathered.{Gathered}

-- of no order
abbrev pub no_numbers : Numbers
no_numbers = record { count = 0; least = 0; greatest = 0 }

-- with one order more
abbrev pub with_number : Numbers → ℕ → Numbers
with_number s n = record {
  count = s.count + 1;
  least = cond (s.count == 0) n (min s.least n);
  greatest =
      max s.greatest n;
}

-- those of a district
abbrev pub numbers_at : BTreeMap DistrictKey Numbers → DistrictKey → Numbers
numbers_at numbers k = unwrap_or (get district_cmp numbers k) no_numbers

-- those of a district while rows come in: of the one that is held, what is held
abbrev pub gathered_at : Gathered → DistrictKey → Numbers
gathered_at s k = option_map_or (λ h. cond (eq_by_cmp district_cmp h k) s.held (numbers_at s.numbers k)) s.district
    (numbers_at s.numbers k)

-- the order numbers of a district among these entries of ORDER or of NEW-ORDER
abbrev pub numbers_among : {X : Type 0} → DistrictKey → List (OrderKey × X) → List ℕ
numbers_among {X} k es =
    map (λ (e : OrderKey × X). e.0.order) (filter (λ (e : OrderKey × X). is_district e.0.warehouse e.0.district k) es)

-- what is kept of these order numbers
pub record AreNumbersOf (ns : List ℕ) (s : Numbers) : Type 0 where
  pub count : s.count ≡ length ns
  pub least : 0 < s.count → least ns ≡ Some s.least
  pub greatest : s.greatest ≡ greatest ns
  pub few : s.count < 2 ^ 63
