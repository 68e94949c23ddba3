-- Entries by record number as a transaction keeps them, and the memory that stands ready for one more.
use Rattle.std.specs.Prelude.{◌≡◌, ℕ, ◌<◌, List, [], length, vec_len, vec_capacity}
use Rattle.readset.specs.Arrivals.{in_order}
use Rattle.readset.specs.declared.arrivals.Arrivals.{Arrivals}

-- them, in the order of their numbers
abbrev pub arrived : {X : Type 0} → Arrivals X → List (ℕ × X)
arrived a = in_order a.entries.items a.order.items

-- an entry more can come, of a number with this place in the order. Where no order is listed, it is behind all others
pub record HasSpaceAt {X : Type 0} (a : Arrivals X) (at : ℕ) : Type 0 where
  pub few : length a.entries.items < 4294967295
  pub room : vec_len a.entries < vec_capacity a.entries
  pub listed : 0 < length a.order.items → vec_len a.order < vec_capacity a.order
  pub unlisted : a.order.items ≡ [] → at ≡ length a.entries.items
