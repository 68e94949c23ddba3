-- How the pricing of an order's lines may end.
use Rattle.std.specs.Prelude.{◌≡◌, ◌≤ℤ◌, ◌*◌, pos, ⊤, None, Some, List, map, length}
use Rattle.tables.specs.Database.{Database}
use Rattle.tables.specs.NewOrder.{line_amount, lines_amount, first_missing}
use Rattle.tables.specs.declared.new_order.RequestedLine.{RequestedLine}
use Rattle.neworder.specs.declared.prices.Priced.{Priced}
use Rattle.neworder.specs.declared.prices.Pricing.{Pricing}
use Rattle.neworder.specs.declared.prices.Pricing.TheVariants as pricing

-- the amounts of these lines by the prices of ITEM, and their sum
pub record ArePriced (t : Database) (ls : List RequestedLine) (p : Priced) : Type 0 where
  pub none_missing : first_missing t ls ≡ None
  pub amounts : p.amounts.items ≡ map (line_amount t) ls
  pub sum : p.sum ≡ lines_amount t ls
  pub at_least : pos 0 ≤ℤ p.sum
  pub at_most : p.sum ≤ℤ pos (100000 * length ls)

abbrev pub IsPricing : Database → List RequestedLine → Pricing → Type 0
IsPricing t ls (pricing.Priced p) = ArePriced t ls p
IsPricing t ls (pricing.ItemMissing i) = first_missing t ls ≡ Some i
IsPricing t ls pricing.OutOfMemory = ⊤
