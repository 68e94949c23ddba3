-- What contracts see of a deck.
use Rattle.std.specs.Prelude.{◌≡◌, ℕ, ◌+◌, ◌%◌}
use Rattle.tables.specs.Sizes.{Sizes}
use Rattle.tables.specs.declared.input.Input.{Input}
use Rattle.tables.specs.declared.input.Input.TheVariants as input

-- the scale of the inputs, the warehouse that they are of, and the next input with its date
pub record DeckView : Type 0 where
  pub scale : Sizes
  pub home : ℕ
  pub date : ℕ
  pub next : Input

-- the home warehouse of a terminal
abbrev pub home_warehouse : Sizes → ℕ → ℕ
home_warehouse s terminal = terminal % s.warehouses + 1

-- an input of this warehouse and date
abbrev pub IsAskedAt : ℕ → ℕ → Input → Type 0
IsAskedAt w date (input.Payment x) = (x.warehouse ≡ w) × (x.date ≡ date)
IsAskedAt w date (input.NewOrder x) = (x.warehouse ≡ w) × (x.date ≡ date)
IsAskedAt w date (input.Delivery x) = (x.warehouse ≡ w) × (x.date ≡ date)
IsAskedAt w date (input.OrderStatus x) = (x.warehouse ≡ w) × (x.date ≡ date)
IsAskedAt w date (input.StockLevel x) = (x.warehouse ≡ w) × (x.date ≡ date)
