-- A drawn input.
use Rattle.std.specs.Prelude.{◌≡◌, ℕ, ◌≤◌, ⊤}
use Rattle.tables.specs.Sizes.{Sizes}
use Rattle.tables.specs.Inputs.{IsInput}
use Rattle.tables.specs.declared.limits.TheConstants.{MAX_ORDER_LINES}
use Rattle.tables.specs.declared.input.Input.{Input}
use Rattle.tables.specs.declared.input.Input.TheVariants as input
use Rattle.terminals_deck.specs.Deck.{IsAskedAt}
use Rattle.terminals_deck.specs.Order.{new_order_of}
use Rattle.terminals_deck.specs.declared.drawn.Drawn.{Drawn}
use Rattle.terminals_deck.specs.declared.drawn.Drawn.TheVariants as drawn

-- the input that was drawn
abbrev pub input_of : Drawn → Input
input_of (drawn.NewOrder x) = input.NewOrder (new_order_of x)
input_of (drawn.Payment x) = input.Payment x
input_of (drawn.OrderStatus x) = input.OrderStatus x
input_of (drawn.Delivery x) = input.Delivery x
input_of (drawn.StockLevel x) = input.StockLevel x

-- an order has no more lines than there is room for
abbrev pub HasLineRoom : Drawn → Type 0
HasLineRoom (drawn.NewOrder x) = x.count ≤ MAX_ORDER_LINES
HasLineRoom _ = ⊤

-- a drawn input is one of the scale, of this warehouse and date
pub record IsDrawn (s : Sizes) (w date : ℕ) (x : Drawn) : Type 0 where
  pub room : HasLineRoom x
  pub valid : IsInput s (input_of x)
  pub asked : IsAskedAt w date (input_of x)
