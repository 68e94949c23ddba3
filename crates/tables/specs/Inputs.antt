-- Which inputs a scale has.
use Rattle.tables.specs.Sizes.{Sizes}
use Rattle.tables.specs.Payment.{IsPayment}
use Rattle.tables.specs.NewOrder.{IsNewOrder}
use Rattle.tables.specs.Delivery.{IsDelivery}
use Rattle.tables.specs.OrderStatus.{IsOrderStatus}
use Rattle.tables.specs.StockLevel.{IsStockLevel}
use Rattle.tables.specs.declared.input.Input.{Input}
use Rattle.tables.specs.declared.input.Input.TheVariants as input

abbrev pub IsInput : Sizes → Input → Type 0
IsInput s (input.Payment x) = IsPayment s x
IsInput s (input.NewOrder x) = IsNewOrder s x
IsInput s (input.Delivery x) = IsDelivery s x
IsInput s (input.OrderStatus x) = IsOrderStatus s x
IsInput s (input.StockLevel x) = IsStockLevel s x
