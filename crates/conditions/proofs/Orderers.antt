-- Whose a line is.
use Rattle.std.proofs.Common.{◌≡◌, Bool, true, false, ◌&&◌, ◌==◌, Option, Some, None, is_some, refl, ap, ◌∙◌}
use Rattle.std.specs.Option.{option_map_or}
use Rattle.std.specs.FinMap.{FinMap, get}
use Rattle.tables.specs.Keys.{order_cmp, is_customer, order_of}
use Rattle.tables.specs.Conditions.{is_line_of}
use Rattle.tables.specs.declared.keys.CustomerKey.{CustomerKey}
use Rattle.tables.specs.declared.keys.LineKey.{LineKey}
use Rattle.tables.specs.declared.rows.Order.{Order}
use Rattle.tables.specs.declared.rows.OrderLine.{OrderLine}

and_false : (b : Bool) → (b && false) ≡ false
and_false true = refl
and_false false = refl

-- a line whose order is missing is nobody's
pub no_order : (orders : FinMap order_cmp Order) (k : CustomerKey) (j : LineKey) (line : OrderLine) → get orders (order_of j) ≡ None
    → is_line_of orders k j line ≡ false
no_order orders k j line none =
    ap (λ (w : Option Order). (is_some line.delivery_date && (j.warehouse == k.warehouse) && (j.district == k.district))
    && option_map_or (λ order. order.customer == k.customer) w false) none
    ∙ and_false _

-- a delivered line is its order's customer's
pub line_of_orderer : (orders : FinMap order_cmp Order) (k : CustomerKey) (j : LineKey) (line : OrderLine) (order : Order) → is_some line.delivery_date ≡ true
    → get orders (order_of j) ≡ Some order
    → is_line_of orders k j line ≡ is_customer j.warehouse j.district order.customer k
line_of_orderer orders k j line order delivered found =
    (λ i. (delivered i && (j.warehouse == k.warehouse) && (j.district == k.district)) && option_map_or (λ o. o.customer == k.customer) (found i) false)
