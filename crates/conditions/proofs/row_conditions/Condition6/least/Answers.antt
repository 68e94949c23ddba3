use Rattle.std.proofs.Common.{◌≡◌, ℤ, pos, refl, ◌∙◌, unwrap_or}
use Rattle.std.specs.Map.{lookup}
use Rattle.std.specs.BTreeMap.{is_at}
use Rattle.tables.specs.Keys.{order_cmp, is_order}
use Rattle.tables.specs.Maps.{count}
use Rattle.tables.specs.Database.{database}
use Rattle.tables.specs.declared.keys.OrderKey.{OrderKey}
use Rattle.tables.specs.declared.rows.Order.{Order}
use Rattle.tables.proofs.Orders.{exact_order}
use Rattle.conditions.proofs.Told.{walked_amount}
use Rattle.conditions.proofs.Searched.{finds_told}
use Rattle.conditions.proofs.row_conditions.Condition6.least.Goals as goal

pub returns : goal.returns
returns c =
    let counted : (λ (q : OrderKey). unwrap_or (lookup (is_at (order_cmp q)) c.new.result) (pos 0))
    ≡ (λ (q : OrderKey). count (λ j line. is_order j.warehouse j.district j.order q)
    (database c.args.tables.now).lines) =
    λ i q. (walked_amount order_cmp c.args.sums.now.orders q c.new.result _ c.new.ensures refl
    ∙ c.requires.orders q) i in
    finds_told exact_order c.args.tables.now.orders
    (λ (lines : OrderKey → ℤ) (k : OrderKey) (order : Order). pos order.line_count ≡ lines k) _ _ counted
    c.least_row.result c.least_row.ensures
