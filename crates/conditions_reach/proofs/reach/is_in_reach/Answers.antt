use Rattle.std.proofs.Common.{sym, ◌∙◌, true≢false}
use Rattle.conditions_reach.proofs.reach.is_in_reach.Goals as goal

pub returns-then-warehouses_and_districts_near : goal.returns-then-warehouses_and_districts_near
returns-then-warehouses_and_districts_near c =
    let paid = rw c.money_in-money.ensures at c.warehouses_and_districts_near.ensures in
    let others = rw (c.money_in-money.ensures, c.count_in-count.ensures) at c.customers_and_stock_near.ensures in (
      λ t. record {
        warehouses = (paid.0 c.if-warehouses_and_districts_near.true).0;
        districts = (paid.0 c.if-warehouses_and_districts_near.true).1;
        customers = (others.0 t).0;
        stock = (others.0 t).1;
      },
      λ near. others.1 (near.customers, near.stock),
    )

pub returns-else-warehouses_and_districts_near : goal.returns-else-warehouses_and_districts_near
returns-else-warehouses_and_districts_near c =
    let paid = rw c.money_in-money.ensures at c.warehouses_and_districts_near.ensures in
    (λ t. absurd (true≢false (sym t ∙ c.if-warehouses_and_districts_near.false)), λ near. paid.1 (near.warehouses, near.districts))
