use Rattle.std.proofs.Common.{rules, ◌≡◌, List, ℕ, [], ◌∷◌, subst}
use Rattle.std.proofs.lemmas.Option.{same_Some}
use Rattle.tables.specs.Sizes.{IsNumber}
use Rattle.tables.specs.WellFormed.{IsLineRow}
use Rattle.tables.specs.declared.rows.OrderLine.{OrderLine}
use Rattle.rows.specs.Columns.{line_columns}
use Rattle.rows.proofs.order_line.line_of.Goals as goal

pub returns : goal.returns
returns c =
    let item = c.number.ensures.some _ c.in_ok-number.was in
    let supply_warehouse = c.number-2.ensures.some _ c.in_ok-number-2.was in
    let delivery_date = c.nullable.ensures.some _ c.in_ok-nullable.was in
    let quantity = c.number-3.ensures.some _ c.in_ok-number-3.was in
    let amount = c.line_amount.ensures.some _ c.in_ok-line_amount.was in
    let row : OrderLine = record {
      item = c.in_ok-number.field-0;
      supply_warehouse = c.in_ok-number-2.field-0;
      delivery_date = c.in_ok-nullable.field-0;
      quantity = c.in_ok-number-3.field-0;
      amount = c.in_ok-line_amount.field-0;
    } in
    let words : List ℕ = c.args.item ∷ c.args.supply_warehouse ∷ c.args.delivery_date ∷ c.args.quantity ∷ c.args.amount ∷ [] in
    let is : IsLineRow c.args.scale.now row = record {
      item = subst (λ (most : ℕ). IsNumber most row.item) c.items.ensures.value item.0;
      supply_warehouse = subst (λ (most : ℕ). IsNumber most row.supply_warehouse) c.warehouses.ensures.value supply_warehouse.0;
      delivery_date = delivery_date.0;
      quantity = quantity.0;
      at_least = amount.0.0;
      at_most = amount.0.1;
    } in
    let has : words ≡ line_columns row = λ i. item.1 i ∷ supply_warehouse.1 i ∷ delivery_date.1 i ∷ quantity.1 i ∷ amount.1 i ∷ [] in
    record {
      some = λ r same. subst (λ (q : OrderLine). (IsLineRow c.args.scale.now q) × (words ≡ line_columns q)) (same_Some row r same) (is, has);
      each = search rules;
    }
