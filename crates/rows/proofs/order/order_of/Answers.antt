use Rattle.std.proofs.Common.{rules, ◌≡◌, List, ℕ, [], ◌∷◌, subst}
use Rattle.std.proofs.lemmas.Option.{same_Some}
use Rattle.tables.specs.declared.rows.Order.{Order}
use Rattle.tables.specs.Sizes.{IsNumber}
use Rattle.rows.specs.Columns.{IsOrderOfScale, order_columns}
use Rattle.rows.proofs.order.order_of.Goals as goal

pub returns : goal.returns
returns c =
    let customer = c.number.ensures.some _ c.in_ok-number.was in
    let entry_date = c.number-2.ensures.some _ c.in_ok-number-2.was in
    let carrier = c.nullable.ensures.some _ c.in_ok-nullable.was in
    let line_count = c.number-3.ensures.some _ c.in_ok-number-3.was in
    let all_local = c.flag.ensures.some _ c.in_ok-flag.was in
    let row : Order = record {
      customer = c.in_ok-number.field-0;
      entry_date = c.in_ok-number-2.field-0;
      carrier = c.in_ok-nullable.field-0;
      line_count = c.in_ok-number-3.field-0;
      all_local = c.in_ok-flag.field-0;
    } in
    let words : List ℕ = c.args.customer ∷ c.args.entry_date ∷ c.args.carrier ∷ c.args.line_count ∷ c.args.all_local ∷ [] in
    let is : IsOrderOfScale c.args.scale.now row = record {
      row = record { entry_date = entry_date.0; carrier = carrier.0; line_count = line_count.0 };
      customer = subst (λ (most : ℕ). IsNumber most row.customer) c.customers.ensures.value customer.0;
    } in
    let has : words ≡ order_columns row = λ i. customer.1 i ∷ entry_date.1 i ∷ carrier.1 i ∷ line_count.1 i ∷ all_local.1 i ∷ [] in
    record {
      some = λ r same. subst (λ (q : Order). (IsOrderOfScale c.args.scale.now q) × (words ≡ order_columns q)) (same_Some row r same) (is, has);
      each = search rules;
    }
