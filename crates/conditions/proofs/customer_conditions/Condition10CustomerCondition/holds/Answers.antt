use Rattle.std.proofs.Common.{◌≡◌, Option, pos, ◌∙◌, arith}
use Rattle.std.proofs.lemmas.Int.{ints}
use mir.Syntax.{w128}
use mir.Val.{to_z, of_z}
use Rattle.tables.specs.Maps.{column}
use Rattle.tables.specs.Database.{database}
use Rattle.std.specs.Option.{option_map_or}
use Rattle.tables.specs.declared.rows.Customer.{Customer}
use Rattle.tables.proofs.Orders.{exact_customer}
use Rattle.conditions.proofs.Told.{walked, same_told}
use Rattle.conditions.proofs.customer_conditions.Condition10CustomerCondition.holds.Goals as goal

pub returns-clause-answer : goal.returns-clause-answer
returns-clause-answer c =
    let balance : c.balance.result ≡ column (λ r. r.balance) (database c.args.tables.now).customers c.args.key.now =
    walked exact_customer (λ (w : Option Customer). option_map_or (λ r. r.balance) w (pos 0)) c.args.tables.now.customers c.args.key.now _ _
    c.owed-owed.ensures.walks.customers c.balance.ensures.cents in
    let amount : to_z w128 (of_z w128 c.amount-balance.result) ≡ column (λ r. r.balance) (database c.args.tables.now).customers c.args.key.now =
    omega (arith, ints, c.amount-balance.ensures, balance) in
    let same : to_z w128 (of_z w128 c.owed-owed.result) ≡ c.owed-owed.result = omega (arith, ints) in
    same_told _ _ _ _ c.equal.ensures amount (same ∙ c.owed-owed.ensures.amount)
