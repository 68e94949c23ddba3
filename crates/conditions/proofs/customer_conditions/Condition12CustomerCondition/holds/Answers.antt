use Rattle.std.proofs.Common.{◌≡◌, Option, pos, ◌+ℤ◌, ◌∙◌, arith}
use Rattle.std.proofs.lemmas.Int.{ints}
use mir.Syntax.{w128}
use mir.Val.{to_z, of_z}
use Rattle.std.specs.Option.{option_map_or}
use Rattle.tables.specs.Keys.{customer_cmp}
use Rattle.tables.specs.Maps.{column}
use Rattle.tables.specs.Database.{database}
use Rattle.tables.specs.declared.rows.Customer.{Customer}
use Rattle.tables.proofs.Orders.{exact_customer}
use Rattle.conditions.proofs.Told.{walked, walked_amount, same_told}
use Rattle.conditions.proofs.customer_conditions.Condition12CustomerCondition.holds.Goals as goal

pub returns-clause-answer : goal.returns-clause-answer
returns-clause-answer c =
    let t = database c.args._tables.now in
    let balance : c.balance-balance.result ≡ column (λ r. r.balance) t.customers c.args.key.now =
    walked exact_customer (λ (w : Option Customer). option_map_or (λ r. r.balance) w (pos 0)) c.args._tables.now.customers c.args.key.now _ _
    c.requires.walks.customers c.balance-balance.ensures.cents in
    let paid : c.paid-paid.result ≡ column (λ r. r.paid) t.customers c.args.key.now =
    walked exact_customer (λ (w : Option Customer). option_map_or (λ r. r.paid) w (pos 0)) c.args._tables.now.customers c.args.key.now _ _
    (c.balance-balance.ensures.stays ∙ c.requires.walks.customers) c.paid-paid.ensures.cents in
    let both : to_z w128 (of_z w128 c.both.result) ≡ column (λ r. r.balance) t.customers c.args.key.now +ℤ column (λ r. r.paid) t.customers c.args.key.now =
    omega (arith, ints, c.both.ensures, balance, paid) in
    let same : to_z w128 (of_z w128 c.amount_along-delivered.result) ≡ c.amount_along-delivered.result = omega (arith, ints) in
    same_told _ _ _ _ c.equal.ensures both
    (same ∙ walked_amount customer_cmp c.args._sums.now.lines.delivered c.args.key.now _ _ c.requires.walks.delivered c.amount_along-delivered.ensures.amount
    ∙ c.requires.sums.lines.delivered c.args.key.now)
