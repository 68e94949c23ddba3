use Rattle.std.proofs.Common.{◌≡◌, ◌∙◌, arith}
use Rattle.std.proofs.lemmas.Int.{ints}
use Rattle.tables.specs.Keys.{customer_cmp}
use Rattle.tables.specs.Database.{database}
use Rattle.tables.specs.Conditions.{delivered_amount, paid_by_customer}
use Rattle.conditions_walks.specs.Amounts.{amount_at}
use Rattle.conditions.proofs.Told.{walked_amount}
use Rattle.conditions.proofs.customer_conditions.owed.Goals as goal

pub returns-clause-amount : goal.returns-clause-amount
returns-clause-amount c =
    let t = database c.args.tables.now in
    let delivered : c.amount_along-delivered.result ≡ delivered_amount t c.args.key.now = walked_amount customer_cmp c.args.sums.now.lines.delivered c.args.key.now _ _ c.requires.walks.delivered
    c.amount_along-delivered.ensures.amount ∙ c.requires.sums.lines.delivered c.args.key.now in
    let paid : c.amount_along-paid.result ≡ paid_by_customer t c.args.key.now = walked_amount customer_cmp c.args.sums.now.history.customers c.args.key.now _ _ c.requires.walks.history
    c.amount_along-paid.ensures.amount ∙ c.requires.sums.history.customers c.args.key.now in
    omega (arith, ints, c.difference.ensures, delivered, paid)

pub difference-requires : goal.difference-requires
difference-requires c =
    let delivered : c.amount_along-delivered.result ≡ amount_at customer_cmp c.args.sums.now.lines.delivered c.args.key.now =
    walked_amount customer_cmp c.args.sums.now.lines.delivered c.args.key.now _ _ c.requires.walks.delivered c.amount_along-delivered.ensures.amount in
    let paid : c.amount_along-paid.result ≡ amount_at customer_cmp c.args.sums.now.history.customers c.args.key.now =
    walked_amount customer_cmp c.args.sums.now.history.customers c.args.key.now _ _ c.requires.walks.history c.amount_along-paid.ensures.amount in
    record {
      one_low = omega (arith, ints, delivered, c.requires.sums.lines.delivered_bound.0 c.args.key.now);
      one_high = omega (arith, ints, delivered, c.requires.sums.lines.delivered_bound.1 c.args.key.now);
      other_low = omega (arith, ints, paid, c.requires.sums.history.customers_bound.0 c.args.key.now);
      other_high = omega (arith, ints, paid, c.requires.sums.history.customers_bound.1 c.args.key.now);
    }
