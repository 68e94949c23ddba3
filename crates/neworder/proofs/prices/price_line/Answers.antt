use Rattle.std.proofs.Common.{◌≡◌, ◌≤ℤ◌, ℤ, pos, Option, IfNone, is_some, false, sym, ap, ◌∙◌, subst}
use Rattle.std.specs.FinMap.{get}
use Rattle.tables.specs.declared.limits.TheConstants.{MAX_PRICE}
use Rattle.population.specs.Initial.{initial}
use Rattle.neworder.proofs.Amounts.{row_priced, none_priced, amount_is}
use Rattle.neworder.proofs.prices.price_line.Goals as goal

pub returns-in_err-price-clause-missing : goal.returns-in_err-price-clause-missing
returns-in_err-price-clause-missing c =
    let t = initial c.args.population.now in
    let i = c.args.line.now.item in
    let missing : is_some (get t.items i) ≡ false = ap is_some (none_priced t i (sym c.price.ensures ∙ c.in_err-price.was)) in
    subst (λ (r : Option ℤ). IfNone r (is_some (get t.items i) ≡ false)) (sym c.from_residual.ensures) missing

pub times-requires-clause-low : goal.times-requires-clause-low
times-requires-clause-low c =
    let p = c.args.population.now in
    let row = row_priced (initial p) c.args.line.now.item c.in_ok-price.price (sym c.price.ensures ∙ c.in_ok-price.was) in
    subst (λ z. pos 0 ≤ℤ z) (sym row.2) (p.well_formed.item_rows c.args.line.now.item row.0 row.1).at_least

pub times-requires-clause-high : goal.times-requires-clause-high
times-requires-clause-high c =
    let p = c.args.population.now in
    let row = row_priced (initial p) c.args.line.now.item c.in_ok-price.price (sym c.price.ensures ∙ c.in_ok-price.was) in
    subst (λ z. z ≤ℤ MAX_PRICE) (sym row.2) (p.well_formed.item_rows c.args.line.now.item row.0 row.1).at_most

pub returns-clause-amount : goal.returns-clause-amount
returns-clause-amount c =
    c.times.ensures.amount ∙ amount_is (initial c.args.population.now) c.args.line.now c.in_ok-price.price (sym c.price.ensures ∙ c.in_ok-price.was)

pub returns-clause-there : goal.returns-clause-there
returns-clause-there c =
    ap is_some (row_priced (initial c.args.population.now) c.args.line.now.item c.in_ok-price.price (sym c.price.ensures ∙ c.in_ok-price.was)).1
