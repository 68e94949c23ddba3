use Rattle.std.proofs.Common.{◌≡◌, Bool, List, length, get_or, refl, sym, ap, ◌∙◌, arith}
use Rattle.population.specs.Initial.{initial}
use Rattle.population.specs.Credits.{bad_credits_of}
use Rattle.population.proofs.Rated.{all_credits, credit_at, no_bad_credit}
use Rattle.population.proofs.population.Population.has_bad_credit.Goals as goal

pub returns-then-not-has_customer : goal.returns-then-not-has_customer
returns-then-not-has_customer c =
    let p = c.args.self.now in
    sym (no_bad_credit (initial p) p.well_formed c.args.key (λ has. absurd (let e = c.has_customer.ensures.1 has in cc)))

pub index-requires : goal.index-requires
index-requires c =
    let p = c.args.self.now in
    let all : length p.bad_credits.items ≡ _ = ap length p.credited ∙ all_credits (initial p) in
    omega (arith, all, c.place_of_customer-place.ensures.limit, p.bad_credits.ok.0)

pub returns : goal.returns
returns c =
    let p = c.args.self.now in
    let has = c.if-not-has_customer.ensures.0 refl in
    c.index.ensures ∙ ap (λ (credits : List Bool). get_or credits c.place_of_customer-place.result c.index.result.now) p.credited
    ∙ ap (λ n. get_or (bad_credits_of (initial p)) n c.index.result.now) c.place_of_customer-place.ensures.value
    ∙ credit_at (initial p) c.args.key c.index.result.now has
