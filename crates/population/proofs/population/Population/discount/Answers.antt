use Rattle.std.proofs.Common.{◌≡◌, ℕ, List, length, get_or, refl, sym, ap, ◌∙◌, arith}
use Rattle.population.specs.Initial.{initial}
use Rattle.population.specs.Rates.{discounts_of}
use Rattle.population.proofs.Rated.{all_discounts, discount_at, no_discount}
use Rattle.population.proofs.population.Population.discount.Goals as goal

pub returns-then-not-has_customer : goal.returns-then-not-has_customer
returns-then-not-has_customer c =
    let p = c.args.self.now in
    c.no_rate.ensures ∙ sym (no_discount (initial p) p.well_formed c.args.key (λ has. absurd (let e = c.has_customer.ensures.1 has in cc)))

pub index-requires : goal.index-requires
index-requires c =
    let p = c.args.self.now in
    let all : length p.discounts.items ≡ _ = ap length p.discounted ∙ all_discounts (initial p) in
    omega (arith, all, c.place_of_customer-place.ensures.limit, p.discounts.ok.0)

pub returns : goal.returns
returns c =
    let p = c.args.self.now in
    let has = c.if-not-has_customer.ensures.0 refl in
    c.index.ensures ∙ ap (λ (rates : List ℕ). get_or rates c.place_of_customer-place.result c.index.result.now) p.discounted
    ∙ ap (λ n. get_or (discounts_of (initial p)) n c.index.result.now) c.place_of_customer-place.ensures.value
    ∙ discount_at (initial p) c.args.key c.index.result.now has
