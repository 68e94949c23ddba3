use Rattle.std.proofs.Common.{◌≡◌, ◌-◌, ℤ, List, Option, get_or, length, refl, ap, ◌∙◌, arith}
use Rattle.tables.specs.Sizes.{Sizes}
use Rattle.population.specs.Initial.{initial}
use Rattle.population.proofs.Listed.{all_priced, price_at}
use Rattle.population.proofs.population.Population.price.Goals as goal

pub index-requires : goal.index-requires
index-requires c =
    let p = c.args.self.now in
    let within = c.if-not-is_between.ensures.0 refl in
    let all : length p.prices.items ≡ (initial p).scale.items = ap length p.priced ∙ all_priced (initial p) in
    let items : c.items.result ≡ (initial p).scale.items = c.items.ensures.value ∙ ap (λ (s : Sizes). s.items) c.scale.ensures in
    omega (arith, within.0, within.1, items, all, p.prices.ok.0)

pub returns : goal.returns
returns c =
    let p = c.args.self.now in
    let i = c.args.item in
    let within = c.if-not-is_between.ensures.0 refl in
    let items : c.items.result ≡ (initial p).scale.items = c.items.ensures.value ∙ ap (λ (s : Sizes). s.items) c.scale.ensures in
    c.index.ensures ∙ ap (λ (prices : List (Option ℤ)). get_or prices (i - 1) c.index.result.now) p.priced
    ∙ price_at (initial p) i c.index.result.now within.0 (omega (arith, within.1, items))
