use Rattle.std.proofs.Common.{◌≡◌, ◌-◌, ℕ, List, length, get_or, refl, ap, ◌∙◌, arith}
use Rattle.population.specs.Initial.{initial}
use Rattle.population.proofs.Rated.{all_warehouse_taxes, warehouse_tax_at}
use Rattle.population.proofs.population.Population.warehouse_tax.Goals as goal

pub index-requires : goal.index-requires
index-requires c =
    let p = c.args.self.now in
    let within = c.if-not-is_between.ensures.0 refl in
    let all : length p.warehouse_taxes.items ≡ (initial p).scale.warehouses = ap length p.warehouses_taxed ∙ all_warehouse_taxes (initial p) in
    omega (arith, within.0, within.1, c.warehouses.ensures.value, all, p.warehouse_taxes.ok.0)

pub returns : goal.returns
returns c =
    let p = c.args.self.now in
    let within = c.if-not-is_between.ensures.0 refl in
    c.index.ensures ∙ ap (λ (rates : List ℕ). get_or rates (c.args.warehouse - 1) c.index.result.now) p.warehouses_taxed
    ∙ warehouse_tax_at (initial p) c.args.warehouse c.index.result.now within.0 (omega (arith, within.1, c.warehouses.ensures.value))
