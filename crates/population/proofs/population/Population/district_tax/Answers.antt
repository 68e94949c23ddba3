use Rattle.std.proofs.Common.{◌≡◌, ℕ, List, length, get_or, refl, sym, ap, ◌∙◌, arith}
use Rattle.population.specs.Initial.{initial}
use Rattle.population.specs.Rates.{district_taxes_of}
use Rattle.population.proofs.Rated.{all_district_taxes, district_tax_at, no_district_tax}
use Rattle.population.proofs.population.Population.district_tax.Goals as goal

pub returns-then-not-has_district : goal.returns-then-not-has_district
returns-then-not-has_district c =
    let p = c.args.self.now in
    c.no_rate.ensures ∙ sym (no_district_tax (initial p) p.well_formed c.args.key (λ has. absurd (let e = c.has_district.ensures.1 has in cc)))

pub index-requires : goal.index-requires
index-requires c =
    let p = c.args.self.now in
    let all : length p.district_taxes.items ≡ _ = ap length p.districts_taxed ∙ all_district_taxes (initial p) in
    omega (arith, all, c.place_of_district-place.ensures.limit, p.district_taxes.ok.0)

pub returns : goal.returns
returns c =
    let p = c.args.self.now in
    let has = c.if-not-has_district.ensures.0 refl in
    c.index.ensures ∙ ap (λ (rates : List ℕ). get_or rates c.place_of_district-place.result c.index.result.now) p.districts_taxed
    ∙ ap (λ n. get_or (district_taxes_of (initial p)) n c.index.result.now) c.place_of_district-place.ensures.value
    ∙ district_tax_at (initial p) c.args.key c.index.result.now has
