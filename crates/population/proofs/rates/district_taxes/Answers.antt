use Rattle.std.proofs.Common.{◌≡◌, ℕ, [], ◌∷◌, ◌++◌, map, sym, ap, ◌∙◌, arith}
use Rattle.std.proofs.lemmas.List.FromFn.{map-range_with_len_more}
use Rattle.std.specs.List.{range_with_len}
use Rattle.tables.specs.Database.{database}
use Rattle.tables.specs.NewOrder.{district_tax}
use Rattle.tables.specs.Records.{size, district_at}
use Rattle.tables.specs.declared.records.Table.TheVariants as table
use Rattle.population.proofs.rates.district_taxes.Goals as goal

pub loop-place-preserved : goal.loop-place-preserved
loop-place-preserved c =
    let t = database c.args.tables.now in
    let f : ℕ → ℕ = λ p. district_tax t (district_at t.scale p) in
    let n = c.loop-place.place in
    let rate = c.district_tax_in.ensures ∙ ap (district_tax t) c.district_at-key.ensures in
    record {
      listed = c.in_ok-push.ensures.items ∙ (λ i. c.loop-place.invariant.listed i ++ rate i ∷ []) ∙ sym (map-range_with_len_more f 0 n n (omega arith));
    }

pub returns : goal.returns
returns c =
    let t = database c.args.tables.now in
    let all : c.loop-place.place ≡ size t.scale table.District = omega (arith, c.loop-place.auto.place-end, c.loop-place-test.false, c.size-count.ensures.value) in
    c.loop-place.invariant.listed ∙ ap (λ n. map (λ p. district_tax t (district_at t.scale p)) (range_with_len 0 n)) all
