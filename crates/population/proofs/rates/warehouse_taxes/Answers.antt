use Rattle.std.proofs.Common.{◌≡◌, ◌+◌, [], ◌∷◌, ◌++◌, map, sym, ap, ◌∙◌, arith}
use Rattle.std.proofs.lemmas.List.FromFn.{map-range_with_len_more}
use Rattle.std.specs.List.{range_with_len}
use Rattle.tables.specs.Database.{database}
use Rattle.tables.specs.NewOrder.{warehouse_tax}
use Rattle.population.proofs.rates.warehouse_taxes.Goals as goal

pub loop-done-preserved : goal.loop-done-preserved
loop-done-preserved c =
    let t = database c.args.tables.now in
    let n = c.loop-done.done in
    record {
      listed = c.in_ok-push.ensures.items ∙ (λ i. c.loop-done.invariant.listed i ++ c.warehouse_tax_in.ensures i ∷ [])
          ∙ sym (map-range_with_len_more (warehouse_tax t) 1 n (n + 1) (omega arith));
    }

pub returns : goal.returns
returns c =
    let t = database c.args.tables.now in
    let all : c.loop-done.done ≡ t.scale.warehouses = omega (arith, c.loop-done.auto.done-end, c.loop-done-test.false, c.warehouses-count.ensures.value) in
    c.loop-done.invariant.listed ∙ ap (λ n. map (warehouse_tax t) (range_with_len 1 n)) all
