use Rattle.std.proofs.Common.{◌≡◌, [], ◌∷◌, ◌++◌, map, sym, ap, ◌∙◌, arith}
use Rattle.std.specs.List.{range_with_len}
use Rattle.tables.specs.Database.{database}
use Rattle.population.specs.Prices.{price_of}
use Rattle.population.proofs.Listed.{prices_more}
use Rattle.population.proofs.prices.prices.Goals as goal

pub loop-done-preserved : goal.loop-done-preserved
loop-done-preserved c =
    let t = database c.args.tables.now in
    record {
      listed = c.in_ok-push.ensures.items ∙ (λ i. c.loop-done.invariant.listed i ++ c.price_in.ensures i ∷ []) ∙ sym (prices_more t c.loop-done.done);
    }

pub returns : goal.returns
returns c =
    let t = database c.args.tables.now in
    let all : c.loop-done.done ≡ t.scale.items = omega (arith, c.loop-done.auto.done-end, c.loop-done-test.false, c.items-items.ensures.value) in
    c.loop-done.invariant.listed ∙ ap (λ n. map (price_of t) (range_with_len 1 n)) all
