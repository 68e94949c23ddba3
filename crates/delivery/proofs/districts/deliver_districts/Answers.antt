use Rattle.std.proofs.Common.{◌≡◌, ◌+◌, ◌-◌, ◌*◌, ◌^◌, ◌<◌, List, [], ◌∷◌, All, length, sym, ap, ◌∙◌, subst, arith}
use Rattle.std.proofs.lemmas.List.{length-append}
use Rattle.std.proofs.lemmas.List.Elements.{All-push}
use Rattle.std.specs.Option.{ForSome}
use Rattle.tables.specs.Sizes.{Sizes}
use Rattle.tables.specs.declared.delivery.DeliveredOrder.{DeliveredOrder}
use Rattle.readset.proofs.UnderWay.{goes_on_twice}
use Rattle.delivery.specs.Steps.{AreDone, AreOldestRead, AreTold}
use Rattle.delivery.proofs.RaisedOldest.{one_more_read}
use Rattle.delivery.proofs.Told.{told_next}
use Rattle.delivery.proofs.districts.deliver_districts.Goals as goal

pub deliver_district-requires-clause-done : goal.deliver_district-requires-clause-done
deliver_district-requires-clause-done g c =
    let done = c.loop-done.done in
    let before : done ≡ done + 1 - 1 = omega arith in
    subst (λ n. AreDone g.K.Start.tables c.args.delivery.now n 0 c.loop-done.transaction) before c.loop-done.invariant.done

pub loop-done-preserved : goal.loop-done-preserved
loop-done-preserved g c =
    let i = c.loop-done.invariant in
    let x = c.args.delivery.now in
    let t0 = g.K.Start.tables in
    let done = c.loop-done.done in
    record {
      done = c.in_ok-order.ensures.done;
      told = subst (λ (os : List DeliveredOrder). AreTold t0 x (done + 1) c.deliver_district.new.transaction os) (sym c.in_ok-push.ensures.items)
          (told_next t0 x done c.loop-done.transaction c.deliver_district.new.transaction c.loop-done.orders.items c.in_ok-order.order i.told
          c.deliver_district.ensures.goes_on c.in_ok-order.ensures.told);
      all = let longer = ap length c.in_ok-push.ensures.items ∙ length-append c.loop-done.orders.items (c.in_ok-order.order ∷ []) in
          omega (arith, longer, i.all);
      range = subst (All (λ (o : DeliveredOrder). ForSome o.order (λ n. n + 1 < 2 ^ 32))) (sym c.in_ok-push.ensures.items)
          (All-push (λ (o : DeliveredOrder). ForSome o.order (λ n. n + 1 < 2 ^ 32)) c.loop-done.orders.items c.in_ok-order.order i.range c.in_ok-order.ensures.range);
      oldest = one_more_read t0 x done c.loop-done.transaction c.deliver_district.new.transaction c.deliver_district.ensures.goes_on.keeps i.oldest c.in_ok-order.ensures.holds;
      goes_on = goes_on_twice c.args.transaction.now c.loop-done.transaction c.deliver_district.new.transaction (19 * done) (18 * done) 19 18 (19 * (done + 1))
          (18 * (done + 1)) i.goes_on c.deliver_district.ensures.goes_on
          (omega arith) (omega arith);
    }

pub returns-clause-done : goal.returns-clause-done
returns-clause-done g c =
    let cap : c.scale.result.districts ≡ g.K.Start.tables.scale.districts = ap (λ (s : Sizes). s.districts) c.scale.ensures in
    let all : c.loop-done.done ≡ g.K.Start.tables.scale.districts =
    omega (arith, c.loop-done.auto.done-end, c.loop-done-test.false, c.districts-districts.ensures.value, cap) in
    subst (λ n. AreDone g.K.Start.tables c.args.delivery.now n 0 c.loop-done.transaction) all c.loop-done.invariant.done

pub returns-clause-all : goal.returns-clause-all
returns-clause-all g c =
    let cap : c.scale.result.districts ≡ g.K.Start.tables.scale.districts = ap (λ (s : Sizes). s.districts) c.scale.ensures in
    omega (arith, c.loop-done.invariant.all, c.loop-done.auto.done-end, c.loop-done-test.false, c.districts-districts.ensures.value, cap)

pub returns-clause-oldest : goal.returns-clause-oldest
returns-clause-oldest g c =
    let cap : c.scale.result.districts ≡ g.K.Start.tables.scale.districts = ap (λ (s : Sizes). s.districts) c.scale.ensures in
    let all : c.loop-done.done ≡ g.K.Start.tables.scale.districts =
    omega (arith, c.loop-done.auto.done-end, c.loop-done-test.false, c.districts-districts.ensures.value, cap) in
    subst (λ n. AreOldestRead g.K.Start.tables c.args.delivery.now n c.loop-done.transaction) all c.loop-done.invariant.oldest
