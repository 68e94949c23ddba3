use Rattle.std.proofs.Common.{sym, ap, ◌∙◌}
use Rattle.std.specs.Option.{option_map}
use Rattle.std.specs.FinMap.{get}
use Rattle.tables.specs.Keys.{order_key}
use Rattle.tables.specs.OrderStatus.{told_of}
use Rattle.tables.specs.declared.keys.DistrictKey.{DistrictKey}
use Rattle.tables.specs.declared.keys.OrderKey.{OrderKey}
use Rattle.readset.proofs.UnderWay.{candidate_still}
use Rattle.queries.proofs.StatusExplained.{status_explained}
use Rattle.queries.proofs.status.read_reply.Goals as goal

pub returns-clause-reply : goal.returns-clause-reply
returns-clause-reply g c =
    let t0 = g.K.Start.tables in
    let first = c.read_balance.new.transaction in
    let second = c.read_last.new.transaction in
    let last = c.read_order.new.transaction in
    let key = c.order_key.ensures ∙ ap (λ (k : DistrictKey). order_key k c.in_ok-order.order) c.home.ensures in
    status_explained t0 c.args.query.now c.args.customer c.requires.asked last.reads c.in_ok-balance.balance c.in_ok-order.order c.in_ok-order-2.order
    (λ t h. c.in_ok-balance.ensures.balance t
    (candidate_still t0 first second _ c.read_last.ensures.reads t (candidate_still t0 second last _ c.read_order.ensures.reads t h)))
    (λ t h. c.in_ok-order.ensures.last t (candidate_still t0 second last _ c.read_order.ensures.reads t h))
    (λ t h. ap (λ (k : OrderKey). option_map (told_of t k) (get t.orders k)) (sym key) ∙ c.in_ok-order-2.ensures.told t h)
