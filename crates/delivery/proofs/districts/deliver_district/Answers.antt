use Rattle.std.proofs.Common.{◌≡◌, ℕ, ◌+◌, ◌-◌, Option, IsSome, sym, ap, ◌∙◌, subst, arith}
use Rattle.tables.specs.Records.{number_of_key}
use Rattle.tables.specs.Delivery.{waiting}
use Rattle.tables.specs.declared.keys.DistrictKey.{DistrictKey}
use Rattle.tables.specs.declared.keys.OrderKey.{OrderKey}
use Rattle.tables.specs.declared.delivery.DeliveredOrder.{DeliveredOrder}
use Rattle.tables.specs.declared.records.RecordKey.TheVariants as key
use Rattle.readset.specs.Reads.{held}
use Rattle.readset.proofs.MoreReads.{still_read}
use Rattle.readset.proofs.UnderWay.{goes_on, goes_on_twice, candidate_then}
use Rattle.delivery.specs.Steps.{AreDone}
use Rattle.delivery.proofs.Ended.{none_to_do, done_with_more}
use Rattle.delivery.proofs.districts.deliver_district.Goals as goal

pub returns-in_default-clause-done : goal.returns-in_default-clause-done
returns-in_default-clause-done g c =
    let x = c.args.delivery.now in
    let next : c.args.district ≡ c.args.district - 1 + 1 = omega (arith, c.requires.district.0) in
    subst (λ n. AreDone g.K.Start.tables x n 0 c.read_waiting.new.transaction) (sym next)
    (none_to_do g.K.Start.tables x (c.args.district - 1) c.args.transaction.now c.read_waiting.new.transaction 2 c.requires.done c.read_waiting.ensures.reads
    (λ t h. ap (λ d. waiting t (record { warehouse = x.warehouse; district = d })) (sym next) ∙ ap (waiting t) (sym c.district_key-home.ensures)
    ∙ (c.in_ok-number.ensures.waits t h).0 ∙ c.in_default.is))

pub deliver_order-requires-clause-done : goal.deliver_order-requires-clause-done
deliver_order-requires-clause-done g c =
    let same : c.args.district ≡ c.order_key.result.district =
    ap (λ (h : DistrictKey). h.district) (sym c.district_key-home.ensures) ∙ ap (λ (k : OrderKey). k.district) (sym c.order_key.ensures) in
    subst (λ n. AreDone g.K.Start.tables c.args.delivery.now (n - 1) 0 c.read_waiting.new.transaction) same
    (done_with_more g.K.Start.tables c.args.delivery.now (c.args.district - 1) c.args.transaction.now c.read_waiting.new.transaction 2 c.requires.done
    c.read_waiting.ensures.reads)

pub returns-in_err-deliver_order-clause-goes_on : goal.returns-in_err-deliver_order-clause-goes_on
returns-in_err-deliver_order-clause-goes_on g c =
    goes_on_twice c.args.transaction.now c.read_waiting.new.transaction c.deliver_order.new.transaction 2 0 17 18 19 18
    (goes_on 2 0 c.args.transaction.now c.read_waiting.new.transaction c.read_waiting.ensures.reads) c.deliver_order.ensures.goes_on (omega arith) (omega arith)

pub returns-clause-told : goal.returns-clause-told
returns-clause-told g c = λ t h.
    let waits = c.in_ok-number.ensures.waits t
    (candidate_then g.K.Start.tables c.read_waiting.new.transaction c.deliver_order.new.transaction 17 18 c.deliver_order.ensures.goes_on t h) in
    ap {B = DeliveredOrder} (λ (o : Option ℕ). record { district = c.args.district; order = o }) (sym (ap (waiting t) (sym c.district_key-home.ensures) ∙ waits.0 ∙ c.in-Some.is))

pub returns-clause-goes_on : goal.returns-clause-goes_on
returns-clause-goes_on g c =
    goes_on_twice c.args.transaction.now c.read_waiting.new.transaction c.deliver_order.new.transaction 2 0 17 18 19 18
    (goes_on 2 0 c.args.transaction.now c.read_waiting.new.transaction c.read_waiting.ensures.reads) c.deliver_order.ensures.goes_on (omega arith) (omega arith)

pub returns-clause-done : goal.returns-clause-done
returns-clause-done g c =
    let same : c.order_key.result.district ≡ c.args.district =
    ap (λ (k : OrderKey). k.district) c.order_key.ensures ∙ ap (λ (h : DistrictKey). h.district) c.district_key-home.ensures in
    subst (λ n. AreDone g.K.Start.tables c.args.delivery.now n 0 c.deliver_order.new.transaction) same c.in_ok-deliver_order.ensures.done

pub returns-in_default-clause-holds : goal.returns-in_default-clause-holds
returns-in_default-clause-holds g c =
    subst (λ (h : DistrictKey). IsSome (held c.read_waiting.new.transaction.reads (number_of_key g.K.Start.tables.scale (key.Oldest h))))
    c.district_key-home.ensures c.in_ok-number.ensures.holds

pub returns-clause-holds : goal.returns-clause-holds
returns-clause-holds g c =
    still_read c.read_waiting.new.transaction.reads c.deliver_order.new.transaction.reads _ c.deliver_order.ensures.goes_on.keeps
    (subst (λ (h : DistrictKey). IsSome (held c.read_waiting.new.transaction.reads (number_of_key g.K.Start.tables.scale (key.Oldest h))))
    c.district_key-home.ensures c.in_ok-number.ensures.holds)
