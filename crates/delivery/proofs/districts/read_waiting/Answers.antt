use Rattle.std.proofs.Common.{◌≡◌, None, IsSome, ap, ◌∙◌, subst, arith}
use Rattle.std.proofs.lemmas.Option.{same_Some}
use Rattle.std.specs.FinMap.{get}
use Rattle.tables.specs.Sizes.{Sizes}
use Rattle.tables.specs.Keys.{order_key}
use Rattle.tables.specs.Records.{number_of_key}
use Rattle.tables.specs.Rows.{new_order_words}
use Rattle.tables.specs.declared.keys.OrderKey.{OrderKey}
use Rattle.tables.specs.declared.records.RecordKey.TheVariants as key
use Rattle.rows.specs.declared.index.Oldest.{Oldest}
use Rattle.readset.specs.Reads.{held}
use Rattle.readset.proofs.MoreReads.{still_read}
use Rattle.readset.proofs.UnderWay.{reads_twice, candidate_still}
use Rattle.delivery.proofs.Waiting.{row_there, row_absent, one_read, none_read, above_read}
use Rattle.delivery.proofs.districts.read_waiting.Goals as goal

pub returns-then-oldest-orders-clause-waits : goal.returns-then-oldest-orders-clause-waits
returns-then-oldest-orders-clause-waits g c =
    let cap : c.orders.result ≡ g.K.Start.tables.scale.orders = c.orders.ensures.value ∙ ap (λ (s : Sizes). s.orders) c.scale.ensures in
    above_read g.K.Start.tables c.args.home c.read_present.new.transaction c.in_ok-oldest.oldest.order c.requires c.in_ok-oldest.ensures.holds
    (λ t h. ap (λ (o : Oldest). o.order) (same_Some _ _ (c.in_ok-oldest.ensures.row t h))) (omega (arith, cap, c.if-oldest-orders.true))

pub returns-in-Some-clause-waits : goal.returns-in-Some-clause-waits
returns-in-Some-clause-waits g c =
    let t0 = g.K.Start.tables in
    let home = c.args.home in
    let number = c.in_ok-oldest.oldest.order in
    let last = c.read.new.self in
    let more = c.read.ensures.reads in
    one_read t0 home last number c.requires (still_read c.read_present.new.transaction.reads last.reads _ more.keeps c.in_ok-oldest.ensures.holds)
    (λ t h. ap (λ (o : Oldest). o.order) (same_Some _ _ (c.in_ok-oldest.ensures.row t (candidate_still t0 c.read_present.new.transaction last 1 more t h))))
    (λ t h. subst (λ (k : OrderKey). IsSome (get t.new_orders k)) c.order_key.ensures
    (row_there new_order_words (get t.new_orders c.order_key.result) _ (c.in_ok-row.ensures.words t h ∙ c.in-Some.is)))

pub returns-in-Some-clause-holds_new_order : goal.returns-in-Some-clause-holds_new_order
returns-in-Some-clause-holds_new_order g c = λ o is.
    subst (λ n. IsSome (held c.read.new.self.reads (number_of_key g.K.Start.tables.scale (key.NewOrder (order_key c.args.home n))))) (same_Some _ o is)
    (subst (λ (k : OrderKey). IsSome (held c.read.new.self.reads (number_of_key g.K.Start.tables.scale (key.NewOrder k)))) c.order_key.ensures
    c.in_ok-row.ensures.holds)

pub returns-in-Some-clause-reads : goal.returns-in-Some-clause-reads
returns-in-Some-clause-reads g c =
    reads_twice c.args.transaction.now c.read_present.new.transaction c.read.new.self 1 1 2 c.read_present.ensures.reads c.read.ensures.reads (omega arith)

pub returns-in-None-clause-waits : goal.returns-in-None-clause-waits
returns-in-None-clause-waits g c =
    let t0 = g.K.Start.tables in
    let home = c.args.home in
    let number = c.in_ok-oldest.oldest.order in
    let last = c.read.new.self in
    let more = c.read.ensures.reads in
    none_read t0 home last number c.requires (still_read c.read_present.new.transaction.reads last.reads _ more.keeps c.in_ok-oldest.ensures.holds)
    (λ t h. ap (λ (o : Oldest). o.order) (same_Some _ _ (c.in_ok-oldest.ensures.row t (candidate_still t0 c.read_present.new.transaction last 1 more t h))))
    (λ t h. subst (λ (k : OrderKey). get t.new_orders k ≡ None) c.order_key.ensures
    (row_absent new_order_words (get t.new_orders c.order_key.result) (c.in_ok-row.ensures.words t h ∙ c.in-None.is)))

pub returns-in-None-clause-reads : goal.returns-in-None-clause-reads
returns-in-None-clause-reads g c =
    reads_twice c.args.transaction.now c.read_present.new.transaction c.read.new.self 1 1 2 c.read_present.ensures.reads c.read.ensures.reads (omega arith)
