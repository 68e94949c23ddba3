use Rattle.std.proofs.Common.{List, [], sym, ap, ◌∙◌, subst}
use Rattle.tables.specs.declared.delivery.DeliveredOrder.{DeliveredOrder}
use Rattle.tables.specs.declared.input.Input.TheVariants as input
use Rattle.tables.specs.declared.reply.Reply.TheVariants as reply
use Rattle.readset.specs.Reads.{ReadSetView}
use Rattle.readset.specs.Explains.{IsCandidate}
use Rattle.readset.specs.Commit.{IsCommitOf}
use Rattle.readset.specs.Transaction.{TransactionView, AtAll}
use Rattle.delivery.specs.Steps.{AreDone, AreTold}
use Rattle.delivery.proofs.First.{none_done}
use Rattle.delivery.proofs.Explained.{commits}
use Rattle.delivery.proofs.transaction.deliver.Goals as goal

pub deliver_districts-requires-clause-done : goal.deliver_districts-requires-clause-done
deliver_districts-requires-clause-done g c =
    subst (λ (x : TransactionView). AreDone g.K.Start.tables c.args.delivery.now 0 0 x) (sym (c.reserve.ensures.same ∙ c.requires.begun)) (none_done g.K.Start.tables c.args.delivery.now [])

pub returns-clause-reply : goal.returns-clause-reply
returns-clause-reply g c =
    let t0 = g.K.Start.tables in
    let x = c.args.delivery.now in
    let last = c.raise_oldest.new.transaction in
    let no_history = c.raise_oldest.ensures.goes_on.history ∙ c.deliver_districts.ensures.goes_on.history
    ∙ ap (λ (x : TransactionView). x.writes.history_row) (c.reserve.ensures.same ∙ c.requires.begun) in
    let told : AreTold t0 x t0.scale.districts last c.in_ok-orders.orders.items = λ t h. c.in_ok-orders.ensures.told t (subst (λ (r : ReadSetView). IsCandidate t0 r t) c.raise_oldest.ensures.reads h) in
    subst (λ (os : List DeliveredOrder). AtAll t0 last (λ t. IsCommitOf t (input.Delivery x) last.writes
    (reply.Delivery (record { warehouse = x.warehouse; orders = os }))))
    (sym c.new.ensures) (commits t0 x last c.in_ok-orders.orders.items c.in_ok-raise_oldest.ensures.done no_history told)
