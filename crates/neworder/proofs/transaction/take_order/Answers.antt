use Rattle.std.proofs.Common.{sym, ap, ◌∙◌, subst}
use Rattle.tables.specs.Database.{Database}
use Rattle.tables.specs.declared.new_order.NewOrderReply.{NewOrderReply}
use Rattle.tables.specs.declared.reply.Reply.TheVariants as reply
use Rattle.readset.specs.Transaction.{TransactionView}
use Rattle.neworder.specs.Executed.{IsReplyOf}
use Rattle.neworder.specs.Replied.{order_reply_of}
use Rattle.neworder.proofs.Explained.{commits}
use Rattle.neworder.proofs.Refusals.{still_within, not_above}
use Rattle.neworder.proofs.transaction.take_order.Goals as goal

pub returns-clause-reply : goal.returns-clause-reply
returns-clause-reply g c =
    let t0 = g.K.Start.tables in
    let x = c.args.order.now in
    let k = c.in_ok-key.key in
    let last = c.write_last.new.transaction in
    let supplied = c.in_ok-supplied.supplied.items in
    let no_history = c.write_last.ensures.goes_on.history ∙ c.take_lines.ensures.goes_on.history ∙ c.open_order.ensures.goes_on.history
    ∙ ap (λ (y : TransactionView). y.writes.history_row) (c.reserve.ensures.same ∙ c.requires.begun) in
    let told = c.reply_to.ensures ∙ ap (λ (t : Database). order_reply_of t x k c.args.priced.now.sum supplied) c.population.ensures in
    subst (λ (r : NewOrderReply). IsReplyOf t0 x last (reply.NewOrder r)) (sym told) (record {
      commits = commits t0 x k last supplied c.args.priced.now c.requires.priced
          (c.in_ok-write_last.ensures.written x.lines x.lines supplied c.in_ok-supplied.ensures.taken) c.in_ok-key.ensures.key no_history;
      within_cap = not_above t0.scale x last.reads
          (still_within t0.scale x c.open_order.new.transaction.reads last.reads
          (λ n v found. c.write_last.ensures.goes_on.keeps n v (c.take_lines.ensures.goes_on.keeps n v found)) c.in_ok-key.ensures.within_cap);
    })
