use Rattle.std.proofs.Common.{Some, sym, ap, ◌∙◌, subst}
use Rattle.tables.specs.Database.{Database}
use Rattle.tables.specs.Payment.{history_row}
use Rattle.tables.specs.declared.input.Input.TheVariants as input
use Rattle.tables.specs.declared.payment.PaymentReply.{PaymentReply}
use Rattle.tables.specs.declared.reply.Reply.TheVariants as reply
use Rattle.readset.specs.Reads.{ReadSetView}
use Rattle.readset.specs.Writes.{WriteSetView, no_writes}
use Rattle.readset.specs.Changes.{puts_all}
use Rattle.readset.specs.Commit.{IsCommitOf}
use Rattle.readset.specs.Explains.{IsCandidate}
use Rattle.readset.proofs.UnderWay.{candidate_then}
use Rattle.payment.specs.Text.{text_change}
use Rattle.payment.specs.Steps.{changes_of, reply_of}
use Rattle.payment.specs.declared.transaction.Rows.{Rows}
use Rattle.payment.proofs.Explained.{commits, then_text}
use Rattle.payment.proofs.transaction.pay.Goals as goal

pub returns-clause-reply : goal.returns-clause-reply
returns-clause-reply g c = λ t h.
    let t0 = g.K.Start.tables in
    let x = c.args.payment.now in
    let id = c.args.customer in
    let found = c.in_ok-rows.rows in
    let tells = c.in_ok-tell.ensures.tells in
    let written = tells.writes ∙ ap (λ (w : WriteSetView). puts_all t0.scale w (text_change x id tells.text)) c.in_ok-write.ensures.written
    ∙ then_text t0.scale x id c.raised-rows.result tells.text (Some (history_row x id))
    ∙ ap (λ (rows : Rows). let w : WriteSetView =
    record { values = (puts_all t0.scale no_writes (changes_of x id rows tells.text)).values; history_row = Some (history_row x id) } in w)
    c.raised-rows.ensures in
    let before = λ (t : Database) (h : IsCandidate t0 c.tell.new.transaction.reads t).
    subst (λ (r : ReadSetView). IsCandidate t0 r t) c.write.ensures.reads
    (candidate_then t0 c.write.new.transaction c.tell.new.transaction 1 1 c.tell.ensures.goes_on t h) in
    subst (λ (r : PaymentReply). IsCommitOf t (input.Payment x) c.tell.new.transaction.writes (reply.Payment r))
    (sym (c.reply.ensures ∙ ap (λ (rows : Rows). reply_of rows x id) c.raised-rows.ensures))
    (commits t0 x id c.tell.new.transaction.reads found c.requires.input c.requires.customer (λ t h. c.in_ok-rows.ensures.rows t (before t h))
    c.requires.payer tells.text tells.right c.tell.new.transaction.writes written t h)
