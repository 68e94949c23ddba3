use Rattle.std.proofs.Common.{◌≡◌, ◌≤◌, Result, length, sym, subst}
use Rattle.money.specs.declared.refusal.Refusal.{Refusal}
use Rattle.tables.specs.declared.reply.Reply.{Reply}
use Rattle.tables.specs.declared.limits.TheConstants.{MAX_READS, MAX_WRITES}
use Rattle.readset.specs.Commit.{IsCommitOf}
use Rattle.readset.specs.Refused.{IsAboveCap}
use Rattle.readset.specs.Transaction.{TransactionView, IsUnderWay, Finds}
use Rattle.readset.proofs.UnderWay.{executed, refused, step_refused}
use Rattle.readset.proofs.transaction.Transaction.finish.Goals as goal

pub returns-in-Ok : goal.returns-in-Ok
returns-in-Ok g c =
    let t0 = g.K.Start.tables in
    let first = g.K.Start.reader in
    let parts = c.into_parts-reader.result in
    let is = c.into_parts-reader.ensures in
    let view : c.args.self ≡ record { reads = parts.1; writes = parts.2 } = λ i. record { reads = sym is.reads i; writes = sym is.writes i } in
    executed t0 c.args.input first parts.0 parts.1 parts.2 c.in-Ok.reply
    (subst (IsUnderWay first parts.0) view is.under_way) c.requires.none_missing
    (subst (λ (x : TransactionView). ¬ IsAboveCap t0.scale c.args.input x.reads) view c.requires.within_cap)
    (subst (λ (q : TransactionView × Result Reply Refusal). Finds t0 q.0 q.1 (λ told t. IsCommitOf t c.args.input q.0.writes told))
    (λ i. (view i, c.in-Ok.is i)) c.requires.reply)
    (subst (λ (x : TransactionView). length x.reads ≤ MAX_READS) view c.requires.reads)
    (subst (λ (x : TransactionView). length x.writes.values ≤ MAX_WRITES) view c.requires.writes)

pub returns-in-Err : goal.returns-in-Err
returns-in-Err g c =
    let t0 = g.K.Start.tables in
    let under_way = c.into_parts-reader.ensures.under_way in
    refused t0 c.args.input g.K.Start.reader c.into_parts-reader.result.0 c.in-Err.refusal under_way.grown
    (step_refused t0 c.args.input g.K.Start.reader c.into_parts-reader.result.0 c.args.self c.in-Err.refusal under_way c.requires.none_missing
    c.requires.within_cap
    (subst (λ (r : Result Reply Refusal). Finds t0 c.args.self r (λ told t. IsCommitOf t c.args.input c.args.self.writes told)) c.in-Err.is
    c.requires.reply))
