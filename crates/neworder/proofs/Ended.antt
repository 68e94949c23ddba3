-- How the execution of a New-Order ends, by how its transaction does.
use Rattle.std.proofs.Common.{◌≡◌, ◌≤◌, inl, inr, length, Result, Ok, Err, IfOk, IfErr, sym, subst, arith}
use Rattle.money.specs.declared.refusal.Refusal.{Refusal}
use Rattle.tables.specs.Database.{Database}
use Rattle.tables.specs.declared.new_order.NewOrderInput.{NewOrderInput}
use Rattle.tables.specs.declared.input.Input.TheVariants as inputs
use Rattle.tables.specs.declared.reply.Reply.{Reply}
use Rattle.cells.specs.Records.{ReaderView}
use Rattle.readset.specs.Refused.{NoneMissing, IsRefusal}
use Rattle.readset.specs.Transaction.{TransactionView, IsUnderWay, IsExecuted}
use Rattle.readset.specs.declared.work.Work.{Work}
use Rattle.readset.proofs.UnderWay.{executed, refused}
use Rattle.neworder.specs.Opening.{IsOrderRefusal}
use Rattle.neworder.specs.Executed.{IsReplyOf, IsOrderWork}
use Rattle.neworder.proofs.Refusals.{order_refused}

module _ (t0 : Database) (x : NewOrderInput) (old new : ReaderView) (under_way : TransactionView) (none : NoneMissing t0 (inputs.NewOrder x))
    (h : IsUnderWay old new under_way)
    (few_reads : length under_way.reads ≤ 49) (few_writes : length under_way.writes.values ≤ 49)
  where
    pub order_ended : (reply : Result Reply Refusal) (result : Result Work Refusal) → IfOk reply (IsReplyOf t0 x under_way)
        → IfErr reply (IsOrderRefusal t0 x under_way)
        → IsOrderWork x under_way.reads under_way.writes reply result → IsExecuted t0 (inputs.NewOrder x) old new result
    order_ended reply (Ok work) replied why is =
        let made : work ≡ record { input = inputs.NewOrder x; reads = under_way.reads; writes = under_way.writes; reply = work.reply } =
        λ i. record { input = is.1 i; reads = is.2 i; writes = is.3 i; reply = work.reply } in
        subst (λ (w : Work). IsExecuted t0 (inputs.NewOrder x) old new (Ok w)) (sym made)
        (let told = subst (λ (r : Result Reply Refusal). IfOk r (IsReplyOf t0 x under_way)) is.0 replied in
        executed t0 (inputs.NewOrder x) old new under_way.reads under_way.writes work.reply h none told.within_cap told.commits
        (omega (arith, few_reads)) (omega (arith, few_writes)))
    order_ended reply (Err refusal) replied why (inl is) =
        refused t0 (inputs.NewOrder x) old new refusal h.grown (order_refused t0 x old new under_way refusal none h
        (subst (λ (r : Result Reply Refusal). IfErr r (IsOrderRefusal t0 x under_way)) is why))
    order_ended reply (Err refusal) replied why (inr memory) =
        refused t0 (inputs.NewOrder x) old new refusal h.grown (subst (IsRefusal t0 (inputs.NewOrder x) old new) (sym memory) tt)
