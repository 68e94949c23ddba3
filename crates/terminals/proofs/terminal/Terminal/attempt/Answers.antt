use Rattle.std.proofs.Common.{ap, sym, subst, rules}
use Rattle.annals.specs.Passes.{PassView}
use Rattle.book.specs.declared.entry.Entry.{Entry}
use Rattle.terminals.specs.Telling.{KeepsReplies}
use Rattle.terminals.proofs.Telling.{keeps_same, keeps_held}
use Rattle.std.proofs.lemmas.Result.{err_from_is_err_and}
use Rattle.cells.specs.Records.{ReaderView}
use Rattle.terminals.specs.Terminal.{TerminalView}
use Rattle.terminals.specs.Tries.{IsTry, uncommitted}
use Rattle.terminals.proofs.terminal.Terminal.attempt.Goals as goal

pub returns-in_err-done-clause-tried : goal.returns-in_err-done-clause-tried
returns-in_err-done-clause-tried g c =
    let away = c.in_err-done.ensures.err.1 in
    let try : IsTry g.K.Run.run.past g.K.Run.run.first c.args.input.now c.self.inside.reader c.commit_at.new.reader c.in_err-done.field-0.0
    = uncommitted c.execute_at.new.reader c.in_ok-work.work away.0 c.in_ok-work.ensures.executed c.in_err-done.ensures.reader away.1 away.2 in
    let p = err_from_is_err_and c.from_residual-in_err-done.result c.from_residual-in_err-done.ensures.1 in
    rw (p.1, p.2) (subst (λ (reader : ReaderView). IsTry g.K.Run.run.past g.K.Run.run.first c.args.input.now reader c.commit_at.new.reader c.in_err-done.field-0.0)
    (ap (λ (t : TerminalView). t.reader) c.self.view_is) try)

pub invariant_of-self-2 : goal.invariant_of-self-2
invariant_of-self-2 g c =
    let same = c.in_ok-reserve.ensures.same in
    let keeps = keeps_same c.self.inside.pass.claim.has c.self.inside.outbox c.reserve.new.self same.seat same.released same.waiting c.self.invariant.4 in
    let held = keeps_held c.self.inside.pass.claim.has c.in_ok-done.cited.claim.has c.reserve.new.self c.hold.new.self c.in_ok-done.done
    c.hold.ensures.seat c.hold.ensures.released c.hold.ensures.waiting c.in_ok-done.ensures.cited.tells keeps in (
      search rules,
      search rules,
      search rules,
      search rules,
      subst (λ (p : PassView Entry). KeepsReplies p.claim.has c.hold.new.self) (sym c.gather.ensures) held,
    )
