use Rattle.std.proofs.Common.{◌≡◌, sym, ap, ◌∙◌}
use Rattle.recover_found.specs.Found.{bodies_in, last_mark}
use Rattle.recover_found.proofs.LastMarks.{lowered, stays, replaced, begins, goes_on, ends}
use Rattle.recover_found.proofs.durable.durable_of.Goals as goal
use Rattle.recover_found.proofs.durable.durable_of.Goals.{in-Some, in_default-2, in_default}

pub loop-bodies-init : goal.loop-bodies-init
loop-bodies-init c = begins c.args.files.now

pub loop-bodies-preserved : goal.loop-bodies-preserved
loop-bodies-preserved c =
    let mark = c.last_mark-mark.result in
    let now : c.match-durable.durable ≡ lowered c.loop-bodies.durable mark = elim c.match-durable.branch [
      | in-Some w ↦ w.durable-is ∙ stays w.in-Some.least mark w.if-least-mark.true
          ∙ ap (λ o. lowered o mark) (sym w.in-Some.is)
      | in_default-2 w ↦ w.durable-is ∙ replaced w.in-Some.least mark w.if-least-mark.false
          ∙ ap (λ o. lowered o mark) (sym w.in-Some.is)
      | in_default w ↦ w.durable-is ∙ ap (λ o. lowered o mark) (sym w.in_default.is)
    ] in
    goes_on c.args.files.now c.loop-bodies.bodies-index c.loop-bodies.durable c.match-durable.durable mark
    c.bodies-item.result c.bodies-item.result c.loop-bodies-test.true c.bodies-item.is
    (c.last_mark-mark.ensures ∙ ap (λ bodies. last_mark 0 (bodies_in bodies)) c.deref.ensures.value) now
    c.loop-bodies.invariant

pub returns : goal.returns
returns c =
    c.unwrap_or.ensures
    ∙ ends c.args.files.now c.loop-bodies.bodies-index c.loop-bodies.durable c.loop-bodies-test.false
    c.loop-bodies.invariant
