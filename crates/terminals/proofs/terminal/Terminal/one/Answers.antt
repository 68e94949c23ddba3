use Rattle.std.proofs.Common.{Err, ap, subst, rules, arith}
use Rattle.money.specs.declared.refusal.Refusal.TheVariants.{GaveUp}
use Rattle.cells.specs.Records.{ReaderView}
use Rattle.readset.specs.Refused.{NoneMissing}
use Rattle.terminals.specs.Terminal.{TerminalView}
use Rattle.terminals.specs.Tries.{AreTriedAgain, IsAgain}
use Rattle.terminals.proofs.Counting.{calls_none, calls_again}
use Rattle.terminals.proofs.Following.{refused_again}
use Rattle.terminals.proofs.Trying.{none_missing_of, tried_again, tried_none, tries_of}
use Rattle.terminals.proofs.terminal.Terminal.one.Goals as goal

pub loop-init : goal.loop-init
loop-init g c = record {
  next = search rules;
  valid = search rules;
  deck = search rules;
  refused = search rules;
  tried =
      subst (λ (reader : ReaderView). AreTriedAgain g.K.Run.run.past g.K.Run.run.first c.in_ok-input.input reader 0 c.self.inside.reader)
      (ap (λ (t : TerminalView). t.reader) c.self.view_is)
      (tried_none g.K.Run.run.past g.K.Run.run.first c.in_ok-input.input c.self.inside.reader);
  calls = calls_none GaveUp (g.G.Gate.calls c.args.gate.now);
}

pub returns-in_default-clause-tries : goal.returns-in_default-clause-tries
returns-in_default-clause-tries g c =
    let i = c.loop.invariant in
    let made = c.attempt-outcome.ensures in
    let final : ¬ IsAgain c.attempt-outcome.result = search rules in
    tries_of g.K.Run.run.past g.K.Run.run.first _ _ i.next c.args.self.now.reader c.loop.self.reader c.attempt-outcome.new.self.reader
    c.loop.counter c.attempt-outcome.result (g.G.Gate.calls c.args.gate.now) (g.G.Gate.calls c.loop.gate) (g.G.Gate.calls c.attempt-outcome.new.gate)
    (search rules) i.tried final made.tried i.calls made.calls

pub returns-then-not-is_retried-clause-tries : goal.returns-then-not-is_retried-clause-tries
returns-then-not-is_retried-clause-tries g c =
    let i = c.loop.invariant in
    let made = c.in-Err.ensures in
    let final : ¬ IsAgain (Err c.in-Err.refusal) = search rules in
    tries_of g.K.Run.run.past g.K.Run.run.first _ _ i.next c.args.self.now.reader c.loop.self.reader c.attempt-outcome.new.self.reader
    c.loop.counter (Err c.in-Err.refusal) (g.G.Gate.calls c.args.gate.now) (g.G.Gate.calls c.loop.gate) (g.G.Gate.calls c.attempt-outcome.new.gate)
    (search rules) i.tried final made.tried i.calls made.calls

pub loop-preserved : goal.loop-preserved
loop-preserved g c =
    let i = c.loop.invariant in
    let made = c.attempt-outcome.ensures in
    let again : IsAgain c.attempt-outcome.result = search rules in
    record {
      next = i.next;
      valid = i.valid;
      deck = search rules;
      refused = refused_again c.args.self.now c.loop.self c.attempt-outcome.new.self c.attempt-outcome.result again i.refused made.err;
      tried =
          tried_again g.K.Run.run.past g.K.Run.run.first _ c.args.self.now.reader c.loop.self.reader c.attempt-outcome.new.self.reader c.loop.counter
          c.attempt-outcome.result i.tried again made.tried;
      calls =
          calls_again c.loop.counter GaveUp c.attempt-outcome.result (g.G.Gate.calls c.args.gate.now) (g.G.Gate.calls c.loop.gate)
          (g.G.Gate.calls c.attempt-outcome.new.gate) again i.calls made.calls;
    }

pub returns-clause-missing : goal.returns-clause-missing
returns-clause-missing g c =
    let i = c.loop.invariant in
    subst (NoneMissing g.K.Run.run.first) i.next
    (none_missing_of g.K.Run.run.past g.K.Run.run.first _ c.args.self.now.reader c.loop.self.reader c.loop.counter (omega (arith, c.loop-test.false)) i.tried)
