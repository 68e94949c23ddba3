use Rattle.std.proofs.Common.{◌≡◌, Err}
use Rattle.money.specs.declared.refusal.Refusal.TheVariants.{GaveUp}
use Rattle.tables.specs.Inputs.{IsInput}
use Rattle.terminals.specs.Calls.{AreCalls}
use Rattle.terminals.specs.Terminal.{HasRefused, IsTurned}
use Rattle.terminals.specs.Tries.{AreTriedAgain}
use Rattle.terminals.proofs.terminal.Terminal.one.Given as goal

-- so many tries of the deck's next input have committed nothing, and each is to be tried again
abbrev pub invariant-loop : goal.invariant-loop
invariant-loop g l = record {
  next : l.input ≡ l.fn.self.deck.next;
  valid : IsInput g.K.Run.run.first.scale l.input;
  deck : IsTurned l.fn.self.deck l.self.deck;
  refused : HasRefused l.fn.self l.self;
  tried : AreTriedAgain g.K.Run.run.past g.K.Run.run.first l.input l.fn.self.reader l.counter l.self.reader;
  calls : AreCalls l.counter (Err GaveUp) (g.G.Gate.calls l.fn.gate) (g.G.Gate.calls l.gate);
}
