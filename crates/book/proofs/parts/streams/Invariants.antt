use Rattle.book.specs.Parts.{AreEmpty}
use Rattle.book.proofs.parts.streams.Given as goal

abbrev pub invariant-loop : goal.invariant-loop
invariant-loop l = AreEmpty l.counter l.mark l.streams.items
