use Rattle.std.proofs.Common.{◌≡◌, max, drop}
use Rattle.commit.specs.Events.{greatest_read}
use Rattle.commit.proofs.worker.Worker.greatest_read.Given as goal

abbrev pub invariant-loop-note : goal.invariant-loop-note
invariant-loop-note l = (l.note-items ≡ l.self.validated) × (max l.greatest (greatest_read (drop l.note-index l.note-items)) ≡ greatest_read l.note-items)
