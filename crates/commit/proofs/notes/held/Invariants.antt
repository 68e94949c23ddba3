use Rattle.std.proofs.Common.{◌≡◌, drop}
use Rattle.commit.specs.Machine.{note_at}
use Rattle.commit.proofs.notes.held.Given as goal

abbrev pub invariant-loop-note : goal.invariant-loop-note
invariant-loop-note g l = note_at l.notes l.number ≡ note_at (drop l.note-index l.notes) l.number
