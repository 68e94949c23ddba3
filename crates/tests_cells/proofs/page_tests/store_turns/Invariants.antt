use Rattle.std.proofs.Common.{◌≡◌, ◌+◌, ◌*◌, ◌<◌}
use Rattle.cells.specs.Versions.{last_tid}
use Rattle.cells.specs.Records.{at}
use Rattle.tests_cells.proofs.page_tests.store_turns.Given as goal

abbrev pub invariant-loop-turn : goal.invariant-loop-turn
invariant-loop-turn g l = (l.pen.cells ≡ l.cells) × (last_tid (at l.pen.all l.stored) < l.turn * 8)
    × (last_tid (at l.pen.all (4098 + l.stored)) < l.turn * 8)
