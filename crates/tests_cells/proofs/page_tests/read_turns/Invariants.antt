use Rattle.std.proofs.Common.{◌≡◌}
use Rattle.tests_cells.proofs.page_tests.read_turns.Given as goal

abbrev pub invariant-loop-look : goal.invariant-loop-look
invariant-loop-look g l = l.reader.cells ≡ l.cells
