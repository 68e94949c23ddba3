use Rattle.std.proofs.Common.{◌≡◌, ◌<◌, ◌≤◌, ℕ, length}
use Rattle.cells.specs.Records.{at}
use Rattle.cells.specs.Versions.{last_tid}
use Rattle.tests_engine.proofs.installs_tests.install.Given as goal

-- the records from the next one on have their first versions
abbrev pub invariant-loop-number : goal.invariant-loop-number
invariant-loop-number g l = (l.stage.pen.cells ≡ l.stage.cells) × (l.stage.cells ≡ l.fn.stage.cells)
    × (l.stage.population ≡ l.fn.stage.population) × (l.stage.reader ≡ l.fn.stage.reader)
    × ((n : ℕ) → l.next ≤ n → n < length l.stage.cells.narrow → last_tid (at l.stage.pen.all n) ≡ 0)
