-- What names the run that opens with parts, for those who open one.
use Rattle.book.specs.Parts.{run_of, ledger_name, ledger_parts}
use Rattle.book.specs.declared.parts.Parts.{Parts}
use Rattle.book.specs.declared.run.Run as run
use Rattle.std.specs.declared.sync.ledger.Ledger as ledger

abbrev pub run_named_by : {K : Type 0} → Parts → run.Ghosts K
run_named_by p = record { run = run_of p }

abbrev pub ledger_named_by : {K : Type 0} → Parts → ledger.Ghosts K
ledger_named_by p = record { name = ledger_name p; parts = ledger_parts p }
