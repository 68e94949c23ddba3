use Rattle.std.proofs.Common.{◌≡◌, ◌++◌, ◌-◌, string_bytes}
use Rattle.tables.specs.Database.{database}
use Rattle.program_recovery.specs.Text.{warehouse_lines}
use Rattle.program_recovery.proofs.text.print_warehouses.Given as goal

abbrev pub invariant-loop-warehouse : goal.invariant-loop-warehouse
invariant-loop-warehouse l = string_bytes l.out ≡ string_bytes l.fn.out ++ warehouse_lines (database l.tables) (l.warehouse - 1)
