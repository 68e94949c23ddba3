use Rattle.std.proofs.Common.{◌≡◌, ◌++◌, ◌-◌, string_bytes}
use Rattle.tables.specs.Database.{database}
use Rattle.program_recovery.specs.Text.{district_lines}
use Rattle.program_recovery.proofs.text.print_districts.Given as goal

abbrev pub invariant-loop-district : goal.invariant-loop-district
invariant-loop-district l = string_bytes l.out ≡ string_bytes l.fn.out ++ district_lines (database l.tables) l.warehouse (l.district - 1)
