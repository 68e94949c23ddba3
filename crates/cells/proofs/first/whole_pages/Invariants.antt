use Rattle.std.proofs.Common.{◌≡◌, replicate}
use Rattle.cells.specs.First.{absent_version}
use Rattle.cells.proofs.first.whole_pages.Given as goal

abbrev pub invariant-loop : goal.invariant-loop
invariant-loop l = l.pages.items ≡ replicate l.counter (replicate 4096 absent_version)
