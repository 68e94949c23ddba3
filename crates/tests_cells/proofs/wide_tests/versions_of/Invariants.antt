use Rattle.std.proofs.Common.{◌≡◌, take}
use Rattle.tests_cells.proofs.wide_tests.versions_of.Given as goal

abbrev pub invariant-loop-version : goal.invariant-loop-version
invariant-loop-version l = l.wide ≡ take l.version-index l.list
