use Rattle.std.proofs.Common.{◌≡◌, All, length}
use Rattle.tidword.specs.TidWord.{tid_of}
use Rattle.tests_cells.proofs.page_tests.first_wide.Given as goal

abbrev pub invariant-loop-record : goal.invariant-loop-record
invariant-loop-record l = (length l.first ≡ l.record) × All (λ newest. tid_of newest.word ≡ 0) l.first
