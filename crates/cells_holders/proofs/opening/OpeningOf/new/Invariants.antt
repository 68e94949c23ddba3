use Rattle.std.proofs.Common.{◌≡◌, All, [], length}
use Rattle.cells_holders.specs.Opening.{seen_all}
use Rattle.cells_holders.proofs.opening.OpeningOf.new.Given as goal

abbrev pub invariant-loop : goal.invariant-loop
invariant-loop g l = (length l.list.items ≡ l.counter) × All (λ reader. reader ≡ seen_all (record { cells = []; all = [] })) l.list.items
