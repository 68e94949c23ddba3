use Rattle.std.proofs.Common.{◌≡◌, map}
use Rattle.std.specs.List.{range_with_len}
use Rattle.tables.specs.Database.{database}
use Rattle.tables.specs.NewOrder.{warehouse_tax}
use Rattle.population.proofs.rates.warehouse_taxes.Given as goal

-- so many warehouses have their taxes
abbrev pub invariant-loop-done : goal.invariant-loop-done
invariant-loop-done l = record { listed : l.rates.items ≡ map (warehouse_tax (database l.tables)) (range_with_len 1 l.done) }
