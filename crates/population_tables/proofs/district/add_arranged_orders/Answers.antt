use Rattle.std.proofs.lemmas.List.Sorted.{All-permutation}
use Rattle.tables.specs.Sizes.{IsNumber}
use Rattle.population_tables.proofs.district.add_arranged_orders.Goals as goal

pub add_orders-requires-clause-range : goal.add_orders-requires-clause-range
add_orders-requires-clause-range g c = All-permutation (IsNumber c.args.scale.customers) _ _ c.arrange.ensures c.requires.range
