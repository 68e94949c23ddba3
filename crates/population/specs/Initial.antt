-- What contracts see of a population.
use Rattle.std.specs.Prelude.{ℕ}
use Rattle.tables.specs.Database.{Database, database}
use Rattle.population.specs.declared.population.Population.{Population}

-- the tables that the population holds
abbrev pub initial : Population → Database
initial p = database p.tables

-- the seed that its rows were drawn from
abbrev pub seed_of : Population → ℕ
seed_of p = p.seed
