-- The population of a run, by its number.
use Rattle.std.specs.Prelude.{◌≡◌, ◌≤◌, ℕ}
use Rattle.tables.specs.Sizes.{Sizes}
use Rattle.tables.specs.Database.{Database}
use Rattle.population_tables.specs.Plain.{IsPlain}
use Rattle.population_tables.specs.First.{IsSeeded}

-- the tables that a run begins with, by the number of its population: plain where it is 0, else drawn from it
pub record IsPopulation (number : ℕ) (s : Sizes) (t : Database) : Type 0 where
  pub plain : number ≡ 0 → IsPlain s t
  pub seeded : 1 ≤ number → IsSeeded s t
