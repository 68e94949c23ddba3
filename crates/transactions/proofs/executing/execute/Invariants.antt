use Rattle.population.specs.Initial.{initial}
use Rattle.transactions.proofs.executing.execute.Given as goal

-- the transaction starts as the call does
abbrev pub ghosts-run : goal.ghosts-run
ghosts-run g a = record { tables = initial a.population.now; reader = a.reader }
