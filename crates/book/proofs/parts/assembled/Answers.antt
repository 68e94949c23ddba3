use Rattle.std.proofs.Common.{rules}
use Rattle.std.specs.Option.{option_map_or}
use Rattle.tables.specs.Database.{database}
use Rattle.population.specs.Initial.{initial}
use Rattle.book.proofs.parts.assembled.Goals as goal

pub returns-clause-parts : goal.returns-clause-parts
returns-clause-parts c =
    let unused = c.in_ok-fresh.ensures.fresh (option_map_or database c.args.begun.base (initial c.args.population)) c.requires.records in
    search rules
