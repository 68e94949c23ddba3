use Rattle.tables.specs.Database.{database}
use Rattle.encoding.proofs.BegunNumbers.{are_first}
use Rattle.encoding.proofs.first.first_versions.Goals as goal

pub returns : goal.returns
returns c = are_first (database c.args.tables.now) c.begin_numbers.new.first c.in_ok-begin_numbers.ensures
