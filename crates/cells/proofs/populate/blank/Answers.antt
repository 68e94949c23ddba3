use Rattle.std.proofs.Common.{ap, ◌∙◌}
use Rattle.cells.specs.First.{firsts}
use Rattle.cells.proofs.populate.blank.Goals as goal

pub returns-clause-blank : goal.returns-clause-blank
returns-clause-blank c = c.in_ok-lay_page.ensures.ok ∙ ap firsts c.absent.ensures
