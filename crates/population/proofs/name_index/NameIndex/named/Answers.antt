use Rattle.std.proofs.Common.{ap, ◌∙◌}
use Rattle.tables.specs.Names.{named}
use Rattle.population.proofs.NameRange.{between}
use Rattle.population.proofs.name_index.NameIndex.named.Goals as goal

pub returns-clause-names : goal.returns-clause-names
returns-clause-names c =
    c.range.ensures.between tt ∙ between c.args.district c.args.last_name c.self.inside.names.keys
    ∙ ap (λ ks. named ks c.args.district c.args.last_name) c.self.view_is
