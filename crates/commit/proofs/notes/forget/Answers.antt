use Rattle.std.proofs.Common.{rules, not, ◌==◌}
use Rattle.std.proofs.lemmas.Fn.{filter_same}
use Rattle.commit.proofs.notes.forget.Goals as goal

pub returns : goal.returns
returns g c = filter_same _ (λ note. not (note.0 == c.args.number)) _ (λ note keep f call. search rules) _ _ c.retain.ensures.filtered
