use Rattle.std.proofs.Common.{rules}
use Rattle.annals.proofs.Moves.{marks}
use Rattle.annals.proofs.steps.raise_mark.Goals as goal

pub store-requires : goal.store-requires
store-requires g c = (search rules, search rules, marks _ _ _ _ c.args.mark _ (λ _. c.args.mark) c.requires.keeper c.requires.later)
