use Rattle.std.proofs.Common.{rules}
use Rattle.annals.proofs.Moves.{adds}
use Rattle.annals.proofs.steps.add_entry.Goals as goal

pub compare_exchange_with-requires : goal.compare_exchange_with-requires
compare_exchange_with-requires g c = (search rules, search rules, adds _ _ _ _ c.args.mark _ (λ n. n) _ c.requires.keeper c.requires.later c.requires.date)
