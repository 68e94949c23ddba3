use Rattle.std.proofs.Common.{ℕ, subst}
use Rattle.std.proofs.lemmas.Result.{IfOk-weaker}
use Rattle.population.specs.Initial.{initial, seed_of}
use Rattle.recover_restart.specs.Restarting.{GoesOnFrom}
use Rattle.program_live.proofs.resuming.restarted.Goals as goal

pub returns-clause-goes_on : goal.returns-clause-goes_on
returns-clause-goes_on g c =
    let t0 = initial c.args.population in
    let seed = seed_of c.args.population in
    let terminals = c.args.options.now.terminals in
    IfOk-weaker c.while_shown.result _ _ (λ r both. (
      both.0.0,
      subst (λ (n : ℕ). GoesOnFrom t0 seed n terminals both.0.0 r.parts r.commits r.epoch) c.requires.loggers both.0.1,
    )) c.while_shown.ensures.0
