use Rattle.std.proofs.Common.{rules, ◌≡◌, ◌⊎◌, Err, IfErr, inl, inr, map, refl, sym, subst}
use Rattle.money.specs.declared.refusal.Refusal.TheVariants.{Device}
use Rattle.population.specs.Initial.{initial, seed_of}
use Rattle.recover_found.specs.Found.{bodies_in}
use Rattle.recover_restart.specs.Restarting.{AreStopped}
use Rattle.recover_restart.proofs.restarting.resume.Goals as goal

pub declare_lost-requires : goal.declare_lost-requires
declare_lost-requires g c = record {
  first = initial c.args.population;
  seed = seed_of c.args.population;
  loggers = c.args.loggers;
  terminals = c.args.terminals;
  bodies = map (λ bodies. bodies_in bodies.items) c.args.bodies.items;
  parts = c.in_ok-ahead.ahead.parts;
  commits = c.in_ok-ahead.ahead.commits;
  behind = c.requires.open;
  goes_on = c.in_ok-ahead.ensures.goes_on;
}

pub returns-in_err-ahead-clause-left : goal.returns-in_err-ahead-clause-left
returns-in_err-ahead-clause-left g c =
    let same : c.from_residual.result ≡ Err c.in_err-ahead.field-0.0 = search rules in
    subst (λ r. IfErr r (λ refusal. ((refusal ≡ Device → ⊥) × (c.args.files.now ≡ c.args.files.now)) ⊎ ((refusal ≡ Device)
    × AreStopped g.D.Disk.is_modelled g.D.Disk.seen g.D.Disk.story g.D.Disk.failed (initial c.args.population) (seed_of c.args.population)
    c.args.loggers c.args.terminals (map (λ bodies. bodies_in bodies.items) c.args.bodies.items) c.args.files.now c.args.files.now)))
    (sym same) (inl (c.in_err-ahead.ensures.no_device, refl))

pub returns-in-Err-clause-left : goal.returns-in-Err-clause-left
returns-in-Err-clause-left g c =
    let stopped = c.in-Err.ensures.stopped in
    inr (
      search rules,
      record {
        parts = c.in_ok-ahead.ahead.parts;
        durable = c.in_ok-ahead.ahead.durable;
        top = c.in_ok-ahead.ahead.top;
        commits = c.in_ok-ahead.ahead.commits;
        goes_on = c.in_ok-ahead.ensures.goes_on;
        some = stopped.0;
        declared = stopped.1;
      },
    )
