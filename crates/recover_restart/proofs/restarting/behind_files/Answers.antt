use Rattle.std.proofs.Common.{rules, subst}
use Rattle.tables.specs.Sizes.{IsScale}
use Rattle.population.specs.Initial.{seed_of}
use Rattle.recover_restart.proofs.Going.{may_begin}
use Rattle.recover_restart.proofs.restarting.behind_files.Goals as goal

pub returns-in_err-base-clause-full : goal.returns-in_err-base-clause-full
returns-in_err-base-clause-full g c = λ e.
    let here = c.in_err-base.ensures.full (search rules) in
    record {
      no_gap = here.0;
      top = c.top_epoch-top.result;
      is_top = search rules;
      last = here.1;
    }

pub returns-in_err-base-clause-damaged : goal.returns-in_err-base-clause-damaged
returns-in_err-base-clause-damaged g c = λ e.
    let here = c.in_err-base.ensures.damaged (search rules) in
    record {
      no_gap = (here.1.rebuilt.commits, here.1.rebuilt.in_order);
      top = c.top_epoch-top.result;
      is_top = search rules;
      room = here.0;
      tables = here.1;
    }

pub behind-requires-clause-base : goal.behind-requires-clause-base
behind-requires-clause-base g c =
    may_begin c.in_ok-base.ensures.base c.sound_tables_may_begin.ensures (seed_of c.args.population) c.requires.files.0 (subst IsScale c.scale-scale.ensures (search rules))
    c.args.population.well_formed c.requires.files.1
