use Rattle.std.proofs.Common.{subst}
use Rattle.recover_lives.specs.World.{Origin, Lives, Running, origin_of, first_world}
use Rattle.recover_lives.specs.Events.{lives_after_all}
use Rattle.recover_lives.proofs.Worlds.{HoldsRun, Holds, strikes, holds_after_all, first_holds}
use Rattle.recover_lives.proofs.Replayed.{gives_the_replay}
use Rattle.recover_moments.specs.Moments.{world_at}
use Rattle.recover_moments.proofs.Worlds.{sound}
use Rattle.recover_moments.proofs.every_moment_of_each_life_is_survived.Goals as goal

pub returns : goal.returns
returns c = λ life files before running past earlier now begins first happened is.
    let o : Origin = origin_of life in
    let law = c.rebuilt_tables_are_the_replay.ensures in
    let run : HoldsRun o running past earlier now
    = subst (Holds o) is (holds_after_all o begins law (first_world life files) before (first_holds life files first) happened) in (
      run.old,
      run.base,
      λ m later strings moment happens crash.
          let w : Lives = Running running past earlier (world_at running m) in
          let there : HoldsRun o running past earlier (world_at running m) = record {
            old = run.old;
            base = run.base;
            version = run.version;
            loggers = run.loggers;
            seed = run.seed;
            sound = sound running run.old m moment;
          } in
          gives_the_replay o begins law (lives_after_all o w later) strings
          (strikes o (lives_after_all o w later) (holds_after_all o begins law w later there happens) strings crash),
    )
