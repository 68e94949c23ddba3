use Rattle.recover.proofs.Crashed.{none_missing, is_replay}
use Rattle.recover.proofs.after_crashes.recovery_is_the_replay.Goals as goal

pub returns-clause-no_gap : goal.returns-clause-no_gap
returns-clause-no_gap c = λ t0 version seed strings files history is are hold some gap.
    none_missing t0 seed strings files are history
    (c.rebuilt_tables_are_the_replay.ensures t0 files history is hold some) gap

pub returns-clause-replay : goal.returns-clause-replay
returns-clause-replay c = λ t0 version seed strings files history is are hold some r recovery.
    is_replay t0 seed strings files are history
    (c.rebuilt_tables_are_the_replay.ensures t0 files history is hold some) r recovery
