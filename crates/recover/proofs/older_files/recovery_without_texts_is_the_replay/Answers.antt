use Rattle.recover.specs.WithoutTexts.{without_texts}
use Rattle.recover.proofs.WithoutTexts.{is_replay_without}
use Rattle.recover.proofs.older_files.recovery_without_texts_is_the_replay.Goals as goal

pub returns : goal.returns
returns c = λ t0 version seed strings files history is are hold some r recovery.
    is_replay_without t0 seed strings files are history
    (c.rebuilt_tables_are_the_replay.ensures (without_texts t0) files history is hold some)
    r recovery
