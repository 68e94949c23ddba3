use Rattle.recover_files.proofs.OneAnswer.{one_answer}
use Rattle.recover_files.proofs.one_answer.recovery_is_one.Goals as goal

pub returns : goal.returns
returns c = one_answer c.values_determine_tables.ensures.one
