use Rattle.program_script.proofs.OneRun.{one_run}
use Rattle.program_script.proofs.turns.lines_determine_turns.Goals as goal

pub returns : goal.returns
returns c = one_run
