use Rattle.program_script.proofs.OneText.{one_text}
use Rattle.program_script.proofs.turns.bytes_determine_text.Goals as goal

pub returns : goal.returns
returns c = one_text
