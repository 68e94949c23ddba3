use Rattle.program_script_text.proofs.OneText.{one_line_one_request}
use Rattle.program_script_text.proofs.read.one_line_one_request.Goals as goal

pub returns : goal.returns
returns c = one_line_one_request
