use Rattle.log_text.proofs.OneFile.{one_file}
use Rattle.log_text.proofs.laws.one_file.Goals as goal

pub returns : goal.returns
returns c = one_file
