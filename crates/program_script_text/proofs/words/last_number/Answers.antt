use Rattle.program_script_text.proofs.RequestLemmas.{last_from_number}
use Rattle.program_script_text.proofs.words.last_number.Goals as goal

pub returns : goal.returns
returns c = rw c.ok_or.ensures.value (last_from_number c.args.text.now c.read_number.result c.read_number.ensures)
