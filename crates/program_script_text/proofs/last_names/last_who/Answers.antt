use Rattle.program_script_text.proofs.LastNames.{last_from_who}
use Rattle.program_script_text.proofs.last_names.last_who.Goals as goal

pub returns-clause-words : goal.returns-clause-words
returns-clause-words c = rw c.ok_or.ensures.value (last_from_who c.args.text.now c.read_who.result c.read_who.ensures.word)
