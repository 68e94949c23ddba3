use Rattle.std.proofs.Common.{arith}
use Rattle.std.proofs.lemmas.Grind.{common_steps}
use Rattle.log_header.proofs.Headers.{text_of_header}
use Rattle.log_header.proofs.header.put_fields.Goals as goal

pub returns-clause-ok : goal.returns-clause-ok
returns-clause-ok c = let text = text_of_header c.args.header.now in let same = c.header.view_is in
    grind (arith, common_steps, text, same)
