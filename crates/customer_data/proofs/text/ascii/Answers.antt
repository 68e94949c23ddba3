use Rattle.std.proofs.lemmas.Str.{IsUtf8-from_ascii}
use Rattle.customer_data.proofs.text.ascii.Goals as goal

pub returns-in-Err-clause-text : goal.returns-in-Err-clause-text
returns-in-Err-clause-text c = λ is. absurd (c.in-Err.ensures.cases.0 (IsUtf8-from_ascii c.args.bytes.now is))
