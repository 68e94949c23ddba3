use Rattle.program_script_text.proofs.shown.ShownRowDisplay.fmt.Goals as goal

pub returns-in-Customer-clause-writes : goal.returns-in-Customer-clause-writes
returns-in-Customer-clause-writes g c = λ plain ok. rw c.in-Customer.is (c.fmt.ensures.writes plain ok)
