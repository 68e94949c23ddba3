use Rattle.program_files.proofs.header.first_header.Goals as goal

pub returns-clause-headless : goal.returns-clause-headless
returns-clause-headless g c = (_, c.headless.ensures.flaw)
