use Rattle.program_script_text.proofs.line_buffer.LineBuffer.take_line.Goals as goal

pub returns-in-Some-clause-ended : goal.returns-in-Some-clause-ended
returns-in-Some-clause-ended c = (c.in-Some.end.now, c.in-Some.ensures.bytes, c.in-Some.ensures.lacks, c.hold.ensures)

pub returns-in-None-clause-goes_on : goal.returns-in-None-clause-goes_on
returns-in-None-clause-goes_on c = c.in-None.ensures.lacks
