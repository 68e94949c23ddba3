use Rattle.program_script_text.proofs.Cutting.{cut_start, cut_line, cut_more, held_more, lines_of_cut}
use Rattle.program_script_text.proofs.line_buffer.cutting_laws.Goals as goal

pub returns : goal.returns
returns c = record { start = cut_start; line = cut_line; more = cut_more; buffer = held_more; lines = lines_of_cut }
