-- The mark is at none of the places so far.
use Rattle.program_script_text.proofs.Marks.{LacksBefore}
use Rattle.program_script_text.proofs.cut.place_of.Given as goal

abbrev pub invariant-loop-place : goal.invariant-loop-place
invariant-loop-place l = LacksBefore l.mark l.text l.place
