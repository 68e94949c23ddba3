use Rattle.std.proofs.Common.{arith}
use Rattle.program_script_text.proofs.LastNames.{begins_with_none}
use Rattle.program_script_text.proofs.last_names.take_syllable.Goals as goal

pub loop-digit-preserved : goal.loop-digit-preserved
loop-digit-preserved c =
    begins_with_none c.loop-digit.digit c.args.text.now c.syllable_of.result.now c.syllable_of.ensures c.in_default.ensures.cases c.loop-digit.invariant

pub returns : goal.returns
returns c d small = c.loop-digit.invariant d (omega arith)
