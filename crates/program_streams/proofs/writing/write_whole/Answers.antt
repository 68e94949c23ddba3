use Rattle.program_streams.proofs.Written.{front_more}
use Rattle.program_streams.proofs.writing.write_whole.Goals as goal

pub loop-preserved : goal.loop-preserved
loop-preserved g c = front_more _ _ _ c.args.text.now c.loop.rest.now c.in-Ok.count c.in-Ok.ensures.bound c.loop.invariant c.in-Ok.ensures.bytes
