use Rattle.std.proofs.Common.{refl, arith}
use Rattle.traces.specs.declared.lane.Batched.{Batched}
use Rattle.traces.specs.declared.lane.Phase.TheVariants.{BatchTaken}
use Rattle.traces.proofs.Steps.{take_is_followed}
use Rattle.traces.proofs.follower.Follower.take.Goals as goal

pub returns : goal.returns
returns c =
    let b : Batched = record { phase = BatchTaken; mark = c.args.mark; until = c.args.self.now.committed; length = 0 } in
    take_is_followed c.args._trace.now c.args.self.now c.args.logger c.in-Some.lane c.in-Some.ensures _ c.args.mark b
    (c.if-not-is_idle.ensures.0 refl) (omega (arith, c.if-self-mark.false)) (omega (arith, c.if-mark-self.false)) refl refl refl refl refl refl refl refl
