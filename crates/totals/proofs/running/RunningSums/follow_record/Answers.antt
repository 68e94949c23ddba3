use Rattle.std.proofs.Common.{subst}
use Rattle.tables.specs.Records.{key_of}
use Rattle.totals.specs.Counted.{IsOfAnotherTable}
use Rattle.cells.specs.Records.{held_by}
use Rattle.totals.specs.Moves.{order_before}
use Rattle.totals.proofs.Moving.{other_moves}
use Rattle.totals.proofs.Uncounted.{other_there}
use Rattle.totals.proofs.running.RunningSums.follow_record.Goals as goal

pub returns-then-is_past-clause-moves : goal.returns-then-is_past-clause-moves
returns-then-is_past-clause-moves c =
    let v = c.args.self.now in
    let n = c.args.number in
    other_moves v.scale (order_before v.scale (held_by c.args.pen.now)) v (key_of v.scale n) (held_by c.args.pen.now n) c.args.new.now
    (other_there v.scale n c.requires.number (subst (λ q. IsOfAnotherTable q n) c.requires.counted (c.is_past.ensures.past c.if-is_past.true)))
