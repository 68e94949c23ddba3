use Rattle.std.proofs.Common.{◌∙◌}
use Rattle.recover_found.proofs.LastMarks.{mark_of_last}
use Rattle.recover_found.proofs.durable.last_mark.Goals as goal

pub returns-in-Some : goal.returns-in-Some
returns-in-Some c =
    let last = c.in-Some.ensures.item.3 in
    c.mark.ensures ∙ mark_of_last c.args.bodies.now c.in-Some.body.now c.in-Some.body.now last.0 (last.1 c.in-Some.body.now)
