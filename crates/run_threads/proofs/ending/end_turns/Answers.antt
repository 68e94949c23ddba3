use Rattle.std.proofs.Common.{◌∙◌, arith}
use Rattle.std.proofs.lemmas.Iterator.Adapters.{YieldsList-from_vec}
use Rattle.std.proofs.lemmas.Iterator.Consumers.{YieldsList-turn}
use Rattle.run_threads.proofs.ending.end_turns.Goals as goal

pub push_reserved-requires : goal.push_reserved-requires
push_reserved-requires g c =
    let i = c.loop-logger.invariant in
    let b = c.into_iter-logger-iterator.ensures.into_iter_gives in
    let turn = YieldsList-turn (YieldsList-from_vec {s = c.into_iter-logger-iterator.result} c.args.turned.items b.0 (b.1 ∙ c.args.turned.ok.0))
    c.loop-logger.yielded c.loop-logger.logger-iterator c.loop-logger.yielded_by c.next.result c.next.new.self c.in-Some.logger c.in-Some.is c.next.ensures.steps in
    omega (arith, turn.0, i.files, i.room, c.requires.files, c.loop-logger.files.ok.0)
