use Rattle.std.proofs.Common.{◌∙◌, arith}
use Rattle.std.proofs.lemmas.Iterator.Adapters.{YieldsList-from_vec}
use Rattle.std.proofs.lemmas.Iterator.Consumers.{YieldsList-end, YieldsList-turn}
use Rattle.run_threads.proofs.ending.last_turns.Goals as goal

pub push_reserved-requires : goal.push_reserved-requires
push_reserved-requires g c =
    let i = c.loop-writer.invariant in
    let b = c.into_iter-writer-iterator.ensures.into_iter_gives in
    let turn = YieldsList-turn (YieldsList-from_vec {s = c.into_iter-writer-iterator.result} c.args.writers.items b.0 (b.1 ∙ c.args.writers.ok.0))
    c.loop-writer.yielded c.loop-writer.writer-iterator c.loop-writer.yielded_by c.next.result c.next.new.self c.in-Some.writer c.in-Some.is c.next.ensures.steps in
    omega (arith, turn.0, i.turned, i.room, c.requires.room, c.loop-writer.turned.ok.0)

pub returns : goal.returns
returns g c =
    let b = c.into_iter-writer-iterator.ensures.into_iter_gives in
    let end = YieldsList-end (YieldsList-from_vec {s = c.into_iter-writer-iterator.result} c.args.writers.items b.0 (b.1 ∙ c.args.writers.ok.0))
    c.loop-writer.yielded c.loop-writer.writer-iterator c.loop-writer.yielded_by c.next.result c.next.new.self c.in-None.is c.next.ensures.steps in
    omega (arith, c.loop-writer.invariant.turned, end.1)
