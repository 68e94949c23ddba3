use Rattle.std.proofs.Common.{◌∙◌, arith}
use Rattle.std.proofs.lemmas.Iterator.Adapters.{YieldsList-from_vec}
use Rattle.std.proofs.lemmas.Iterator.Consumers.{YieldsList-end}
use Rattle.program_live.proofs.live.slots.Goals as goal

pub returns : goal.returns
returns g c =
    let b = c.into_iter-disk-iterator.ensures.into_iter_gives in
    let end = YieldsList-end (YieldsList-from_vec {s = c.into_iter-disk-iterator.result} c.args.disks.items b.0 (b.1 ∙ c.args.disks.ok.0))
    c.loop-disk.yielded c.loop-disk.disk-iterator c.loop-disk.yielded_by c.next.result c.next.new.self c.in-None.is c.next.ensures.steps in
    omega (arith, c.loop-disk.invariant, end.1)
