use Rattle.tables.specs.Database.{database}
use Rattle.encoding.proofs.Puts.{takes_new_order, remove-view}
use Rattle.tables.proofs.Orders.{exact_order}
use Rattle.encoding.proofs.putting.take_out.Goals as goal

pub returns : goal.returns
returns c t0 = takes_new_order t0 (database c.args.tables.now) c.args.key _
    (remove-view exact_order c.args.tables.now.new_orders c.remove.new.self c.args.key c.remove.ensures.updates)
