use Rattle.std.proofs.Common.{◌∙◌}
use Rattle.readset.proofs.UnderWay.{candidate_still}
use Rattle.queries.proofs.ToldOrder.{order_told}
use Rattle.queries.proofs.last_order.read_order.Goals as goal

pub returns-clause-told : goal.returns-clause-told
returns-clause-told g c = λ t h.
    order_told t c.args.key c.in-Some.order c.in_ok-lines.lines h.well_formed
    (c.in_ok-order.ensures.row t
    (candidate_still g.K.Start.tables c.read_row.new.transaction c.read_lines.new.transaction c.in-Some.order.line_count c.read_lines.ensures.reads t h)
    ∙ c.in-Some.is)
    (c.in_ok-lines.ensures.lines t h)
