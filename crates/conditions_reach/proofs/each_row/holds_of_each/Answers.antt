use Rattle.std.proofs.Common.{refl}
use Rattle.tables.proofs.Orders.{IsExact}
use Rattle.conditions.proofs.Searched.{each_told}
use Rattle.conditions_reach.proofs.each_row.holds_of_each.Goals as goal

pub returns : goal.returns
returns g c =
    let o : IsExact g.K.Ord.cmp = record { total = g.met.K.Ord.total; same = c.requires } in
    each_told o c.args.rows.now (λ s. g.C.RowCondition.holds_of s) c.args.condition.now c.args.condition.now refl c.least_row.result _
    c.is_none.ensures c.least_row.ensures
