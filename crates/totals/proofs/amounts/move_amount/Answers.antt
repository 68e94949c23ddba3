use Rattle.std.proofs.Common.{rules, pos, slice_index_or, slice_set, FitsSigned, ap, arith}
use Rattle.std.specs.Int.{w64}
use Rattle.totals.proofs.Wraps.{wrapped}
use Rattle.totals.proofs.amounts.move_amount.Goals as goal

pub returns : goal.returns
returns c =
    let fits : FitsSigned w64 (slice_index_or c.args.amounts.now c.args.place (pos 0)) = search rules in
    ap (slice_set c.args.amounts.now c.args.place)
    (wrapped w64 (slice_index_or c.args.amounts.now c.args.place (pos 0)) c.args.new c.args.old fits c.ranges.new c.ranges.old (omega arith))
