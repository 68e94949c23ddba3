use Rattle.std.proofs.Common.{Some, sym, subst}
use Rattle.tables.specs.WellFormed.{IsHistoryRow}
use Rattle.cells.specs.Records.{held_by}
use Rattle.totals.specs.Moves.{MovesSums, order_before, moved, no_record, row_moves}
use Rattle.totals.proofs.Moving.{history_moves, with_rows}
use Rattle.totals.proofs.running.RunningSums.follow.Goals as goal

pub follow_row-requires : goal.follow_row-requires
follow_row-requires c =
    subst (λ z. IsHistoryRow z c.in-Some.row) (sym c.follow_values.ensures.scale) (c.requires.row c.in-Some.row (sym c.in-Some.ensures))

pub returns-in-Some-clause-sums : goal.returns-in-Some-clause-sums
returns-in-Some-clause-sums c =
    let s = c.args.self.now.scale in
    let order = order_before s (held_by c.args.pen.now) in
    let middle = c.follow_values.new.self in
    let row : IsHistoryRow middle.scale c.in-Some.row =
    subst (λ z. IsHistoryRow z c.in-Some.row) (sym c.follow_values.ensures.scale) (c.requires.row c.in-Some.row (sym c.in-Some.ensures)) in
    let then : MovesSums s order no_record (row_moves c.args.writes.now.history_row) middle c.follow_row.new.self =
    subst (λ z. MovesSums z order no_record (row_moves c.args.writes.now.history_row) middle c.follow_row.new.self) c.follow_values.ensures.scale
    (subst (λ r. MovesSums middle.scale order no_record (row_moves r) middle c.follow_row.new.self) c.in-Some.ensures
    (subst (λ v. MovesSums middle.scale order no_record (row_moves (Some c.in-Some.row)) middle v) (sym c.follow_row.ensures.paid)
    (history_moves middle order c.follow_row.ensures.places c.in-Some.row row))) in
    with_rows s order (moved s (held_by c.args.pen.now) c.args.writes.now.values) (row_moves c.args.writes.now.history_row) c.args.self.now middle c.follow_row.new.self
    c.follow_values.ensures.moves then
