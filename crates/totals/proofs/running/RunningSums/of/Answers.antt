use Rattle.std.proofs.Common.{◌≡◌, ap, ◌∙◌, subst}
use Rattle.tables.specs.Maps.{sum_of}
use Rattle.tables.specs.Records.{narrow_count}
use Rattle.totals.specs.Totals.{SumsView}
use Rattle.cells.specs.Records.{held_by}
use Rattle.totals.specs.Moves.{MovesSums, order_before, no_record, no_history}
use Rattle.totals.specs.Opening.{no_sums, worth_from}
use Rattle.totals.proofs.Moving.{with_rows}
use Rattle.totals.proofs.running.RunningSums.of.Goals as goal

pub returns-clause-sums : goal.returns-clause-sums
returns-clause-sums c =
    let s = c.args.scale.now in
    let held = held_by c.args.pen.now in
    let middle = c.count_records.new.self in
    let begun : c.in_ok-sums.sums ≡ no_sums s = c.in_ok-sums.ensures in
    let records = subst (λ (a : SumsView). MovesSums a.scale (order_before a.scale held) (worth_from a.scale held (narrow_count a.scale) 0) no_history a middle) begun
    c.count_records.ensures.moves in
    let rows = subst (λ z. MovesSums z (order_before s held) no_record (λ f. sum_of f c.args.history.now) middle c.count_rows.new.self)
    (c.count_records.ensures.scale ∙ ap (λ (a : SumsView). a.scale) begun) (c.count_rows.ensures.moves (order_before s held)) in
    with_rows s (order_before s held) (worth_from s held (narrow_count s) 0) (λ f. sum_of f c.args.history.now) (no_sums s) middle c.count_rows.new.self records rows
