use Rattle.std.proofs.Common.{◌≡◌, ◌<◌, All, sym, ap, ◌∙◌, subst}
use Rattle.std.specs.Option.{ForSome}
use Rattle.tables.specs.Sizes.{Sizes, IsScale}
use Rattle.tables.specs.Apply.{after}
use Rattle.tables.specs.Records.{record_count}
use Rattle.tables.specs.WellFormed.{IsHistoryRow}
use Rattle.tables_laws.proofs.Kept.{after-scale}
use Rattle.totals.specs.Totals.{TotalsView, SumsView}
use Rattle.cells.specs.Records.{held_by}
use Rattle.readset.specs.Cells.{AreCellsOf}
use Rattle.readset.specs.Writes.{AreWrittenOfKind}
use Rattle.cells.specs.Records.{CellsView}
use Rattle.totals.specs.Moves.{HasBuyers, SumsFollow}
use Rattle.totals.proofs.Recorded.{buyers_named, row_added}
use Rattle.totals.proofs.totals.Totals.follow.Goals as goal

pub follow-requires-clause-below : goal.follow-requires-clause-below
follow-requires-clause-below c =
    let may = c.requires.may.3 in
    subst (λ s. All (λ e. e.0 < record_count s) c.args.writes.now.values) (sym may.totals.sums_scale ∙ ap (λ (v : TotalsView). v.sums.scale) (sym c.self.view_is))
    may.ordered.below

pub follow-requires-clause-kinds : goal.follow-requires-clause-kinds
follow-requires-clause-kinds c = subst (λ (cells : CellsView). AreWrittenOfKind cells c.args.writes.now) c.requires.own c.requires.may.3.kinds

pub follow-requires-clause-row : goal.follow-requires-clause-row
follow-requires-clause-row c =
    let t = c.requires.may.0 in
    let x = c.requires.may.1 in
    let may = c.requires.may.3 in
    subst (λ s. ForSome c.args.writes.now.history_row (IsHistoryRow s))
    (after-scale t x ∙ sym may.totals.sums_scale ∙ ap (λ (v : TotalsView). v.sums.scale) (sym c.self.view_is))
    (row_added (IsHistoryRow (after t x).scale) t.history (after t x).history c.args.writes.now.history_row may.commit.history may.leaves.history_rows)

pub follow-requires-clause-count : goal.follow-requires-clause-count
follow-requires-clause-count c =
    let may = c.requires.may in
    let cells = subst (AreCellsOf may.0.scale) c.requires.own may.3.records.count in
    subst (λ s. AreCellsOf s c.args.cells.now) (sym may.3.totals.sums_scale ∙ ap (λ (v : TotalsView). v.sums.scale) (sym c.self.view_is)) cells

pub follow-requires-clause-buyers : goal.follow-requires-clause-buyers
follow-requires-clause-buyers c =
    let may = c.requires.may.3 in
    subst (λ s. HasBuyers s (held_by c.args.pen.now)) (sym may.totals.sums_scale ∙ ap (λ (v : TotalsView). v.sums.scale) (sym c.self.view_is))
    (buyers_named c.args.pen.now c.requires.may.0 may.records)

pub returns-clause-sums : goal.returns-clause-sums
returns-clause-sums c = λ t x reply may.
    let here : c.self.inside.sums ≡ c.args.self.now.sums = ap (λ (v : TotalsView). v.sums) c.self.view_is in
    let scale : c.self.inside.sums.scale ≡ t.scale = ap (λ (v : SumsView). v.scale) here ∙ may.totals.sums_scale in
    c.sums_follow_commits.ensures t x c.args.writes.now reply (held_by c.args.pen.now) c.args.self.now.sums c.follow.new.self
    (subst IsScale (c.scale.ensures ∙ scale) c.keeps_limits.ensures) may.input may.records.well_formed may.records.consistent may.leaves may.commit
    may.ordered may.records.held may.totals.sums
    (subst (λ (q : Sizes × SumsView). SumsFollow q.0 (held_by c.args.pen.now) c.args.writes.now q.1 c.follow.new.self) (λ i. (scale i, here i))
    c.follow.ensures.sums)
