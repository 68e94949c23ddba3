use Rattle.std.proofs.Common.{IsSome, sym, ap, ◌∙◌, subst}
use Rattle.std.specs.FinMap.{get}
use Rattle.tables.specs.Database.{Database}
use Rattle.tables.proofs.Orders.{exact_number}
use Rattle.encoding.proofs.Given.{is_there, row_there}
use Rattle.book.specs.History.{replay}
use Rattle.book.proofs.Replaying.{replay-IsOf}
use Rattle.program_script.proofs.Shown.{warehouse_from}
use Rattle.program_script.proofs.showing.warehouse_at.Goals as goal

pub unwrap-first-requires : goal.unwrap-first-requires
unwrap-first-requires g c =
    let first = c.first_tables in
    is_there exact_number first.result.now.warehouses c.args.key c.get.result c.get.ensures.value
    (subst (λ (t : Database). IsSome (get t.warehouses c.args.key)) (sym first.ensures.tables) ((first.ensures.well_formed.warehouses c.args.key).1 c.requires))

pub returns-clause-row : goal.returns-clause-row
returns-clause-row g c =
    let t0 = g.K.Run.run.first in
    let history = c.args.session.now.history in
    let first = c.first_tables in
    let found = row_there exact_number first.result.now.warehouses c.args.key c.get.result c.unwrap-first.result c.get.ensures.value c.unwrap-first.ensures in
    let at_first = ap (λ (t : Database). get t.warehouses c.args.key) (sym first.ensures.tables) ∙ found in
    warehouse_from t0 (replay t0 history) (replay-IsOf t0 history) c.args.key c.unwrap-first.result.now c.present_at-columns.result at_first
    c.present_at-columns.ensures.row
