use Rattle.std.proofs.Common.{◌∙◌, sym}
use Rattle.tables.proofs.Orders.{exact_stock}
use Rattle.tables.proofs.Views.{get-view}
use Rattle.program_recovery.proofs.far.far_stock.Goals as goal

pub returns : goal.returns
returns c = (
  c.in_ok-row.row.now,
  get-view exact_stock c.args.tables.now.stock c.args.key ∙ sym c.in_ok-row.ensures.value,
  c.in_ok-column.ensures,
)
