use Rattle.std.proofs.Common.{◌∙◌, sym, true≢false}
use Rattle.tables.proofs.Orders.{exact_number}
use Rattle.tables.proofs.Views.{get-view}
use Rattle.program_recovery.proofs.far.far_warehouse.Goals as goal

pub returns : goal.returns
returns c = (
  c.in_ok-row.row.now,
  get-view exact_number c.args.tables.now.warehouses c.args.key ∙ sym c.in_ok-row.ensures.value,
  λ near. true≢false (sym (c.is_near.ensures.1 near) ∙ c.if-is_near.false),
)
