use Rattle.std.proofs.Common.{ℕ}
use Rattle.std.specs.FinMap.{get}
use Rattle.rows.specs.Columns.{district_columns}
use Rattle.rows.specs.declared.columns.DistrictColumns.{DistrictColumns}
use Rattle.rows.proofs.Found.{column_read}
use Rattle.queries.proofs.sold_items.read_next_order.Goals as goal

pub returns-clause-next : goal.returns-clause-next
returns-clause-next g c = λ t h.
    let next : DistrictColumns → ℕ = λ columns. columns.next_order in
    column_read district_columns next 0 (get t.districts c.args.home) c.in_ok-district.district (c.in_ok-district.ensures.row t h)
