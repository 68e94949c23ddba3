use Rattle.std.proofs.Common.{ℤ, pos}
use Rattle.std.specs.FinMap.{get}
use Rattle.rows.specs.Columns.{customer_columns}
use Rattle.rows.specs.declared.columns.CustomerColumns.{CustomerColumns}
use Rattle.rows.proofs.Found.{column_read}
use Rattle.queries.proofs.last_order.read_balance.Goals as goal

pub returns-clause-balance : goal.returns-clause-balance
returns-clause-balance g c = λ t h.
    let balance : CustomerColumns → ℤ = λ columns. columns.balance in
    column_read customer_columns balance (pos 0) (get t.customers c.args.asked) c.in_ok-customer.customer (c.in_ok-customer.ensures.row t h)
