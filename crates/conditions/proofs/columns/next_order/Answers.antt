use Rattle.std.proofs.Common.{Option}
use Rattle.std.specs.Option.{option_map_or}
use Rattle.tables.specs.declared.rows.District.{District}
use Rattle.tables.proofs.Orders.{exact_district}
use Rattle.conditions.proofs.Told.{told}
use Rattle.conditions.proofs.columns.next_order.Goals as goal

pub returns-in-Some : goal.returns-in-Some
returns-in-Some c = told exact_district (λ (w : Option District). option_map_or (λ r. r.next_order) w 0) c.args.tables.now.districts c.args.key.now _
    c.in-Some.ensures.value

pub returns-in-None : goal.returns-in-None
returns-in-None c = told exact_district (λ (w : Option District). option_map_or (λ r. r.next_order) w 0) c.args.tables.now.districts c.args.key.now _
    c.in-None.ensures.value
