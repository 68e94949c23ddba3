use Rattle.std.proofs.Common.{◌∙◌}
use Rattle.tables.specs.declared.rows.District.{District}
use Rattle.tables.proofs.Orders.{exact_district}
use Rattle.tables.proofs.LookUps.{column-found, column-missing}
use Rattle.conditions.proofs.columns.district_year_to_date.Goals as goal

pub returns-in-Some : goal.returns-in-Some
returns-in-Some c = column-found exact_district (λ (r : District). r.year_to_date) c.args.tables.now.districts c.args.key.now c.in-Some.row.now
    c.in-Some.ensures.value

pub returns-in-None : goal.returns-in-None
returns-in-None c = c.new.ensures ∙ column-missing exact_district (λ (r : District). r.year_to_date) c.args.tables.now.districts c.args.key.now
    c.in-None.ensures.value
