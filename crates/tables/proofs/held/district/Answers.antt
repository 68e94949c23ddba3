use Rattle.std.proofs.Common.{Some, sym, ap, ◌∙◌}
use Rattle.std.specs.Option.{option_map}
use Rattle.tables.specs.Rows.{district_words}
use Rattle.tables.proofs.Orders.{exact_district}
use Rattle.tables.proofs.Views.{get-view}
use Rattle.tables.proofs.held.district.Goals as goal

pub returns-in-None : goal.returns-in-None
returns-in-None c = sym (ap (option_map district_words) (get-view exact_district c.args.tables.now.districts c.args.key ∙ sym c.in-None.ensures.value))

pub returns-in-Some : goal.returns-in-Some
returns-in-Some c = ap Some c.words.ensures
    ∙ sym (ap (option_map district_words) (get-view exact_district c.args.tables.now.districts c.args.key ∙ sym c.in-Some.ensures.value))
