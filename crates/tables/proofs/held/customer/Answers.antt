use Rattle.std.proofs.Common.{Some, sym, ap, ◌∙◌}
use Rattle.std.specs.Option.{option_map}
use Rattle.tables.specs.Rows.{customer_words}
use Rattle.tables.proofs.Orders.{exact_customer}
use Rattle.tables.proofs.Views.{get-view}
use Rattle.tables.proofs.held.customer.Goals as goal

pub returns-in-None : goal.returns-in-None
returns-in-None c = sym (ap (option_map customer_words) (get-view exact_customer c.args.tables.now.customers c.args.key ∙ sym c.in-None.ensures.value))

pub returns-in-Some : goal.returns-in-Some
returns-in-Some c = ap Some c.words.ensures
    ∙ sym (ap (option_map customer_words) (get-view exact_customer c.args.tables.now.customers c.args.key ∙ sym c.in-Some.ensures.value))
