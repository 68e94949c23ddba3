use Rattle.std.proofs.Common.{Some, sym, ap, ◌∙◌}
use Rattle.std.specs.Option.{option_map}
use Rattle.tables.specs.Rows.{stock_words}
use Rattle.tables.proofs.Orders.{exact_stock}
use Rattle.tables.proofs.Views.{get-view}
use Rattle.tables.proofs.held.stock.Goals as goal

pub returns-in-None : goal.returns-in-None
returns-in-None c = sym (ap (option_map stock_words) (get-view exact_stock c.args.tables.now.stock c.args.key ∙ sym c.in-None.ensures.value))

pub returns-in-Some : goal.returns-in-Some
returns-in-Some c = ap Some c.words.ensures
    ∙ sym (ap (option_map stock_words) (get-view exact_stock c.args.tables.now.stock c.args.key ∙ sym c.in-Some.ensures.value))
