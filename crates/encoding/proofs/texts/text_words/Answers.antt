use Rattle.std.proofs.Common.{Option, List, ℕ, [], sym, ap, ◌∙◌}
use Rattle.std.specs.Prelude.{unwrap_or}
use Rattle.customer_data.specs.Words.{data_words}
use Rattle.tables.proofs.Orders.{exact_customer}
use Rattle.encoding.proofs.Given.{is_there, row_there}
use Rattle.encoding.proofs.texts.text_words.Goals as goal

pub unwrap-requires : goal.unwrap-requires
unwrap-requires c =
    is_there exact_customer c.args.tables.now.texts c.args.key c.get.result c.get.ensures.value
    ((c.requires.well_formed.texts c.args.key).1 c.requires.key)

pub returns : goal.returns
returns c =
    let found = row_there exact_customer c.args.tables.now.texts c.args.key c.get.result c.unwrap.result c.get.ensures.value c.unwrap.ensures in
    c.words.ensures ∙ ap (λ (o : Option (List ℕ)). data_words (unwrap_or o [])) (sym found)
