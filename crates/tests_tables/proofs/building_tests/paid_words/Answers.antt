use Rattle.std.proofs.Common.{Some, ap, ◌∙◌}
use Rattle.std.proofs.lemmas.Result.{IfOk-weaker}
use Rattle.customer_data.specs.Text.{first_text}
use Rattle.customer_data.specs.Words.{data_words}
use Rattle.tests_tables.proofs.building_tests.paid_words.Goals as goal

pub returns : goal.returns
returns c =
    let first = c.first_text_is_one.ensures in
    IfOk-weaker c.data_after.result _ _ (λ after is. (_, ap Some is, c.payments_keep_texts.ensures _ first_text first))
    (c.data_after.ensures first_text first (c.words-words.ensures ∙ ap data_words c.first-first.ensures))
