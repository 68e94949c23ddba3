use Rattle.std.proofs.Common.{sym, ap, ◌∙◌, Some}
use Rattle.std.proofs.lemmas.Result.{IfOk-weaker}
use Rattle.book.specs.History.{replay}
use Rattle.program_script.proofs.Shown.{text_of_record}
use Rattle.program_script.proofs.showing.text_at.Goals as goal

pub returns-clause-row : goal.returns-clause-row
returns-clause-row g c =
    let t = replay g.K.Run.run.first c.args.session.now.history in
    let told = text_of_record t c.text_words-words.ensures.well_formed c.args.key c.text_words-words.result c.text_words-words.ensures.words in
    IfOk-weaker c.of_words.result _ _ (λ kept is. told.there ∙ ap Some (sym is)) (c.of_words.ensures told.text told.is told.words_are)
