use Rattle.std.proofs.Common.{◌≡◌, ◌∷◌, ap, ◌∙◌}
use lib.Dec.{eqb}
use Rattle.tidword.specs.TidWord.{tid_of}
use Rattle.cells_pages.specs.Versions.{newest, word_in}
use Rattle.cells.specs.Records.{at}
use Rattle.cells_pages.proofs.Lists.{ends_newest}
use Rattle.cells.proofs.Rising.{is_last_by_tid}
use Rattle.cells.proofs.cells.Cells.is_latest.Goals as goal

pub returns-clause-latest : goal.returns-clause-latest
returns-clause-latest g c = λ payload seen.
    let learn = c.learn-latest.ensures in
    let all = at c.args.pen.now.all c.args.number in
    let left : c.tid.result ≡ tid_of (word_in (newest all)) = c.tid.ensures ∙ ap tid_of learn.newest in
    is_last_by_tid _ all _ (c.args.word ∷ payload) (newest all) learn.reader.rising learn.reader.grows seen (ends_newest all learn.some)
    (c.eq.ensures ∙ (λ i. eqb (left i) (c.tid-2.ensures i)))
