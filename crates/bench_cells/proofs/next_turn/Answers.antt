use Rattle.std.proofs.Common.{◌≡◌, ◌∙◌, ap, sym, arith}
use Rattle.tidword.specs.TidWord.{tid_of}
use Rattle.cells.specs.Versions.{last_tid}
use Rattle.cells.specs.Records.{PenView, at}
use Rattle.cells.proofs.Rising.{last_tid-last, ends_newest}
use Rattle.bench_cells.proofs.next_turn.Goals as goal

pub returns-clause-larger : goal.returns-clause-larger
returns-clause-larger g c =
    let all = at c.args.pen.now.all 0 in
    let pen = c.learn-wide.ensures.pen ∙ c.learn-narrow.ensures.pen in
    let last : last_tid all ≡ tid_of c.learn-narrow.result = last_tid-last all _ (ends_newest all c.learn-narrow.ensures.some)
    ∙ ap tid_of (sym c.learn-narrow.ensures.newest) in
    let same : last_tid (at c.learn-wide.new.pen.all 0) ≡ last_tid all = ap (λ (w : PenView). last_tid (at w.all 0)) pen in
    omega (arith, c.max.ensures, last, same)

pub returns-clause-larger_wide : goal.returns-clause-larger_wide
returns-clause-larger_wide g c =
    let first = c.args.first_wide in
    let all = at c.learn-narrow.new.pen.all first in
    let last : last_tid all ≡ tid_of c.learn-wide.result = last_tid-last all _ (ends_newest all c.learn-wide.ensures.some)
    ∙ ap tid_of (sym c.learn-wide.ensures.newest) in
    let same : last_tid (at c.learn-wide.new.pen.all first) ≡ last_tid all = ap (λ (w : PenView). last_tid (at w.all first)) c.learn-wide.ensures.pen in
    omega (arith, c.max.ensures, last, same)
