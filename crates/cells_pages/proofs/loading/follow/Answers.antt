use Rattle.std.proofs.Common.{◌+◌, ◌*◌, ◌<◌, length, sym, ◌∙◌, subst, arith}
use Rattle.cells_pages.proofs.Seats.{has_word}
use Rattle.cells_pages.proofs.ReaderMoves.{follows}
use Rattle.cells_pages.proofs.loading.follow.Goals as goal

pub load-requires : goal.load-requires
load-requires g c =
    let own = c.requires.own in
    let v = c.args.reader.now.me.0 in
    let word = c.requires.word in (
      own.own,
      has_word _ _ _ c.args.place _ c.args.i own c.word_at.ensures word.1,
      follows _ own.some _ _ _ _ (c.word_at.ensures ∙ (λ h. sym c.requires.place h * g.row.N + sym word.2 h))
          (subst (λ q. q < length v.seen) (sym c.requires.place) own.within)
          (omega arith)
          (omega arith),
    )
