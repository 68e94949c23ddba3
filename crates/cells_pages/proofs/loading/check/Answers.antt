use Rattle.std.proofs.Common.{◌+◌, ◌*◌, ◌<◌, length, sym, ap, ◌∙◌, subst}
use Rattle.cells_pages.proofs.Seats.{has_word}
use Rattle.cells_pages.proofs.ReaderMoves.{checks}
use Rattle.cells_pages.proofs.loading.check.Goals as goal

pub load-requires : goal.load-requires
load-requires g c =
    let own = c.requires.own in
    let v = c.args.reader.now.me.0 in (
      own.own,
      has_word _ _ _ c.args.place _ 0 own c.word_at.ensures own.some,
      checks _ own.some _ _ _ _ (c.word_at.ensures ∙ ap (λ q. q * g.row.N + 0) (sym c.requires.place))
          (subst (λ q. q < length v.seen) (sym c.requires.place) own.within)
          c.requires.words.0
          c.requires.words.1,
    )
