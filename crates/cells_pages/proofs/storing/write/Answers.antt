use Rattle.std.proofs.Common.{◌+◌, ◌*◌, sym, ap, ◌∙◌, set}
use Rattle.cells_pages.specs.Views.{writing}
use Rattle.cells_pages.proofs.Seats.{has_word, rest_of}
use Rattle.cells_pages.proofs.PenMoves.{puts}
use Rattle.cells_pages.proofs.storing.write.Goals as goal

pub store-requires : goal.store-requires
store-requires g c =
    let own = c.requires.own in
    let word = c.requires.word in (
      own.own,
      has_word _ _ _ c.args.place _ c.args.i own c.word_at.ensures word.1,
      puts _ own.some _ _ _ c.args.i c.args.word _ c.requires.marked.0 (c.word_at.ensures ∙ ap (λ q. q * g.row.N + c.args.i) (sym c.requires.marked.1)) word.0
          word.1,
    )

pub returns-clause-written : goal.returns-clause-written
returns-clause-written g c =
    let v = c.args.pen.now.me.0 in
    let i = rest_of _ c.args.place _ c.args.i c.word_at.ensures c.requires.word.1 in
    c.store.ensures.2 ∙ (λ h. writing v.seen (c.requires.marked.1 h) (set v.next (i h) c.args.word))
