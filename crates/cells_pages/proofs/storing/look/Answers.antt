use Rattle.std.proofs.Common.{◌+◌, ◌*◌, sym, ap, ◌∙◌}
use Rattle.std.specs.Prelude.{slice_index}
use Rattle.cells_pages.proofs.Seats.{has_word, rest_of}
use Rattle.cells_pages.proofs.PenMoves.{looks}
use Rattle.cells_pages.proofs.storing.look.Goals as goal

pub load-requires : goal.load-requires
load-requires g c =
    let own = c.requires.own in (
      own.own,
      has_word _ _ _ c.args.place _ c.args.i own c.word_at.ensures c.requires.word,
      looks _ own.some _ _ _ c.args.i _ c.requires.marked.0 (c.word_at.ensures ∙ ap (λ q. q * g.row.N + c.args.i) (sym c.requires.marked.1)) c.requires.word,
    )

pub returns-clause-found : goal.returns-clause-found
returns-clause-found g c = c.load.ensures.2.1
    ∙ ap (slice_index c.args.pen.now.me.0.next) (rest_of _ c.args.place _ c.args.i c.word_at.ensures c.requires.word)
