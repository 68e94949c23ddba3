use Rattle.std.proofs.Common.{◌∙◌, subst}
use Rattle.std.specs.Prelude.{slice_index}
use Rattle.cells_pages.specs.Versions.{AreVersions, newest}
use Rattle.cells_pages.specs.Versions.{at}
use Rattle.cells_pages.proofs.Seats.{has_word, place_of, rest_of}
use Rattle.cells_pages.proofs.PenMoves.{shows}
use Rattle.cells_pages.proofs.showing.show.Goals as goal

pub load-requires : goal.load-requires
load-requires g c =
    let own = c.requires.own in (
      own.own,
      has_word _ _ _ c.args.place _ c.args.i own c.word_at.ensures c.requires.word,
      shows _ own.some _ _ _ c.args.place c.args.i _ c.requires.pen c.word_at.ensures own.within c.requires.word,
    )

pub returns-clause-found : goal.returns-clause-found
returns-clause-found g c =
    let place = place_of _ c.args.place _ c.args.i c.word_at.ensures c.requires.word in
    let rest = rest_of _ c.args.place _ c.args.i c.word_at.ensures c.requires.word in
    c.load.ensures.2.1 ∙ (λ h. slice_index (newest (at c.args.pen.now.me.0.seen (place h))) (rest h))

pub returns-clause-sound : goal.returns-clause-sound
returns-clause-sound g c = subst (λ q. AreVersions g.row.N (at c.args.pen.now.me.0.seen q))
    (place_of _ c.args.place _ c.args.i c.word_at.ensures c.requires.word) c.load.ensures.2.2
