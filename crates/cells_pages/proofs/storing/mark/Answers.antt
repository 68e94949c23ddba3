use Rattle.std.proofs.Common.{ap, ◌∙◌, subst, set, refl}
use Rattle.cells_pages.specs.Versions.{AreVersions, newest}
use Rattle.cells_pages.specs.Versions.{at}
use Rattle.cells_pages.specs.Views.{writing}
use Rattle.cells_pages.proofs.Seats.{has_word, place_of}
use Rattle.cells_pages.proofs.PenMoves.{opens}
use Rattle.cells_pages.proofs.storing.mark.Goals as goal

pub store-requires : goal.store-requires
store-requires g c =
    let own = c.requires.own in (
      own.own,
      has_word _ _ _ c.args.place _ 0 own c.word_at.ensures own.some,
      opens _ own.some _ _ _ c.args.place 1 _ c.requires.pen c.word_at.ensures own.within refl,
    )

pub returns-clause-marked : goal.returns-clause-marked
returns-clause-marked g c =
    let seen = c.args.pen.now.me.0.seen in
    c.store.ensures.2.0 ∙ ap (λ q. writing seen q (set (newest (at seen q)) 0 1)) (place_of _ c.args.place _ 0 c.word_at.ensures c.requires.own.some)

pub returns-clause-sound : goal.returns-clause-sound
returns-clause-sound g c = subst (λ q. AreVersions g.row.N (at c.args.pen.now.me.0.seen q)) (place_of _ c.args.place _ 0 c.word_at.ensures c.requires.own.some)
    c.store.ensures.2.1
