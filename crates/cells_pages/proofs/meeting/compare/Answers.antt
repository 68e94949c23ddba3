use Rattle.std.proofs.Common.{ap, ◌∙◌, subst}
use Rattle.cells_pages.specs.Versions.{StartsWith, AreVersions, newest, word_in}
use Rattle.cells_pages.specs.Versions.{at}
use Rattle.cells_pages.specs.Views.{told_pen}
use Rattle.cells_pages.proofs.Seats.{has_word, place_of}
use Rattle.cells_pages.proofs.SeatMoves.{compares}
use Rattle.cells_pages.proofs.meeting.compare.Goals as goal

pub load-requires : goal.load-requires
load-requires g c =
    let own = c.requires.own in (
      own.own,
      has_word _ _ _ c.args.place _ 0 own c.word_at.ensures own.some,
      compares _ own.some _ _ _ c.args.place _ c.requires.told c.word_at.ensures own.within,
    )

pub returns-clause-place : goal.returns-clause-place
returns-clause-place g c =
    let v = c.args.pen.now.me.0 in
    c.load.ensures.2.place ∙ ap (told_pen v.seen v.told v.told_loads) (place_of _ c.args.place _ 0 c.word_at.ensures c.requires.own.some)

pub returns-clause-newest : goal.returns-clause-newest
returns-clause-newest g c = c.load.ensures.2.newest
    ∙ ap (λ q. word_in (newest (at c.args.pen.now.me.0.seen q))) (place_of _ c.args.place _ 0 c.word_at.ensures c.requires.own.some)

pub returns-clause-grows : goal.returns-clause-grows
returns-clause-grows g c =
    let v = c.args.pen.now.me.0 in
    subst (λ q. StartsWith (at v.seen q) (at v.told q)) (place_of _ c.args.place _ 0 c.word_at.ensures c.requires.own.some) c.load.ensures.2.grows

pub returns-clause-sound : goal.returns-clause-sound
returns-clause-sound g c = subst (λ q. AreVersions g.row.N (at c.args.pen.now.me.0.seen q))
    (place_of _ c.args.place _ 0 c.word_at.ensures c.requires.own.some) c.load.ensures.2.sound
