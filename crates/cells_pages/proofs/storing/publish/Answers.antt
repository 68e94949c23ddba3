use Rattle.std.proofs.Common.{[], ◌∷◌, ◌++◌, ◌+◌, ◌*◌, sym, ap, ◌∙◌, set, subst}
use Rattle.cells_pages.specs.Versions.{AreVersions}
use Rattle.cells_pages.specs.Versions.{at}
use Rattle.cells_pages.specs.Views.{pen_view}
use Rattle.cells_pages.proofs.Seats.{has_word}
use Rattle.cells_pages.proofs.PenMoves.{publishes}
use Rattle.cells_pages.proofs.storing.publish.Goals as goal

pub store-requires : goal.store-requires
store-requires g c =
    let own = c.requires.own in
    let v = c.args.pen.now.me.0 in
    let place = sym c.requires.marked.1 in (
      own.own,
      has_word _ _ _ c.args.place _ 0 own c.word_at.ensures own.some,
      publishes _ own.some _ _ _ c.args.word _ c.requires.marked.0 (c.word_at.ensures ∙ ap (λ q. q * g.row.N + 0) place)
          (subst (λ q. AreVersions g.row.N (at v.seen q ++ set v.next 0 c.args.word ∷ [])) place c.requires.sound),
    )

pub returns-clause-published : goal.returns-clause-published
returns-clause-published g c =
    let v = c.args.pen.now.me.0 in
    c.store.ensures.2 ∙ ap (λ q. pen_view (set v.seen q (at v.seen q ++ set v.next 0 c.args.word ∷ []))) c.requires.marked.1
