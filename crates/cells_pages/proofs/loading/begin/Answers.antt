use Rattle.std.proofs.Common.{◌∷◌, [], ap, ◌∙◌}
use Rattle.cells_pages.specs.Views.{reading}
use Rattle.cells_pages.proofs.Seats.{has_word, place_of}
use Rattle.cells_pages.proofs.ReaderMoves.{begins}
use Rattle.cells_pages.proofs.loading.begin.Goals as goal

pub load-requires : goal.load-requires
load-requires g c =
    let own = c.requires in
    (own.own, has_word _ _ _ c.args.place _ 0 own c.word_at.ensures own.some, begins _ own.some _ _ _ c.args.place _ c.word_at.ensures own.within)

pub returns-clause-begun : goal.returns-clause-begun
returns-clause-begun g c =
    let told = c.load.ensures.2 in
    let v = c.args.reader.now.me.0 in
    (told.0, told.1 ∙ ap (λ q. reading v.seen v.loads q told.0 (c.load.result ∷ [])) (place_of _ c.args.place _ 0 c.word_at.ensures c.requires.some))
