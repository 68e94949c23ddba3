use Rattle.std.proofs.Common.{ap, ◌∙◌}
use Rattle.tables.specs.Rows.{rows}
use Rattle.tables.proofs.Numbers.{narrow_among}
use Rattle.book.specs.Book.{BookView}
use Rattle.book.specs.History.{replay}
use Rattle.book.proofs.Held.{value_held}
use Rattle.book.proofs.book.Book.record.Goals as goal

pub returns-clause-held : goal.returns-clause-held
returns-clause-held g c =
    c.held.ensures.held ∙ value_held c.self.invariant.0.sound c.args.number (narrow_among g.K.Run.run.first.scale c.args.number c.requires.is_record)
    ∙ ap (λ (q : BookView). rows (replay g.K.Run.run.first q.history) c.args.number) c.self.view_is
