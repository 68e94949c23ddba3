use Rattle.std.proofs.Common.{IsSome, sym, subst}
use Rattle.tables.specs.Sizes.{Sizes}
use Rattle.tables.specs.Records.{IsNarrowKey}
use Rattle.tables.proofs.Numbers.{of_narrow}
use Rattle.book.specs.History.{replay}
use Rattle.book.proofs.Replaying.{replay-scale}
use Rattle.program_script.proofs.showing.present_at.Goals as goal

pub unwrap-requires : goal.unwrap-requires
unwrap-requires g c =
    let t0 = g.K.Run.run.first in
    let history = c.args.session.now.history in
    let key = of_narrow (replay t0 history).scale (g.T.Keyed.record_of c.args.key)
    (subst (λ (s : Sizes). IsNarrowKey s (g.T.Keyed.record_of c.args.key)) (sym (replay-scale t0 history)) c.requires) in
    subst (λ row. IsSome row) c.row_at.ensures.row (g.met.T.Present.there (replay t0 history) c.args.key c.row_at.ensures.well_formed key)
