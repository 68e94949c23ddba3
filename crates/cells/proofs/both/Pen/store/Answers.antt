use Rattle.std.proofs.Common.{ap, ◌∙◌, subst}
use Rattle.std.specs.Prelude.{slice_get}
use Rattle.std.proofs.lemmas.Option.{slice_get_within}
use Rattle.cells.specs.Records.{PenView, both_pens, StoresVersion}
use Rattle.cells.proofs.Halves.{stores_narrow}
use Rattle.cells.proofs.both.Pen.store.Goals as goal

pub returns : goal.returns
returns c =
    let narrow = c.self.inside.narrow in
    let has = ap (λ (w : PenView). slice_get w.cells.narrow c.args.number) c.self.view_is ∙ c.requires.own in
    subst (λ (w : PenView). StoresVersion w (both_pens c.store.new.self c.self.inside.wide) c.args.number c.args.version) c.self.view_is
    (stores_narrow narrow c.self.inside.wide c.knows_its_cells.ensures c.store.new.self c.args.number c.args.version
    (slice_get_within narrow.cells c.args.number _ has) c.store.ensures)
