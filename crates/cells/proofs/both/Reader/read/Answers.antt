use Rattle.std.proofs.Common.{ap, ◌∙◌, subst}
use Rattle.std.specs.Prelude.{slice_get}
use Rattle.std.proofs.lemmas.Option.{slice_get_within}
use Rattle.cells.specs.Records.{ReaderView, both_readers, LoadsRecord}
use Rattle.cells.proofs.Halves.{loads_narrow}
use Rattle.cells.proofs.both.Reader.read.Goals as goal

pub returns : goal.returns
returns g c =
    let narrow = c.self.inside.narrow in
    let has = ap (λ (r : ReaderView). slice_get r.cells.narrow c.args.number) c.self.view_is ∙ c.requires.own in
    subst (λ (r : ReaderView). LoadsRecord r (both_readers c.read.new.self c.self.inside.wide) c.args.number c.read.result) c.self.view_is
    (loads_narrow narrow c.self.inside.wide c.knows_its_cells.ensures.seen c.knows_its_cells.ensures.loads c.read.new.self c.args.number c.read.result
    (slice_get_within narrow.cells c.args.number _ has) c.read.ensures)
