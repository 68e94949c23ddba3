use Rattle.std.proofs.Common.{◌<◌, refl, ap, sym, ◌∙◌, subst, length, IsSome}
use Rattle.tables.specs.Sizes.{Sizes}
use Rattle.tables.specs.Database.{Database}
use Rattle.tables.specs.Records.{number_of_key, IsNarrowKey, IsRecordKey, narrow_count}
use Rattle.tables.proofs.Numbers.{of_narrow}
use Rattle.cells.specs.Records.{CellsView}
use Rattle.readset.specs.Reads.{held}
use Rattle.readset.specs.Transaction.{TransactionView, GoesOn}
use Rattle.readset.proofs.NarrowOrWide.{narrow_kind, writes_below}
use Rattle.readset.proofs.UnderWay.{put_under_way, put_goes_on}
use Rattle.readset.proofs.transaction.Transaction.put.Goals as goal

pub invariant_of-self : goal.invariant_of-self
invariant_of-self g c =
    let i = c.self.invariant in
    let scale = c.numbering.ensures ∙ ap (λ (t : Database). t.scale) i.0 in
    let small = subst (λ k. c.number_of_key-number.result < k) (ap narrow_count scale
    ∙ sym i.2.narrow ∙ ap (λ (cells : CellsView). length cells.narrow) i.1) (c.number_of_key-number.ensures.narrow
    (subst (λ (q : Sizes). IsNarrowKey q c.args.key) (sym scale) c.requires.key)) in
    let at = c.number_of_key-number.ensures.value
    ∙ ap (λ (q : Sizes). number_of_key q c.args.key) (c.numbering.ensures ∙ ap (λ (t : Database). t.scale) c.self.invariant.0) in
    let read = subst (λ (x : TransactionView). IsSome (held x.reads (number_of_key g.K.Start.tables.scale c.args.key))) (sym c.self.view_is)
    c.requires.read in (
      i.0,
      i.1,
      i.2,
      put_under_way g.K.Start.reader c.self.inside.reader c.self.inside.reads c.self.inside.writes c.put.new.self c.number_of_key-number.result
          c.args.value
          c.put.result i.3
          (subst (λ n. IsSome (held c.self.inside.reads n)) (sym at) read)
          (narrow_kind g.K.Start.reader.cells c.number_of_key-number.result c.args.value small c.put.ensures.narrow)
          c.put.ensures.puts c.put.ensures.kept,
    )

pub number_of_key-number-requires : goal.number_of_key-number-requires
number_of_key-number-requires g c = subst (λ (q : Sizes). IsRecordKey q c.args.key)
    (sym (c.numbering.ensures ∙ ap (λ (t : Database). t.scale) c.self.invariant.0)) (of_narrow g.K.Start.tables.scale c.args.key c.requires.key)

pub put-requires : goal.put-requires
put-requires g c =
    let i = c.self.invariant in
    let scale = c.numbering.ensures ∙ ap (λ (t : Database). t.scale) i.0 in
    let small = subst (λ k. c.number_of_key-number.result < k) (ap narrow_count scale
    ∙ sym i.2.narrow ∙ ap (λ (cells : CellsView). length cells.narrow) i.1) (c.number_of_key-number.ensures.narrow
    (subst (λ (q : Sizes). IsNarrowKey q c.args.key) (sym scale) c.requires.key)) in
    record { below = writes_below g.K.Start.reader.cells c.self.inside.writes i.3.writes_kinds c.number_of_key-number.result small }

pub returns-clause-goes_on : goal.returns-clause-goes_on
returns-clause-goes_on g c =
    let y : TransactionView = record { reads = c.self.inside.reads; writes = c.put.new.self } in
    subst (λ (x : TransactionView). GoesOn 0 1 x y) c.self.view_is
    (put_goes_on (record { reads = c.self.inside.reads; writes = c.self.inside.writes }) y c.number_of_key-number.result c.args.value c.put.result refl
    c.put.ensures.puts c.put.ensures.kept)
