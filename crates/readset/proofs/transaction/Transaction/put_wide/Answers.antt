use Rattle.std.proofs.Common.{◌<◌, Some, refl, ap, sym, ◌∙◌, subst, IsSome}
use Rattle.tables.specs.Sizes.{Sizes}
use Rattle.tables.specs.Database.{Database}
use Rattle.tables.specs.Keys.{IsCustomerKey}
use Rattle.tables.specs.Records.{number_of_key, record_count}
use Rattle.tables.specs.declared.records.RecordKey.TheVariants as key
use Rattle.readset.specs.Cells.{AreCellsOf}
use Rattle.readset.specs.Reads.{held}
use Rattle.readset.specs.Transaction.{TransactionView, GoesOn}
use Rattle.readset.proofs.CellsOf.{wide_cell}
use Rattle.readset.proofs.NarrowOrWide.{wide_kind, writes_above}
use Rattle.readset.proofs.UnderWay.{put_under_way, put_goes_on}
use Rattle.readset.proofs.transaction.Transaction.put_wide.Goals as goal

pub invariant_of-self : goal.invariant_of-self
invariant_of-self g c =
    let i = c.self.invariant in
    let t0 = g.K.Start.tables in
    let first = g.K.Start.reader in
    let n = c.number_of_key-number.result in
    let scale = c.numbering.ensures ∙ ap (λ (t : Database). t.scale) i.0 in
    let at = c.number_of_key-number.ensures.value ∙ ap (λ (q : Sizes). number_of_key q (key.CustomerData c.args.key)) scale in
    let large = (wide_cell t0.scale first.cells (subst (AreCellsOf t0.scale) i.1 i.2) c.args.key n at
    (subst (λ (q : Sizes). n < record_count q) scale c.number_of_key-number.ensures.limit)).0 in
    let read = subst (λ (x : TransactionView). IsSome (held x.reads (number_of_key t0.scale (key.CustomerData c.args.key)))) (sym c.self.view_is)
    c.requires.read in (
      i.0,
      i.1,
      i.2,
      put_under_way first c.self.inside.reader c.self.inside.reads c.self.inside.writes c.put_wide.new.self n (Some c.args.words.now)
          c.put_wide.result i.3
          (subst (λ n. IsSome (held c.self.inside.reads n)) (sym at) read)
          (wide_kind first.cells n (Some c.args.words.now) large c.told-words)
          c.put_wide.ensures.puts c.put_wide.ensures.kept,
    )

pub number_of_key-number-requires : goal.number_of_key-number-requires
number_of_key-number-requires g c = subst (λ (q : Sizes). IsCustomerKey q c.args.key)
    (sym (c.numbering.ensures ∙ ap (λ (t : Database). t.scale) c.self.invariant.0)) c.requires.key

pub put_wide-requires : goal.put_wide-requires
put_wide-requires g c =
    let i = c.self.invariant in
    let t0 = g.K.Start.tables in
    let first = g.K.Start.reader in
    let n = c.number_of_key-number.result in
    let scale = c.numbering.ensures ∙ ap (λ (t : Database). t.scale) i.0 in
    let at = c.number_of_key-number.ensures.value ∙ ap (λ (q : Sizes). number_of_key q (key.CustomerData c.args.key)) scale in
    let large = (wide_cell t0.scale first.cells (subst (AreCellsOf t0.scale) i.1 i.2) c.args.key n at
    (subst (λ (q : Sizes). n < record_count q) scale c.number_of_key-number.ensures.limit)).0 in
    record { above = writes_above first.cells c.self.inside.writes i.3.writes_kinds n large }

pub returns-clause-goes_on : goal.returns-clause-goes_on
returns-clause-goes_on g c =
    let y : TransactionView = record { reads = c.self.inside.reads; writes = c.put_wide.new.self } in
    subst (λ (x : TransactionView). GoesOn 0 1 x y) c.self.view_is
    (put_goes_on (record { reads = c.self.inside.reads; writes = c.self.inside.writes }) y c.number_of_key-number.result (Some c.args.words.now)
    c.put_wide.result refl c.put_wide.ensures.puts c.put_wide.ensures.kept)
