use Rattle.std.proofs.Common.{◌≡◌, ◌∙◌, ap, sym, subst, IsSome, Some, Ok}
use Rattle.cells.specs.Records.{CellsView}
use Rattle.tables.specs.Sizes.{Sizes}
use Rattle.tables.specs.Database.{Database}
use Rattle.tables.specs.Records.{number_of_key, IsRecordKey}
use Rattle.tables.proofs.Numbers.{of_narrow}
use Rattle.readset.specs.Reads.{AreReadOfKind, held, value_of}
use Rattle.readset.specs.Transaction.{TransactionView}
use Rattle.readset.proofs.UnderWay.{loaded_under_way, row_told, some_is}
use Rattle.readset.proofs.transaction.Transaction.read.Goals as goal

pub invariant_of-self-2 : goal.invariant_of-self-2
invariant_of-self-2 g c =
    let i = c.self.invariant in
    let loaded = c.get.ensures in (
      i.0,
      i.1,
      i.2,
      loaded_under_way g.K.Start.reader c.self.inside.reader c.get.new.reader c.self.inside.cells.now c.self.inside.reads c.get.new.self
          c.self.inside.writes
          i.3 i.1 loaded.chain loaded.grown_since loaded.within loaded.kinds loaded.keeps,
    )

pub number_of_key-number-requires : goal.number_of_key-number-requires
number_of_key-number-requires g c = subst (λ (q : Sizes). IsRecordKey q c.args.key)
    (sym (c.numbering.ensures ∙ ap (λ (t : Database). t.scale) c.self.invariant.0)) (of_narrow g.K.Start.tables.scale c.args.key c.requires)

pub get-requires-clause-kinds : goal.get-requires-clause-kinds
get-requires-clause-kinds g c = subst (λ (cells : CellsView). AreReadOfKind cells c.self.inside.reads) (sym c.self.invariant.1) c.self.invariant.3.reads_kinds

pub returns-clause-words : goal.returns-clause-words
returns-clause-words g c =
    let at = c.number_of_key-number.ensures.value
    ∙ ap (λ (q : Sizes). number_of_key q c.args.key) (c.numbering.ensures ∙ ap (λ (t : Database). t.scale) c.self.invariant.0) in
    row_told g.K.Start.tables c.get.new.self c.args.key c.number_of_key-number.result c.in_ok-version.version c.value_of.result at (of_narrow g.K.Start.tables.scale c.args.key c.requires)
    c.in_ok-version.ensures.holds c.value_of.ensures

pub returns-clause-holds : goal.returns-clause-holds
returns-clause-holds g c =
    let at = c.number_of_key-number.ensures.value
    ∙ ap (λ (q : Sizes). number_of_key q c.args.key) (c.numbering.ensures ∙ ap (λ (t : Database). t.scale) c.self.invariant.0) in
    subst (λ n. IsSome (held c.get.new.self n)) at (some_is _ c.in_ok-version.version c.in_ok-version.ensures.holds)

pub returns-in_err-version-clause-again : goal.returns-in_err-version-clause-again
returns-in_err-version-clause-again g c = λ v is.
    let at = c.number_of_key-number.ensures.value
    ∙ ap (λ (q : Sizes). number_of_key q c.args.key) (c.numbering.ensures ∙ ap (λ (t : Database). t.scale) c.self.invariant.0) in
    let before : held c.self.inside.reads c.number_of_key-number.result ≡ Some v =
    ap (held c.self.inside.reads) at ∙ ap (λ (x : TransactionView). held x.reads (number_of_key g.K.Start.tables.scale c.args.key)) c.self.view_is ∙ is in
    let got = (c.get.ensures.held v before).0 in
    absurd (let e = sym c.in_err-version.was ∙ got in cc)

pub returns-clause-again : goal.returns-clause-again
returns-clause-again g c = λ v is.
    let at = c.number_of_key-number.ensures.value
    ∙ ap (λ (q : Sizes). number_of_key q c.args.key) (c.numbering.ensures ∙ ap (λ (t : Database). t.scale) c.self.invariant.0) in
    let before : held c.self.inside.reads c.number_of_key-number.result ≡ Some v =
    ap (held c.self.inside.reads) at ∙ ap (λ (x : TransactionView). held x.reads (number_of_key g.K.Start.tables.scale c.args.key)) c.self.view_is ∙ is in
    let same = c.get.ensures.held v before in
    let version : c.in_ok-version.version ≡ v = let e = sym c.in_ok-version.was ∙ same.0 in cc in (
      ap Ok (c.value_of.ensures ∙ ap value_of version),
      (λ i. record { reads = same.1 i; writes = c.self.inside.writes }) ∙ c.self.view_is,
    )
