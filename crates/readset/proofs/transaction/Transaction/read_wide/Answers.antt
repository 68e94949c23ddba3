use Rattle.std.proofs.Common.{◌≡◌, ◌∙◌, ◌<◌, refl, ap, sym, subst, IsSome, Some, Result, Ok}
use Rattle.std.specs.Result.{IsOkAnd}
use Rattle.money.specs.declared.refusal.Refusal.{Refusal}
use Rattle.cells.specs.Records.{CellsView}
use Rattle.tables.specs.Sizes.{Sizes}
use Rattle.tables.specs.Database.{Database}
use Rattle.tables.specs.Keys.{IsCustomerKey}
use Rattle.tables.specs.Records.{number_of_key, record_count}
use Rattle.tables.specs.declared.records.RecordKey.TheVariants as key
use Rattle.cells.specs.declared.wide.WideVersion.{WideVersion}
use Rattle.readset.specs.Reads.{AreReadOfKind, as_version, held, value_of}
use Rattle.readset.specs.Transaction.{TransactionView, ReadsMore}
use Rattle.readset.proofs.CellsOf.{wide_cell}
use Rattle.readset.proofs.UnderWay.{loaded_under_way, row_told, some_is}
use Rattle.readset.proofs.transaction.Transaction.read_wide.Goals as goal

pub invariant_of-self-2 : goal.invariant_of-self-2
invariant_of-self-2 g c =
    let i = c.self.invariant in
    let loaded = c.get_wide.ensures in (
      i.0,
      i.1,
      i.2,
      loaded_under_way g.K.Start.reader c.self.inside.reader c.get_wide.new.reader c.self.inside.cells.now c.self.inside.reads c.get_wide.new.self
          c.self.inside.writes
          i.3 i.1 loaded.chain loaded.grown_since loaded.within loaded.kinds loaded.keeps,
    )

pub number_of_key-number-requires : goal.number_of_key-number-requires
number_of_key-number-requires g c = subst (λ (q : Sizes). IsCustomerKey q c.args.key)
    (sym (c.numbering.ensures ∙ ap (λ (t : Database). t.scale) c.self.invariant.0)) c.requires

pub get_wide-requires-clause-is_record : goal.get_wide-requires-clause-is_record
get_wide-requires-clause-is_record g c =
    let scale = c.numbering.ensures ∙ ap (λ (t : Database). t.scale) c.self.invariant.0 in
    wide_cell g.K.Start.tables.scale c.self.inside.cells.now c.self.invariant.2 c.args.key c.number_of_key-number.result
    (c.number_of_key-number.ensures.value ∙ ap (λ (q : Sizes). number_of_key q (key.CustomerData c.args.key)) scale)
    (subst (λ (q : Sizes). c.number_of_key-number.result < record_count q) scale c.number_of_key-number.ensures.limit)

pub get_wide-requires-clause-kinds : goal.get_wide-requires-clause-kinds
get_wide-requires-clause-kinds g c = subst (λ (cells : CellsView). AreReadOfKind cells c.self.inside.reads) (sym c.self.invariant.1) c.self.invariant.3.reads_kinds

pub returns-clause-words : goal.returns-clause-words
returns-clause-words g c =
    let at = c.number_of_key-number.ensures.value
    ∙ ap (λ (q : Sizes). number_of_key q (key.CustomerData c.args.key)) (c.numbering.ensures ∙ ap (λ (t : Database). t.scale) c.self.invariant.0) in
    row_told g.K.Start.tables c.get_wide.new.self (key.CustomerData c.args.key) c.number_of_key-number.result (as_version c.in_ok-version.version)
    c.wide_value_of.result at c.requires c.in_ok-version.ensures.holds c.wide_value_of.ensures

pub returns-clause-holds : goal.returns-clause-holds
returns-clause-holds g c =
    let at = c.number_of_key-number.ensures.value
    ∙ ap (λ (q : Sizes). number_of_key q (key.CustomerData c.args.key)) (c.numbering.ensures ∙ ap (λ (t : Database). t.scale) c.self.invariant.0) in
    subst (λ n. IsSome (held c.get_wide.new.self n)) at (some_is _ (as_version c.in_ok-version.version) c.in_ok-version.ensures.holds)

pub returns-clause-version : goal.returns-clause-version
returns-clause-version g c =
    let at = c.number_of_key-number.ensures.value
    ∙ ap (λ (q : Sizes). number_of_key q (key.CustomerData c.args.key)) (c.numbering.ensures ∙ ap (λ (t : Database). t.scale) c.self.invariant.0) in
    let version = as_version c.in_ok-version.version in
    (version, subst (λ n. held c.get_wide.new.self n ≡ Some version) at c.in_ok-version.ensures.holds, c.wide_value_of.ensures)

pub returns-clause-again : goal.returns-clause-again
returns-clause-again g c = λ v is.
    let at = c.number_of_key-number.ensures.value
    ∙ ap (λ (q : Sizes). number_of_key q (key.CustomerData c.args.key)) (c.numbering.ensures ∙ ap (λ (t : Database). t.scale) c.self.invariant.0) in
    let before : held c.self.inside.reads c.number_of_key-number.result ≡ Some v = ap (held c.self.inside.reads) at
    ∙ ap (λ (x : TransactionView). held x.reads (number_of_key g.K.Start.tables.scale (key.CustomerData c.args.key))) c.self.view_is ∙ is in
    let same = c.get_wide.ensures.held v before in
    let version = subst (λ (r : Result WideVersion Refusal). IsOkAnd r (λ w. as_version w ≡ v)) c.in_ok-version.was same.0 in (
      ap Ok (c.wide_value_of.ensures ∙ ap value_of version),
      (λ i. record { reads = same.1 i; writes = c.self.inside.writes }) ∙ c.self.view_is,
    )

pub returns-clause-reads : goal.returns-clause-reads
returns-clause-reads g c =
    let y : TransactionView = record { reads = c.get_wide.new.self; writes = c.self.inside.writes } in
    subst (λ (x : TransactionView). ReadsMore 1 x y) c.self.view_is
    (record { keeps = c.get_wide.ensures.keeps; limit = c.get_wide.ensures.limit; writes = refl })
