use Rattle.std.proofs.Common.{◌≡◌, ◌≢◌, ℕ, Option, Some, List, sym, ap, ◌∙◌, subst}
use Rattle.std.specs.Option.{option_map}
use Rattle.std.proofs.lemmas.Option.{none-some, same_Some}
use Rattle.tables.specs.Sizes.{Sizes}
use Rattle.tables.specs.Records.{IsNarrowKey, number_of_key}
use Rattle.tables.proofs.Numbers.{of_narrow}
use Rattle.tables.specs.Rows.{row_at}
use Rattle.tables.specs.declared.records.RecordKey.{RecordKey}
use Rattle.readset.specs.Reads.{IsReadAs}
use Rattle.readset.proofs.MoreReads.{read_once}
use Rattle.readset.proofs.RowRead.{no_row}
use Rattle.readset.proofs.row_steps.read_row.Goals as goal

pub returns-in_default-clause-others : goal.returns-in_default-clause-others
returns-in_default-clause-others g c = λ n apart.
    c.read.ensures.others n (subst (λ (k : RecordKey). n ≢ number_of_key g.K.Start.tables.scale k) (sym c.key.ensures) apart)

pub returns-in-Some-read-clause-others : goal.returns-in-Some-read-clause-others
returns-in-Some-read-clause-others g c = λ n apart.
    c.read.ensures.others n (subst (λ (k : RecordKey). n ≢ number_of_key g.K.Start.tables.scale k) (sym c.key.ensures) apart)

pub returns-in-None-clause-others : goal.returns-in-None-clause-others
returns-in-None-clause-others g c = λ n apart.
    c.read.ensures.others n (subst (λ (k : RecordKey). n ≢ number_of_key g.K.Start.tables.scale k) (sym c.key.ensures) apart)

pub returns-in-None-clause-row : goal.returns-in-None-clause-row
returns-in-None-clause-row g c = λ t h.
    let s : c.scale.result ≡ g.K.Start.tables.scale = c.scale.ensures in
    let held : Some c.in-Some.words ≡ option_map g.T.Keyed.words_of (g.T.Keyed.at t c.args.key) =
    sym (c.in_ok-words.ensures.words t h ∙ c.in-Some.is) ∙ ap (row_at t) c.key.ensures ∙ g.met.T.Keyed.record_holds_row t c.args.key in
    no_row (g.T.Keyed.are c.scale.result) g.T.Keyed.words_of c.in-Some.words c.read-2.result c.read-2.ensures c.in-None.is (g.T.Keyed.at t c.args.key)
    (λ r is. subst (λ (q : Sizes). g.T.Keyed.are q r) (h.of_population.scale ∙ sym s) (g.met.T.Keyed.within t c.args.key r h.well_formed
    (of_narrow t.scale (g.T.Keyed.record_of c.args.key) (subst (λ (q : Sizes). IsNarrowKey q (g.T.Keyed.record_of c.args.key)) (sym h.of_population.scale) c.requires)) is)) held

pub returns-in_default-clause-version : goal.returns-in_default-clause-version
returns-in_default-clause-version g c =
    subst (λ (o : Option (List ℕ)). IsReadAs c.read.new.self.reads (number_of_key g.K.Start.tables.scale (g.T.Keyed.record_of c.args.key)) o)
    c.in_default.is (subst (λ (k : RecordKey). IsReadAs c.read.new.self.reads (number_of_key g.K.Start.tables.scale k) c.in_ok-words.field-0)
    c.key.ensures c.in_ok-words.ensures.version)

pub returns-in-Some-read-clause-version : goal.returns-in-Some-read-clause-version
returns-in-Some-read-clause-version g c =
    subst (λ (o : Option (List ℕ)). IsReadAs c.read.new.self.reads (number_of_key g.K.Start.tables.scale (g.T.Keyed.record_of c.args.key)) o)
    (c.in-Some.is ∙ ap Some (c.read-2.ensures.some c.in-Some-read.row c.in-Some-read.is).1)
    (subst (λ (k : RecordKey). IsReadAs c.read.new.self.reads (number_of_key g.K.Start.tables.scale k) c.in_ok-words.field-0)
    c.key.ensures c.in_ok-words.ensures.version)

pub returns-in-None-clause-stale : goal.returns-in-None-clause-stale
returns-in-None-clause-stale g c = λ _ row is read.
    let own = subst (λ (k : RecordKey). IsReadAs c.read.new.self.reads (number_of_key g.K.Start.tables.scale k) c.in_ok-words.field-0)
    c.key.ensures c.in_ok-words.ensures.version in
    let same : Some c.in-Some.words ≡ Some (g.T.Keyed.words_of row) =
    sym c.in-Some.is ∙ read_once c.read.new.self.reads (number_of_key g.K.Start.tables.scale (g.T.Keyed.record_of c.args.key)) _ _ own read in
    none-some row (sym c.in-None.is ∙ c.read-2.ensures.each row (subst (λ (q : Sizes). g.T.Keyed.are q row) (sym c.scale.ensures) is) (same_Some _ _ same))
