-- A history whose entries may be written to a log file, through a commit.
use Rattle.std.proofs.Common.{◌≡◌, ℕ, ◌<◌, ◌≤◌, ◌+◌, ◌-◌, Option, Some, List, [], ◌∷◌, ◌++◌, sym, ap, ◌∙◌, subst, arith}
use Rattle.std.specs.Option.{unwrap_or}
use Rattle.std.proofs.lemmas.Grind.{merely}
use Rattle.std.proofs.lemmas.List.Elements.{All-nil, All-push}
use Rattle.customer_data.specs.Text.{IsData}
use Rattle.customer_data.specs.Words.{data_words}
use Rattle.tables.specs.Sizes.{Sizes}
use Rattle.tables.specs.Database.{Database}
use Rattle.tables.specs.Apply.{after}
use Rattle.tables.specs.Records.{narrow_count, record_count, size, key_of, customer_at, IsRecordKey}
use Rattle.tables.specs.Rows.{rows, row_at}
use Rattle.tables.specs.WellFormed.{IsWellFormed}
use Rattle.tables.specs.declared.records.RecordKey.TheVariants as key
use Rattle.tables.specs.declared.records.Table.TheVariants as table
use Rattle.tables.proofs.Numbers.{numbered, wide_named}
use Rattle.tables_laws.proofs.Kept.{after-scale}
use Rattle.encoding.specs.Puts.{IsRow}
use Rattle.encoding.proofs.Values.{lawful_rows}
use Rattle.cells.specs.Records.{CellsView, ReaderView}
use Rattle.readset.specs.Cells.{AreCellsOf}
use Rattle.readset.specs.Writes.{value_for}
use Rattle.readset.proofs.CellsOf.{count_of}
use Rattle.readset.specs.declared.work.Work.{Work}
use Rattle.book.specs.Book.{IsWorkOf, AreInRecordOrder, entry_of}
use Rattle.book.specs.History.{replay, CommitsAt}
use Rattle.book.specs.Loggable.{IsLoggable, AreLoggable}
use Rattle.tables.specs.declared.limits.TheConstants.{MAX_TERMINALS}
use Rattle.book.specs.declared.entry.Entry.{Entry}
use Rattle.book.proofs.Replaying.{replay-scale}

-- nothing has committed
pub first_loggable : (s : Sizes) (terminals : ℕ) → terminals ≤ MAX_TERMINALS → AreLoggable s terminals []
first_loggable s terminals few = record {
  each = All-nil (IsLoggable s);
  asked = All-nil (λ (e : Entry). e.terminal < terminals);
  few = few;
}

-- what a record of C_DATA holds is a text's words
text_held : (t : Database) → IsWellFormed t → (n : ℕ) (value : Option (List ℕ)) → narrow_count t.scale ≤ n → n < record_count t.scale
    → rows t n ≡ value → IsRow data_words IsData value
text_held t wf n value wide below holds =
    let p : ℕ = n - narrow_count t.scale in
    let at : narrow_count t.scale + p ≡ n = omega (arith, wide) in
    let small : p < size t.scale table.CustomerData = omega (arith, wide, below) in
    let named : key_of t.scale n ≡ key.CustomerData (customer_at t.scale p) = ap (key_of t.scale) (sym at) ∙ wide_named t.scale p small in
    let is = subst (IsRecordKey t.scale) named (numbered t.scale n below).0 in
    subst (IsRow data_words IsData) (ap (row_at t) (sym named) ∙ holds) (lawful_rows t wf (key.CustomerData (customer_at t.scale p)) is)

-- one entry more
pub next_loggable : {t0 : Database} {terminals : ℕ} {cells : CellsView} {history : List Entry} {reader : ReaderView} {work : Work} (number tid terminal : ℕ)
    → AreLoggable t0.scale terminals history → IsWorkOf t0 cells reader work → AreCellsOf t0.scale cells → AreInRecordOrder work.reads work.writes
    → CommitsAt (replay t0 history) work.input work.writes work.reply → IsWellFormed (after (replay t0 history) work.input) → terminal < terminals
    → AreLoggable t0.scale terminals (history ++ entry_of number tid terminal work ∷ [])
next_loggable {t0 = t0} {terminals = terminals} {cells = cells} {history = history} {work = work} number tid terminal are is_work count ordered commits well_formed own =
    let entry : Entry = entry_of number tid terminal work in
    let t : Database = after (replay t0 history) work.input in
    let r_scale : (replay t0 history).scale ≡ t0.scale = replay-scale t0 history in
    let t_scale : t.scale ≡ t0.scale = after-scale (replay t0 history) work.input ∙ r_scale in
    let below : (n : ℕ) (value : Option (List ℕ)) → value_for work.writes n ≡ Some value → n < record_count t0.scale
    = λ n value is. subst (λ m. n < m) (count_of t0.scale cells count) (is_work.limits.writes_cells n value is) in
    record {
      each = All-push (IsLoggable t0.scale) history entry are.each (record {
        ordered = ordered.writes_ascend;
        records = below;
        narrow = λ n value is small. (is_work.limits.writes_kinds n value is).narrow (subst (λ m. n < m) (sym count.narrow) small);
        texts = λ n value is wide. text_held t well_formed n value
            (subst (λ s. narrow_count s ≤ n) (sym t_scale) wide) (subst (λ s. n < record_count s) (sym t_scale) (below n value is))
            (commits.commit.rows n (subst (λ s. n < record_count s) (sym r_scale) (below n value is))
            ∙ ap (λ (v : Option (Option (List ℕ))). unwrap_or v (rows (replay t0 history) n)) is);
        limit = is_work.limits.writes_limit;
        done = merely (record { tables = replay t0 history; scale = replay-scale t0 history; well_formed = well_formed; commits = commits });
      });
      asked = All-push (λ (e : Entry). e.terminal < terminals) history entry are.asked own;
      few = are.few;
    }
