-- A transaction under way, after a step.
use Rattle.std.proofs.Common.{◌≡◌, ℕ, ◌+◌, ◌≤◌, Bool, Option, Some, None, Result, Ok, Err, OnOk, OnErr, IsSome, is_some, Bor, List, length, refl, sym, ap, ◌∙◌}
use Rattle.std.proofs.Common.{subst, arith}
use Rattle.std.specs.Option.{option_copied}
use Rattle.tables.specs.Sizes.{Sizes}
use Rattle.tables.specs.Database.{Database}
use Rattle.tables.specs.Records.{number_of_key, IsRecordKey}
use Rattle.tables.specs.Rows.{row_at}
use Rattle.tables.specs.declared.records.RecordKey.{RecordKey}
use Rattle.tables.specs.declared.input.Input.{Input}
use Rattle.tables.specs.declared.reply.Reply.{Reply}
use Rattle.money.specs.declared.refusal.Refusal.{Refusal}
use Rattle.money.specs.declared.refusal.Refusal.TheVariants.{OutOfMemory, Stale}
use Rattle.cells.specs.Records.{CellsView, IsOfKind, ReaderView, HasGrown, cell_count}
use Rattle.cells.specs.declared.cells.Version.{Version}
use Rattle.readset.specs.Reads.{ReadSetView, Keeps, AreWithin, AreReadOfKind, AreRead, held, value_of}
use Rattle.readset.specs.Writes.{WriteSetView, puts}
use Rattle.readset.specs.Commit.{IsCommitOf}
use Rattle.readset.specs.Refused.{NoneMissing, IsAboveCap, IsRefusal}
use Rattle.tables.specs.declared.limits.TheConstants.{MAX_READS, MAX_WRITES}
use Rattle.readset.specs.Explains.{IsCandidate}
use Rattle.readset.specs.Transaction.{TransactionView, IsUnderWay, ReadsMore, GoesOn, IsStepRefusal, IsExecuted}
use Rattle.readset.proofs.MoreReads.{candidate_before, row_read}
use Rattle.readset.proofs.NarrowOrWide.{puts_kind}
use Rattle.readset.proofs.WrittenRecords.{keeps_read, length-insert_entry, puts_read, written_within}

-- whether an entry is found is whether there is one
pub found_is : {X : Type 0} (o : Option (Bor X)) (b : Bool) (found : Option X) → b ≡ is_some o → option_copied o ≡ found → b ≡ is_some found
found_is None b found is copied = is ∙ ap is_some copied
found_is (Some x) b found is copied = is ∙ ap is_some copied

pub some_is : {X : Type 0} (o : Option X) (x : X) → o ≡ Some x → IsSome o
some_is o x is = ap is_some is

-- after a load
pub loaded_under_way : (start old new : ReaderView) (cells : CellsView) (reads more : ReadSetView) (writes : WriteSetView)
    → IsUnderWay start old (record { reads = reads; writes = writes }) → cells ≡ start.cells
    → ((first : ReaderView) → AreRead first old reads → AreRead first new more) → ((first : ReaderView) → HasGrown first old → HasGrown first new)
    → (AreWithin (cell_count cells) reads → AreWithin (cell_count cells) more) → AreReadOfKind cells more → Keeps reads more
    → IsUnderWay start new (record { reads = more; writes = writes })
loaded_under_way start old new cells reads more writes h same chain grown within kinds keeps = record {
  read = chain start h.read;
  grown = grown start h.grown;
  within = subst (λ (c : CellsView). AreWithin (cell_count c) more) same (within (subst (λ (c : CellsView). AreWithin (cell_count c) reads) (sym same) h.within));
  reads_kinds = subst (λ (c : CellsView). AreReadOfKind c more) same kinds;
  writes_read = keeps_read writes reads more keeps h.writes_read;
  writes_kinds = h.writes_kinds;
}

-- what a version that was read says of its key's row
pub row_told : (t0 : Database) (reads : ReadSetView) (k : RecordKey) (n : ℕ) (v : Version) (words : Option (List ℕ)) → n ≡ number_of_key t0.scale k
    → IsRecordKey t0.scale k
    → held reads n ≡ Some v → words ≡ value_of v → (t : Database) → IsCandidate t0 reads t → row_at t k ≡ words
row_told t0 reads k n v words at is_key found is t h =
    let same : t0.scale ≡ t.scale = sym h.of_population.scale in
    sym (is ∙ row_read t reads k n v h.agrees found (at ∙ ap (λ (q : Sizes). number_of_key q k) same) (subst (λ (q : Sizes). IsRecordKey q k) same is_key))

-- after a write of a record that was read, or none for want of memory
pub put_under_way : {X : Type 0} (start now : ReaderView) (reads : ReadSetView) (writes more : WriteSetView) (n : ℕ) (value : Option (List ℕ))
    (result : Result X Refusal)
    → IsUnderWay start now (record { reads = reads; writes = writes }) → IsSome (held reads n) → IsOfKind start.cells n value
    → OnOk result (more ≡ puts writes n value) → OnErr result (more ≡ writes)
    → IsUnderWay start now (record { reads = reads; writes = more })
put_under_way start now reads writes more n value (Ok x) h read kind put kept =
    subst (λ (w : WriteSetView). IsUnderWay start now (record { reads = reads; writes = w })) (sym put)
    (record {
      read = h.read;
      grown = h.grown;
      within = h.within;
      reads_kinds = h.reads_kinds;
      writes_read = puts_read writes reads n value h.writes_read read;
      writes_kinds = puts_kind start.cells writes n value h.writes_kinds kind;
    })
put_under_way start now reads writes more n value (Err e) h read kind put kept =
    subst (λ (w : WriteSetView). IsUnderWay start now (record { reads = reads; writes = w })) (sym kept) h

-- the end of a transaction whose reply was found
pub executed : (t0 : Database) (x : Input) (start now : ReaderView) (reads : ReadSetView) (writes : WriteSetView) (told : Reply)
    → IsUnderWay start now (record { reads = reads; writes = writes }) → NoneMissing t0 x → ¬ IsAboveCap t0.scale x reads
    → ((t : Database) → IsCandidate t0 reads t → IsCommitOf t x writes told) → length reads ≤ MAX_READS → length writes.values ≤ MAX_WRITES
    → IsExecuted t0 x start now (Ok (record { input = x; reads = reads; writes = writes; reply = told }))
executed t0 x start now reads writes told h none within explains few_reads few_writes = record {
  input = refl;
  none_missing = none;
  within_cap = within;
  read = h.read;
  explains = explains;
  limits = record {
    reads_limit = few_reads;
    writes_limit = few_writes;
    reads_cells = h.within;
    writes_cells = written_within writes reads (cell_count start.cells) h.writes_read h.within;
    writes_kinds = h.writes_kinds;
    writes_read = h.writes_read;
  };
  grown = h.grown;
  refused = tt;
}

-- and of one that is refused
pub refused : (t0 : Database) (x : Input) (start now : ReaderView) (refusal : Refusal) → HasGrown start now → IsRefusal t0 x start now refusal
    → IsExecuted t0 x start now (Err refusal)
refused t0 x start now refusal grown why = record {
  input = tt;
  none_missing = tt;
  within_cap = tt;
  read = tt;
  explains = tt;
  limits = tt;
  grown = grown;
  refused = why;
}

-- by a step, where no item is missing and no number above the order cap was read
pub step_refused : (t0 : Database) (x : Input) (start now : ReaderView) (under_way : TransactionView) (refusal : Refusal)
    → IsUnderWay start now under_way → NoneMissing t0 x
    → ¬ IsAboveCap t0.scale x under_way.reads → IsStepRefusal t0 under_way refusal → IsRefusal t0 x start now refusal
step_refused t0 x start now under_way OutOfMemory h none within why = tt
step_refused t0 x start now under_way Stale h none within why = (none, (under_way.reads, h.read, within, why))
step_refused t0 x start now under_way _ h none within why = absurd why

-- steps in a row
pub reads_none : (most : ℕ) (x : TransactionView) → ReadsMore most x x
reads_none most x = record { keeps = λ n v found. found; limit = omega arith; writes = refl }

pub reads_twice : (x y z : TransactionView) (first then most : ℕ) → ReadsMore first x y → ReadsMore then y z → first + then ≤ most → ReadsMore most x z
reads_twice x y z first then most a b within = record {
  keeps = λ n v found. b.keeps n v (a.keeps n v found);
  limit = omega (arith, a.limit, b.limit, within);
  writes = b.writes ∙ a.writes;
}

-- tables at which it may have read after a step are such before it
pub candidate_still : (t0 : Database) (x y : TransactionView) (most : ℕ) → ReadsMore most x y → (t : Database) → IsCandidate t0 y.reads t
    → IsCandidate t0 x.reads t
candidate_still t0 x y most more t h = candidate_before t0 x.reads y.reads t more.keeps h

pub goes_on : (reads writes : ℕ) (x y : TransactionView) → ReadsMore reads x y → GoesOn reads writes x y
goes_on reads writes x y more = record {
  keeps = more.keeps;
  limit = more.limit;
  written = let same : length y.writes.values ≡ length x.writes.values = ap (λ (w : WriteSetView). length w.values) more.writes in omega (arith, same);
  history = ap (λ (w : WriteSetView). w.history_row) more.writes;
}

pub goes_on_none : (reads writes : ℕ) (x : TransactionView) → GoesOn reads writes x x
goes_on_none reads writes x = record { keeps = λ n v found. found; limit = omega arith; written = omega arith; history = refl }

pub goes_on_twice : (x y z : TransactionView) (a b c d reads writes : ℕ) → GoesOn a b x y → GoesOn c d y z → a + c ≤ reads → b + d ≤ writes
    → GoesOn reads writes x z
goes_on_twice x y z a b c d reads writes first then few_reads few_writes = record {
  keeps = λ n v found. then.keeps n v (first.keeps n v found);
  limit = omega (arith, first.limit, then.limit, few_reads);
  written = omega (arith, first.written, then.written, few_writes);
  history = then.history ∙ first.history;
}

-- a write of one record
pub put_goes_on : {X : Type 0} (x y : TransactionView) (n : ℕ) (value : Option (List ℕ)) (result : Result X Refusal) → y.reads ≡ x.reads
    → OnOk result (y.writes ≡ puts x.writes n value) → OnErr result (y.writes ≡ x.writes) → GoesOn 0 1 x y
put_goes_on x y n value (Ok r) reads put kept =
    let one : length (puts x.writes n value).values ≤ length x.writes.values + 1 = length-insert_entry n value x.writes.values in
    record {
      keeps = λ m v found. ap (λ (r : ReadSetView). held r m) reads ∙ found;
      limit = let same : length y.reads ≡ length x.reads = ap length reads in omega (arith, same);
      written = let same : length y.writes.values ≡ length (puts x.writes n value).values = ap (λ (w : WriteSetView). length w.values) put in
          omega (arith, same, one);
      history = ap (λ (w : WriteSetView). w.history_row) put;
    }
put_goes_on x y n value (Err e) reads put kept = record {
  keeps = λ m v found. ap (λ (r : ReadSetView). held r m) reads ∙ found;
  limit = let same : length y.reads ≡ length x.reads = ap length reads in omega (arith, same);
  written = let same : length y.writes.values ≡ length x.writes.values = ap (λ (w : WriteSetView). length w.values) kept in omega (arith, same);
  history = ap (λ (w : WriteSetView). w.history_row) kept;
}

-- tables at which it may have read after steps are such before them
pub candidate_then : (t0 : Database) (x y : TransactionView) (reads writes : ℕ) → GoesOn reads writes x y → (t : Database) → IsCandidate t0 y.reads t
    → IsCandidate t0 x.reads t
candidate_then t0 x y reads writes on t h = candidate_before t0 x.reads y.reads t on.keeps h
