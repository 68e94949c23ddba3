-- What a reader that has executed a transaction has read, and where that explains the transaction.
use Rattle.std.proofs.Common.{◌≡◌, ℕ, ◌<◌, Some, [], sym, subst, Result, Ok, Err}
use Rattle.tables.specs.Database.{Database}
use Rattle.tables.specs.Constant.{IsOf}
use Rattle.tables.specs.Inputs.{IsInput}
use Rattle.tables.specs.Conditions.{IsConsistent}
use Rattle.tables.specs.WellFormed.{IsWellFormed}
use Rattle.tables.specs.declared.input.Input.{Input}
use Rattle.tables.specs.declared.reply.Reply.{Reply}
use Rattle.cells.specs.Records.{CellsView, ReaderView, cell_count}
use Rattle.cells.specs.declared.cells.Version.{Version}
use Rattle.readset.specs.Reads.{ReadSetView, AreRead, held}
use Rattle.money.specs.declared.refusal.Refusal.{Refusal}
use Rattle.money.specs.declared.refusal.Refusal.TheVariants.{OutOfMemory, ItemNotValid, OrdersFull, Stale}
use Rattle.tables.specs.Sizes.{Sizes}
use Rattle.readset.specs.Explains.{Explains, Agrees, IsCandidate, IsWithinLimits}
use Rattle.readset.specs.Refused.{IsRefusal, IsAboveCap, NoneMissing}
use Rattle.readset.specs.Transaction.{IsExecuted}
use Rattle.readset.specs.Writes.{WriteSetView}
use Rattle.readset.specs.Commit.{IsCommitOf}
use Rattle.readset.specs.declared.work.Work.{Work}
use Rattle.book.specs.Book.{IsReadBy, IsWorkOf}
use Rattle.book.proofs.Become.{becomes}

read_by : (cells : CellsView) (old new : ReaderView) (reads : ReadSetView) → ((n : ℕ) (v : Version) → held reads n ≡ Some v → n < cell_count cells) → AreRead old new reads
    → IsReadBy cells new reads
read_by cells old new reads within read = record {
  within = within;
  records = read.records;
  seen = λ n v h. ((read.last n v h).0, [], (read.last n v h).1);
}

-- consistent tables have the conditions of each district that was read
pub explains_where_consistent : (t0 : Database) (x : Input) (reads : ReadSetView) (writes : WriteSetView) (reply : Reply) → Explains t0 x reads writes reply
    → (t : Database) → IsOf t0 t → IsWellFormed t → IsConsistent t → Agrees t reads → IsCommitOf t x writes reply
explains_where_consistent t0 x reads writes reply explains t of_population well_formed consistent agrees = explains t (record {
  of_population = of_population;
  well_formed = well_formed;
  numbered = λ k here _. record {
    condition_2 = consistent.condition_2 k here;
    condition_3 = consistent.condition_3 k here;
    condition_6 =
        λ j _. consistent.condition_6 j;
  };
  agrees = agrees;
})

-- tables at which a run's transactions may have read are such tables of the population that the run's first have become
may_be : {p t0 t : Database} {reads : ReadSetView} → IsOf p t0 → IsCandidate t0 reads t → IsCandidate p reads t
may_be of may = record {
  of_population = becomes of may.of_population;
  well_formed = may.well_formed;
  numbered = may.numbered;
  agrees = may.agrees;
}

none_missing_there : {p t0 : Database} (x : Input) → IsOf p t0 → NoneMissing p x → NoneMissing t0 x
none_missing_there x of none t here = none t (becomes of here)

explains_there : {p t0 : Database} (x : Input) (reads : ReadSetView) (writes : WriteSetView) (reply : Reply) → IsOf p t0
    → Explains p x reads writes reply → Explains t0 x reads writes reply
explains_there x reads writes reply of explains t may = explains t (may_be of may)

-- so what an execution says of the population it says of the run's first tables
pub refusal_there : {p t0 : Database} (x : Input) (old new : ReaderView) (refusal : Refusal) → IsOf p t0 → IsRefusal p x old new refusal
    → IsRefusal t0 x old new refusal
refusal_there x old new OutOfMemory of h = tt
refusal_there x old new (ItemNotValid item) of h = λ t here. h t (becomes of here)
refusal_there x old new OrdersFull of h = (
  none_missing_there x of h.0,
  (h.1.0, h.1.1, subst (λ (s : Sizes). IsAboveCap s x h.1.0) (sym of.scale) h.1.2),
)
refusal_there x old new Stale of h = (
  none_missing_there x of h.0,
  (
    h.1.0,
    h.1.1,
    (λ above. h.1.2 (subst (λ (s : Sizes). IsAboveCap s x h.1.0) of.scale above)),
    (λ t may. h.1.3 t (may_be of may)),
  ),
)
refusal_there x old new _ of h = absurd h

pub executed_there : {p t0 : Database} {x : Input} {old new : ReaderView} (result : Result Work Refusal) → IsOf p t0 → IsExecuted p x old new result
    → IsExecuted t0 x old new result
executed_there {x = x} (Ok work) of made = record {
  input = made.input;
  none_missing = none_missing_there x of made.none_missing;
  within_cap = λ above. made.within_cap (subst (λ (s : Sizes). IsAboveCap s x work.reads) of.scale above);
  read = made.read;
  explains = explains_there x work.reads work.writes work.reply of made.explains;
  limits = made.limits;
  grown = made.grown;
  refused = made.refused;
}
executed_there {x = x} {old = old} {new = new} (Err refusal) of made = record {
  input = made.input;
  none_missing = made.none_missing;
  within_cap = made.within_cap;
  read = made.read;
  explains = made.explains;
  limits = made.limits;
  grown = made.grown;
  refused = refusal_there x old new refusal of made.refused;
}

-- what was executed over these cells, by what its clauses say, is this reader's work in a run of the same cells, whose
-- first tables the same population has become
pub work_of : {here p t0 : Database} → here ≡ p → IsOf p t0 → {own cells : CellsView} → own ≡ cells → (x : Input) → IsInput t0.scale x → (old new : ReaderView)
    → (work : Work) → work.input ≡ x → Explains here x work.reads work.writes work.reply
    → IsWithinLimits own work.reads work.writes → AreRead old new work.reads → IsWorkOf t0 cells new work
work_of {here} {p} {t0} same of {own} {cells} same_cells x input old new work is explained limits read =
    let within = subst (λ (ids : CellsView). IsWithinLimits ids work.reads work.writes) same_cells limits in
    record {
      input = subst (IsInput t0.scale) (sym is) input;
      explained = explains_there work.input work.reads work.writes work.reply of (subst (λ (q : Database × Input). Explains q.0 q.1 work.reads work.writes work.reply) (λ i. (same i, sym is i)) explained);
      limits = within;
      read = read_by cells old new work.reads within.reads_cells read;
    }
