-- The totals of the committed tables.
use Rattle.std.proofs.Common.{◌≡◌, ℕ, ◌<◌, ◌≤◌, ◌+◌, ◌-◌, List, length, get_or, sym, ap, ◌∙◌, subst, arith}
use Rattle.tables.specs.Database.{Database}
use Rattle.tables.specs.Apply.{after}
use Rattle.tables.specs.Conditions.{IsConsistent}
use Rattle.tables.specs.Records.{record_count}
use Rattle.tables.specs.Rows.{rows}
use Rattle.tables.specs.WellFormed.{IsWellFormed, HasRoom}
use Rattle.tables.specs.declared.limits.TheConstants.{MAX_COMMITS}
use Rattle.tables.specs.declared.input.Input.{Input}
use Rattle.tables.specs.declared.reply.Reply.{Reply}
use Rattle.cells.specs.Records.{CellsView, PenView, ReaderView}
use Rattle.readset.specs.Cells.{AreCellsOf}
use Rattle.readset.proofs.CellsOf.{count_of}
use Rattle.cells.specs.Versions.{newest, value_in}
use Rattle.encoding.proofs.Positions.{first_value}
use Rattle.tables_laws.proofs.Kept.{after-scale, after-IsWellFormed}
use Rattle.readset.specs.Writes.{WriteSetView, AreWrittenOfKind}
use Rattle.readset.specs.declared.work.Work.{Work}
use Rattle.totals_bounds.specs.Bounds.{AreBounds}
use Rattle.totals_bounds.specs.Written.{HasOrdersWithin}
use Rattle.totals.specs.Totals.{TotalsView, AreSums, AreTotals}
use Rattle.totals.specs.Written.{AreWrites}
use Rattle.totals.specs.Counts.{AreHeld, AreRecords, MayFollow}
use Rattle.book.specs.Book.{IsSound, IsWorkOf, AreInRecordOrder, AreLatest}
use Rattle.book.specs.History.{CommitsAt}
use Rattle.book.specs.Parts.{AreUnwritten}
use Rattle.book.specs.Ready.{IsReady}
use Rattle.book.specs.declared.parts.Records.{Records}
use Rattle.book.specs.declared.entry.Entry.{Entry}
use Rattle.book.proofs.Held.{value_held}
use Rattle.book.proofs.Sound.{done_there}

-- what the newest versions of a sound book hold
pub held_there : {past : ℕ} {t0 : Database} {pen : PenView} {history : List Entry} {t : Database} → IsSound past t0 pen history t → t.scale ≡ t0.scale
    → AreHeld pen t
held_there sound scale n below = value_held sound n (subst (λ s. n < record_count s) scale below)

pub records_there : {past : ℕ} {t0 : Database} {pen : PenView} {history : List Entry} {t : Database} → IsSound past t0 pen history t → t.scale ≡ t0.scale
    → AreCellsOf t0.scale pen.cells → AreRecords pen t
records_there {pen = pen} sound scale count = record {
  count = subst (λ s. AreCellsOf s pen.cells) (sym scale) count;
  held = held_there sound scale;
  well_formed = sound.well_formed;
  consistent = sound.consistent;
}

-- those of tables that a run begins with
pub first_records : (t0 : Database) (made : Records) (terminals : ℕ) → AreUnwritten t0 terminals made → IsWellFormed t0 → IsConsistent t0 → AreRecords made.pen t0
first_records t0 made terminals are well_formed consistent = record {
  count = subst (AreCellsOf t0.scale) (sym are.cells) are.count;
  held = λ n below. ap (λ (l : List (List ℕ)). value_in (newest l)) (are.versions n below) ∙ first_value (rows t0 n);
  well_formed = well_formed;
  consistent = consistent;
}

-- a work's writes
pub writes_there : (t0 t : Database) (cells : CellsView) (reader : ReaderView) (work : Work) → IsWorkOf t0 cells reader work → AreCellsOf t0.scale cells
    → t.scale ≡ t0.scale → AreInRecordOrder work.reads work.writes → AreWrites t.scale work.writes
writes_there t0 t cells reader work is_work count scale ordered = record {
  ascend = ordered.writes_ascend;
  found = ordered.writes_found;
  below = λ i d inside. subst (λ m. (get_or work.writes.values i d).0 < m) (count_of t0.scale cells count ∙ ap record_count (sym scale))
      (is_work.limits.writes_cells _ _ (ordered.writes_found i d inside));
}

-- totals that have followed a commit's writes, and then its stores
pub totals_after : (t : Database) (x : Input) (reply : Reply) (v v' : TotalsView) (pen : PenView) (writes : WriteSetView) → MayFollow t x reply v pen writes
    → v'.sums.scale ≡ v.sums.scale → v'.bounds.scale ≡ v.bounds.scale → AreSums (after t x).scale (after t x) v'.sums
    → AreBounds (after t x).scale (after t x) v'.bounds → AreTotals (after t x) v'
totals_after t x reply v v' pen writes may sums_scale bounds_scale sums bounds = record {
  sums_scale = sums_scale ∙ may.totals.sums_scale ∙ sym (after-scale t x);
  bounds_scale = bounds_scale ∙ may.totals.bounds_scale ∙ sym (after-scale t x);
  sums = sums;
  bounds = bounds;
}

pub within : (t : Database) → IsWellFormed t → HasOrdersWithin t
within t wf = record { orders = wf.orders; new_orders = wf.new_orders }

-- the totals of the committed tables may follow a work that commits
module _ {past : ℕ} {t0 : Database} {run_cells : CellsView} {epoch : ℕ} {written : PenView} {history : List Entry} {t : Database}
    (sound : IsSound past t0 written history t) (ready : IsReady past t0 run_cells epoch written history t) where
  rest : (n cap : ℕ) → n < cap → cap ≤ MAX_COMMITS → MAX_COMMITS - n ≡ MAX_COMMITS - (n + 1) + 1
  rest n cap h few = omega (arith, h, few)

  pub may_follow : {v : TotalsView} → AreTotals t v → {reader : ReaderView} {work : Work} → IsWorkOf t0 run_cells reader work → AreLatest written.all work.reads → AreInRecordOrder work.reads work.writes
      → past + length history < t0.scale.commits → MayFollow t work.input work.reply v written work.writes
  may_follow totals {reader = reader} {work = work} is_work latest ordered below =
      let done : CommitsAt t work.input work.writes work.reply = subst (λ s. CommitsAt s work.input work.writes work.reply) sound.legal.end
      (done_there sound ready is_work latest) in
      let room = subst (λ n. HasRoom n t) (rest (past + length history) t0.scale.commits below ready.few) ready.room in
      record {
        totals = totals;
        records = records_there sound ready.of_population.scale (subst (AreCellsOf t0.scale) (sym ready.cells) ready.count);
        input = done.input;
        commit = done.commit;
        ordered = writes_there t0 t run_cells reader work is_work ready.count ready.of_population.scale ordered;
        kinds = subst (λ (cells : CellsView). AreWrittenOfKind cells work.writes) (sym ready.cells) is_work.limits.writes_kinds;
        leaves = after-IsWellFormed t work.input (MAX_COMMITS - (past + length history + 1)) done.input done.commit.numbered sound.well_formed sound.consistent
            room;
      }
