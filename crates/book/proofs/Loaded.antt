-- The book once its seat has loaded E, and has counted a commit.
use Rattle.std.proofs.Common.{◌≡◌, ℕ, ◌-◌, ◌^◌, ◌<◌, ◌≤◌, List, [], ◌∷◌, ◌++◌, length, sym, ap, ◌∙◌, subst, arith}
use Rattle.std.proofs.lemmas.Grind.{reverse_onto}
use Rattle.std.proofs.lemmas.List.{length-map, length-reverse, map-append}
use Rattle.std.proofs.lemmas.List.Elements.{All-weaker}
use Rattle.tables.specs.Database.{Database}
use Rattle.tables.specs.declared.limits.TheConstants.{MAX_COMMITS}
use Rattle.tidword.specs.TidWord.{epoch_of}
use Rattle.cells.specs.Versions.{last_tid}
use Rattle.cells.specs.Records.{CellsView, PenView, at}
use Rattle.board.specs.Steps.{known_epoch, counted_epochs}
use Rattle.board.specs.Seats.{BoardView, SeatView, noted}
use Rattle.board.specs.declared.rule.WordStep.TheVariants.{LoadEpoch, CountCommit}
use Rattle.book.specs.Epochs.{HasCounted, found_epoch}
use Rattle.book.specs.Ready.{IsPassed, IsReady, IsTidWithin}
use Rattle.book.specs.Stamps.{last_of}
use Rattle.book.specs.declared.entry.Entry.{Entry}

-- a book that is ready for an epoch is ready for a later one
pub ready_later : (past : ℕ) (t0 : Database) (run_cells : CellsView) (old new : ℕ) (written : PenView) (history : List Entry) (t : Database) → old ≤ new
    → IsReady past t0 run_cells old written history t → IsReady past t0 run_cells new written history t
ready_later past t0 run_cells old new written history t later r = record {
  of_population = r.of_population;
  cells = r.cells;
  count = r.count;
  passed = All-weaker (IsPassed old written history) (IsPassed new written history)
      (λ e p. record { in_epoch = up (epoch_of e.tid) p.in_epoch; records = p.records; terminal = p.terminal }) history r.passed;
  records = λ n h. within (last_tid (at written.all n)) (r.records n h);
  terminals = λ one. within (last_of one history) (r.terminals one);
  free = r.free;
  cap = r.cap;
  few = r.few;
  room = r.room;
}
  where
    up : (n : ℕ) → n ≤ old → n ≤ new
    up n h = omega (arith, h, later)

    within : (tid : ℕ) → IsTidWithin old (length history) tid → IsTidWithin new (length history) tid
    within tid w = record { bits = w.bits; in_epoch = up (epoch_of tid) w.in_epoch; sequence = w.sequence }

-- E as the book's seat, of this board, has just loaded it
pub found_later : (seat : SeatView) {run here : BoardView} {epoch : ℕ} → seat.board ≡ run → here ≡ run → known_epoch here.plan.base seat.steps ≤ epoch
    → found_epoch seat ≤ epoch
found_later seat {epoch = epoch} own same later = subst (λ (b : BoardView). known_epoch b.plan.base seat.steps ≤ epoch) (same ∙ sym own) later

pub ready_loaded : (seat : SeatView) {run here : BoardView} {epoch past : ℕ} {t0 t : Database} {run_cells : CellsView} {written : PenView}
    {history : List Entry} → seat.board ≡ run → here ≡ run → known_epoch here.plan.base seat.steps ≤ epoch
    → IsReady past t0 run_cells (found_epoch seat) written history t → IsReady past t0 run_cells epoch written history t
ready_loaded seat {epoch = epoch} {past = past} {t0 = t0} {t = t} {run_cells = run_cells} {written = written} {history = history} own same later =
    ready_later past t0 run_cells (found_epoch seat) epoch written history t
    (found_later seat own same later)

-- a commit that is counted, with its epoch
pub counts_on : (seat : SeatView) (history : List Entry) (epoch : ℕ) (entry : Entry) → HasCounted seat history → epoch_of entry.tid ≡ epoch
    → HasCounted (noted (noted seat (LoadEpoch epoch)) (CountCommit epoch)) (history ++ entry ∷ [])
counts_on seat history epoch entry has is = reverse_onto (counted_epochs seat.steps) epoch []
    ∙ (λ i. has i ++ sym is i ∷ [])
    ∙ sym (map-append (λ (e : Entry). epoch_of e.tid) history (entry ∷ []))

-- as many are counted as there are, so there is room for one more
pub may_count : (seat : SeatView) (history : List Entry) (cap : ℕ) → HasCounted seat history → length history < cap → cap ≤ MAX_COMMITS
    → length (counted_epochs seat.steps) < 2 ^ 64 - 1
may_count seat history cap has below few = omega (arith, as_many, below, few)
  where
    as_many : length (counted_epochs seat.steps) ≡ length history
    as_many = sym (length-reverse (counted_epochs seat.steps)) ∙ ap length has ∙ length-map history (λ (e : Entry). epoch_of e.tid)
