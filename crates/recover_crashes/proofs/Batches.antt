-- What an idle logger may be given is a batch, as a log file asks.
use Rattle.std.proofs.Common.{◌≡◌, ℕ, ◌+◌, ◌%◌, ◌<◌, ◌≤◌, ◌==◌, true, List, ◌++◌, slice_index_or, sym, ap, ◌∙◌, subst, arith}
use Rattle.std.specs.List.{All}
use Rattle.std.proofs.lemmas.Bool.{eqb-true}
use Rattle.std.proofs.lemmas.List.Elements.{All-filter, filter_passes}
use Rattle.tables.specs.Sizes.{Sizes}
use Rattle.tidword.specs.TidWord.{epoch_of}
use Rattle.board.specs.Words.{last_epoch}
use Rattle.log_header.specs.Header.{HeaderView}
use Rattle.log_text.specs.Bodies.{BodyView}
use Rattle.book.specs.Batches.{BatchView, IsBatch}
use Rattle.book.specs.History.{Replays}
use Rattle.book.specs.Loggable.{IsLoggable}
use Rattle.book.specs.Stamps.{AreStamped}
use Rattle.book.specs.Streams.{stream}
use Rattle.book.specs.declared.entry.Entry.{Entry}
use Rattle.recover_crashes.specs.World.{Life, Idle, World, header_of}
use Rattle.recover_crashes.specs.Events.{MayTake}
use Rattle.recover_crashes.specs.Recovering.{IsFitForLogs}
use Rattle.recover_crashes.specs.Lanes.{taken_in, FitsLane}
use Rattle.recover_crashes.proofs.Lists.{all_behind}
use Rattle.recover_crashes.proofs.Histories.{stream_rises, stream_stamped}
use Rattle.recover_crashes.proofs.Lanes.{all_that_waits}

module _ (life : Life) (w : World) (k : ℕ) (batch : BatchView) (old : List BodyView) (landed : List BatchView) (local : ℕ)
    (lane : FitsLane (header_of life k) life.past w.found (stream life.plan.loggers k w.history) old landed (w.logger k).file Idle local)
    (may : MayTake life w k batch)
  where
    waits : batch.entries ≡ lane.waiting
    waits = all_that_waits (header_of life k) life.past w.found (stream life.plan.loggers k w.history) old landed (w.logger k).file local batch lane
        may.continues may.entries

    -- what holds of a logger's entries holds of those in the batch
    of_stream : (P : Entry → Type 0) → All P (stream life.plan.loggers k w.history) → All P batch.entries
    of_stream P all = subst (All P) (sym waits) (all_behind P (taken_in landed) lane.waiting (subst (All P) lane.all all))

    pub of_history : (P : Entry → Type 0) → All P w.history → All P batch.entries
    of_history P all = of_stream P (All-filter (λ (e : Entry). e.terminal % life.plan.loggers == k) P w.history all)

    pub is_batch : Replays (life.past + 1) life.first w.history → AreStamped w.history → All (IsFitForLogs life.first.scale) w.history
        → All (λ e. epoch_of e.tid ≤ w.found) w.history → w.epoch ≤ last_epoch → IsBatch batch
    is_batch replays stamped fit epochs ends =
        let header = lane.header in
        let logger : batch.logger ≡ k = may.continues.logger ∙ ap (λ (h : HeaderView). h.logger) header in
        let loggers : batch.loggers ≡ life.plan.loggers = may.continues.loggers ∙ ap (λ (h : HeaderView). h.loggers) header in
        let scale : batch.scale ≡ life.first.scale = may.continues.scale ∙ ap (λ (h : HeaderView). h.scale) header in
        let own = of_stream (λ (e : Entry). (e.terminal % life.plan.loggers == k) ≡ true) (filter_passes (λ (e : Entry). e.terminal % life.plan.loggers == k) w.history) in
        let fits = of_history (IsFitForLogs life.first.scale) fit in
        let found = of_history (λ (e : Entry). epoch_of e.tid ≤ w.found) epochs in
        let above : All (λ (e : Entry). (w.logger k).file.last.mark < epoch_of e.tid) batch.entries
        = subst (All (λ (e : Entry). (w.logger k).file.last.mark < epoch_of e.tid)) (sym waits) lane.above in
        record {
          logger = omega (arith, logger, loggers, may.within);
          few = omega (arith, loggers, lane.disk.file.header.loggers.1);
          rise = stream_rises life.past life.first w.history (λ (e : Entry). e.terminal % life.plan.loggers == k) (taken_in landed) batch.entries
              batch.number_before replays (lane.all ∙ ap (λ (l : List Entry). taken_in landed ++ l) (sym waits))
              (omega (arith, may.continues.number_before, lane.number));
          cap = λ i d lt. subst (λ (s : Sizes). (slice_index_or batch.entries i d).number ≤ s.commits) (sym scale) (fits i d lt).cap;
          stamped = stream_stamped w.history (λ (e : Entry). e.terminal % life.plan.loggers == k) (taken_in landed) batch.entries stamped
              (lane.all ∙ ap (λ (l : List Entry). taken_in landed ++ l) (sym waits));
          epochs = λ i d lt. (omega (arith, may.continues.mark_before, above i d lt), omega (arith, may.later, found i d lt));
          marks_rise = omega (arith, may.continues.mark_before, lane.low, may.later);
          last_mark = omega (arith, may.loaded, ends);
          asked = λ i d lt. ((fits i d lt).asked, ap (λ (n : ℕ). (slice_index_or batch.entries i d).terminal % n) loggers ∙ eqb-true _ k (own i d lt) ∙ sym logger);
          each = λ i d lt. subst (λ (s : Sizes). IsLoggable s (slice_index_or batch.entries i d)) (sym scale) (fits i d lt).loggable;
        }
