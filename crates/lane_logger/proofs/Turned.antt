-- What a logger's type keeps of its file, as that is found open and over a turn.
use Rattle.std.proofs.Common.{◌≡◌, ℕ, ◌+◌, ◌≤◌, true, false, true≢false, List, [], ◌∷◌, ◌++◌, length, drop, Result, Ok, Err, IsErrOf, refl, sym, ap, ◌∙◌, subst, arith}
use Rattle.std.proofs.lemmas.List.{length-drop}
use Rattle.money.specs.declared.refusal.Refusal.{Refusal}
use Rattle.money.specs.declared.refusal.Refusal.TheVariants.{OutOfMemory, Device}
use Rattle.annals.specs.declared.claims.Claim.{Claim}
use Rattle.annals.specs.Claims.{AreOfOne}
use Rattle.annals.specs.Rule.{begun_claim}
use Rattle.log_disk.specs.Calls.{Call}
use Rattle.log_header.specs.Header.{HeaderView}
use Rattle.log_text.specs.Bodies.{BodyView}
use Rattle.log_text.specs.declared.last.Last.{Last}
use Rattle.book.specs.Batches.{BatchView, IsBatch}
use Rattle.book.specs.Dates.{date_of, IsTakenOf}
use Rattle.book.specs.Run.{RunView}
use Rattle.book.specs.Streams.{stream}
use Rattle.book.specs.declared.entry.Entry.{Entry}
use Rattle.log_entries.specs.Following.{Continues}
use Rattle.log_entries.proofs.Following.{all_of_today}
use Rattle.logfile.specs.Appended.{Appends}
use Rattle.logfile.specs.Standing.{LogFileView}
use Rattle.recover_crashes.specs.World.{Life, DiskView, BatchTaken, DeviceFailed, Flight, Idle, Flying, IsOpened, header_of}
use Rattle.recover_crashes.specs.Events.{on_disk, with_batch}
use Rattle.recover_crashes.specs.Lanes.{FitsLane}
use Rattle.recover_crashes.proofs.Lanes.{lane_takes}
use Rattle.recover_crashes.proofs.Opened.{lane_begins}
use Rattle.recover_opening.specs.Opening.{file_on}
use Rattle.lane_logger.specs.Lane.{life_of, IsLaneOf, KeepsLane}
use Rattle.lane_logger.proofs.Called.{lane_at_local, after_fourth, after_failure}
use Rattle.lane_logger.proofs.Agreed.{over}

-- a file as it was found open
pub begins : (run : RunView) (found : ℕ → LogFileView DiskView) (file : LogFileView DiskView) (local base : ℕ) → found file.header.logger ≡ file
    → base ≡ run.board.plan.base → local ≤ file.last.mark → KeepsLane run found file local (begun_claim base)
begins run found file local base same is low = λ old opened mark.
    let life = life_of run in
    let here : IsOpened (header_of life file.header.logger) old file = subst (IsOpened (header_of life file.header.logger) old) same opened in
    let marked : file.last.mark ≡ base = ap (λ (f : LogFileView DiskView). f.last.mark) (sym same) ∙ mark ∙ sym is in
    record {
      landed = [];
      flight = Idle;
      lane = lane_at_local (header_of life file.header.logger) life.past (base + 1) [] old [] file Idle base local low
          (lane_begins (header_of life file.header.logger) life.past base old file here marked);
      idle = λ _. refl;
      marked = λ _. marked;
      whole = λ _. here.count;
    }

module _ {D : Type 0} (IsModelled : Type 0) (seen_of : D → List ℕ) (story_of : D → List Call) (failed_of : D → ℕ) (old new : LogFileView D) (batch : BatchView) where
  -- the file after an append that was done
  landed_file : (result : ℕ) → Appends IsModelled seen_of story_of failed_of batch (Ok result) old new
      → with_batch (on_disk (file_on seen_of story_of old) (record { seen = seen_of new.disk; story = story_of new.disk })) batch ≡ file_on seen_of story_of new
  landed_file result a = λ i. record {
    disk = record { seen = seen_of new.disk; story = story_of new.disk };
    header = sym a.header i;
    end = sym a.end i;
    last = sym a.ok.2 i;
    count = sym a.ok.3 i;
    number = sym a.ok.4 i;
    failed = (a.ok.0 ∙ sym a.ok.1) i;
  }

  -- and after one that the device refused
  failed_file : {T : Type 0} (result : Result T Refusal) → Appends IsModelled seen_of story_of failed_of batch result old new → IsErrOf result Device
      → record (on_disk (file_on seen_of story_of old) (record { seen = seen_of new.disk; story = story_of new.disk })) { failed = true } ≡ file_on seen_of story_of new
  failed_file result a is =
      let d = a.device is in λ i. record {
        disk = record { seen = seen_of new.disk; story = story_of new.disk };
        header = sym a.header i;
        end = sym d.1 i;
        last = sym d.2 i;
        count = sym d.3 i;
        number = sym d.4 i;
        failed = sym d.0 i;
      }

  -- a turn that has gone to the device: then the batch's claim is the pass's
  module _ (run : RunView) (found : ℕ → LogFileView DiskView) (local after : ℕ) (c d : Claim Entry)
      (kept : KeepsLane run found (file_on seen_of story_of old) local c) (usable : old.failed ≡ false) (is : IsBatch batch)
      (continues : Continues old.header old.count old.number old.last batch) (of : IsTakenOf batch d) (one : AreOfOne date_of c d)
      (loggers : batch.loggers ≡ run.board.plan.loggers) (low : after ≤ new.last.mark) (modelled : IsModelled) where
    abbrev life : Life
    life = life_of run

    abbrev file : LogFileView DiskView
    file = file_on seen_of story_of old

    abbrev l : ℕ
    l = old.header.logger

    abbrev Lane : ℕ → List BodyView → List BatchView → LogFileView DiskView → Flight → ℕ → Type 0
    Lane mark bodies landed on flight at = FitsLane (header_of life l) life.past (mark + 1) (stream life.plan.loggers l d.front) bodies landed on flight at

    same_stream : stream batch.loggers batch.logger d.front ≡ stream life.plan.loggers l d.front
    same_stream = λ i. stream (loggers i) (continues.logger i) d.front

    module _ (bodies : List BodyView) (lane : IsLaneOf life bodies file local c) where
      flight : lane.flight ≡ Idle
      flight = lane.idle usable

      rest : batch.entries ≡ drop batch.first (stream life.plan.loggers l d.front)
      rest = of.entries ∙ ap (drop batch.first) same_stream

      within : old.count ≤ length (stream life.plan.loggers l d.front)
      within = let low = of.within in let first = continues.first in let same = ap length same_stream in omega arith

      -- the batch is taken
      taken : Lane batch.mark bodies lane.landed file (Flying BatchTaken batch) local
      taken =
          let idle = subst (λ (f : Flight). FitsLane (header_of life l) life.past (c.mark + 1) (stream life.plan.loggers l c.front) bodies lane.landed file f local)
          flight lane.lane in
          let header : old.header ≡ header_of life l = idle.header in
          let marked = lane.marked usable in
          let up : c.mark ≤ d.mark = (let rise = is.marks_rise in let before = continues.mark_before in let mark = of.mark in omega arith) in
          let there = over (header_of life l) life.past life.plan.loggers l bodies lane.landed file local c d one up (lane.whole usable) within idle in
          lane_takes (header_of life l) life.past (d.mark + 1) (stream life.plan.loggers l d.front) bodies lane.landed file local batch there is
          (all_of_today (header_of life l) batch refl) continues rest

      count_there : old.count + length batch.entries ≡ length (stream life.plan.loggers l d.front)
      count_there =
          let low = within in
          let first = continues.first in
          let entries = ap length rest ∙ length-drop batch.first (stream life.plan.loggers l d.front) in omega arith

    pub turned : (result : Result ℕ Refusal) → Appends IsModelled seen_of story_of failed_of batch result old new → (IsErrOf result OutOfMemory → ⊥)
        → KeepsLane run found (file_on seen_of story_of new) after d
    turned (Ok done) a memory =
        subst (λ (h : HeaderView). (bodies : List BodyView) → IsOpened (header_of life h.logger) bodies (found h.logger)
        → (found h.logger).last.mark ≡ run.board.plan.base → IsLaneOf life bodies (record (file_on seen_of story_of new) { header = h }) after d)
        (sym a.header) (λ bodies opened mark.
        let lane = kept bodies opened mark in
        let t = taken bodies lane in
        let same = landed_file done a in
        let there = subst (λ (f : LogFileView DiskView). Lane batch.mark bodies (lane.landed ++ batch ∷ []) f Idle local) same
        (after_fourth (header_of life l) life.past (batch.mark + 1) (stream life.plan.loggers l d.front) bodies lane.landed file batch local t
        ℕ done (seen_of new.disk) (story_of new.disk) (a.calls modelled)) in
        record {
          landed = lane.landed ++ batch ∷ [];
          flight = Idle;
          lane = subst (λ (f : LogFileView DiskView). Lane d.mark bodies (lane.landed ++ batch ∷ []) f Idle after)
              (λ i. record (file_on seen_of story_of new) { header = a.header i })
              (subst (λ m. Lane m bodies (lane.landed ++ batch ∷ []) (file_on seen_of story_of new) Idle after) of.mark
              (lane_at_local (header_of life l) life.past (batch.mark + 1) (stream life.plan.loggers l d.front) bodies (lane.landed ++ batch ∷ [])
              (file_on seen_of story_of new) Idle local after low there));
          idle = λ _. refl;
          marked = λ _. ap (λ (x : Last). x.mark) a.ok.2 ∙ of.mark;
          whole = λ _. a.ok.3 ∙ count_there bodies lane;
        })
    turned (Err refusal) a memory =
        let device : refusal ≡ Device = a.others (λ e. memory (ap Err e)) in
        subst (λ (h : HeaderView). (bodies : List BodyView) → IsOpened (header_of life h.logger) bodies (found h.logger)
        → (found h.logger).last.mark ≡ run.board.plan.base → IsLaneOf life bodies (record (file_on seen_of story_of new) { header = h }) after d)
        (sym a.header) (λ bodies opened mark.
        let lane = kept bodies opened mark in
        let t = taken bodies lane in
        let same = failed_file (Err refusal) a (ap Err device) in
        let failed = (a.device (ap Err device)).0 in
        let there = subst (λ (f : LogFileView DiskView). Lane batch.mark bodies lane.landed f (Flying DeviceFailed batch) local) same
        (after_failure (header_of life l) life.past (batch.mark + 1) (stream life.plan.loggers l d.front) bodies lane.landed file batch local t
        ℕ refusal (seen_of new.disk) (story_of new.disk) (a.calls modelled)) in
        record {
          landed = lane.landed;
          flight = Flying DeviceFailed batch;
          lane = subst (λ (f : LogFileView DiskView). Lane d.mark bodies lane.landed f (Flying DeviceFailed batch) after)
              (λ i. record (file_on seen_of story_of new) { header = a.header i })
              (subst (λ m. Lane m bodies lane.landed (file_on seen_of story_of new) (Flying DeviceFailed batch) after) of.mark
              (lane_at_local (header_of life l) life.past (batch.mark + 1) (stream life.plan.loggers l d.front) bodies lane.landed
              (file_on seen_of story_of new) (Flying DeviceFailed batch) local after low there));
          idle = λ usable. absurd (true≢false (sym failed ∙ usable));
          marked = λ usable. absurd (true≢false (sym failed ∙ usable));
          whole = λ usable. absurd (true≢false (sym failed ∙ usable));
        })
