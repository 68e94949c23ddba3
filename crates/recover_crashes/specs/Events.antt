-- What may happen in the world, and what it does. Each step is what the contract of the call says that makes it.
use Rattle.std.specs.Prelude.{◌≡◌, ℕ, ◌+◌, ◌<◌, ◌≤◌, ◌==◌, if◌then◌else◌, max, true, Result, Ok, Err, OnOk}
use Rattle.std.specs.Prelude.{List, [], ◌∷◌, ◌++◌, length, drop}
use Rattle.std.specs.List.{Contains}
use Rattle.money.specs.declared.refusal.Refusal.{Refusal}
use Rattle.tidword.specs.TidWord.{epoch_of}
use Rattle.log_disk.specs.Calls.{written, WriteLeft, SyncLeft}
use Rattle.board.specs.Words.{last_epoch}
use Rattle.board.specs.Publishing.{IsLeastMark}
use Rattle.log_text.specs.Bodies.{BodyView, body_text}
use Rattle.book.specs.History.{Replays}
use Rattle.book.specs.Stamps.{AreStamped}
use Rattle.book.specs.Streams.{stream, last_number}
use Rattle.book.specs.Batches.{BatchView}
use Rattle.book.specs.Loggable.{IsLoggable}
use Rattle.book.specs.declared.entry.Entry.{Entry}
use Rattle.tables.specs.declared.limits.TheConstants.{MAX_TERMINALS}
use Rattle.log_entries.specs.Following.{IsOfVersion, body_of_batch, behind_batch, Continues}
use Rattle.logfile.specs.Standing.{LogFileView}
use Rattle.recover_crashes.specs.World.{Life, DiskView, Stage, BatchTaken, TextWritten, TextSynced, GateOpened, DeviceFailed}
use Rattle.recover_crashes.specs.World.{Flight, Idle, Flying, Logger, World}

-- of the book, under its lock: a commit; a take of a logger's batch; and any other load of E, as that of a commit that
-- is refused, or of a take whose batch isn't appended. Of the clock: one more E. Of a logger: one write or one sync of
-- its device, with this result, which leaves the disk so; the file's mark as the local mark; one load of a local mark
-- for a publication; and D, raised to the least of the marks loaded. Of a terminal: the release of an entry's reply
pub data Event : Type 0 where
  Commit : (entry : Entry) → Event
  Take : (logger : ℕ) (batch : BatchView) → Event
  LoadEpoch : (epoch : ℕ) → Event
  Advance : Event
  CallDevice : (logger : ℕ) (result : Result (Unit {0}) Refusal) (disk : DiskView) → Event
  Confirm : (logger : ℕ) → Event
  LoadMark : (logger : ℕ) → Event
  RaiseDurable : (logger least : ℕ) → Event
  Release : (entry : Entry) → Event

-- an entry may commit, in an E that is loaded now: with it the history is still legal and stamped, and an entry may be
-- written to a log file, as the book keeps it, and to one of the life's version
pub record MayCommit (life : Life) (w : World) (entry : Entry) : Type 0 where
  pub replays : Replays (life.past + 1) life.first (w.history ++ entry ∷ [])
  pub stamped : AreStamped (w.history ++ entry ∷ [])
  pub cap : entry.number ≤ life.first.scale.commits
  pub asked : entry.terminal < MAX_TERMINALS
  pub loggable : IsLoggable life.first.scale entry
  pub of_version : IsOfVersion life.version life.first.scale entry
  pub later : w.found ≤ epoch_of entry.tid
  pub loaded : epoch_of entry.tid ≤ w.epoch

-- an idle logger may be given this batch, where E is loaded now and the mark is one below it: the batch begins where
-- the file ends, and is the rest of the logger's stream
pub record MayTake (life : Life) (w : World) (logger : ℕ) (batch : BatchView) : Type 0 where
  pub within : logger < life.plan.loggers
  pub idle : (w.logger logger).flight ≡ Idle
  pub continues : Continues (w.logger logger).file.header (w.logger logger).file.count (w.logger logger).file.number
      (w.logger logger).file.last batch
  pub entries : batch.entries ≡ drop batch.first (stream life.plan.loggers logger w.history)
  pub later : w.found ≤ batch.mark + 1
  pub loaded : batch.mark + 1 ≤ w.epoch

-- what a disk is before and after a write of these bytes at a place, and a sync, by its result
pub record IsWrite (at : ℕ) (bytes : List ℕ) (result : Result (Unit {0}) Refusal) (old new : DiskView) : Type 0 where
  pub seen : OnOk result (new.seen ≡ written old.seen at bytes)
  pub story : WriteLeft result at (length bytes) old.story new.story

pub record IsSync (result : Result (Unit {0}) Refusal) (old new : DiskView) : Type 0 where
  pub seen : new.seen ≡ old.seen
  pub story : SyncLeft result old.seen old.story new.story

-- the text that one append writes: its body, and a closed gate behind it
abbrev pub text_of : BodyView → List ℕ
text_of body = body_text body ++ 0 ∷ []

-- the call of the device that comes next: the text is written behind the gate that ends the file's, and synced; then
-- that gate is written as 1, and synced
abbrev pub IsCalled : Stage → BodyView → LogFileView DiskView → Result (Unit {0}) Refusal → DiskView → Type 0
IsCalled BatchTaken body file result disk = IsWrite (file.end + 1) (text_of body) result file.disk disk
IsCalled TextWritten body file result disk = IsSync result file.disk disk
IsCalled TextSynced body file result disk = IsWrite file.end (1 ∷ []) result file.disk disk
IsCalled GateOpened body file result disk = IsSync result file.disk disk
IsCalled DeviceFailed body file result disk = ⊥

abbrev pub MayCall : Flight → LogFileView DiskView → Result (Unit {0}) Refusal → DiskView → Type 0
MayCall Idle file result disk = ⊥
MayCall (Flying stage batch) file result disk = IsCalled stage (body_of_batch batch) file result disk

-- where each event may happen
abbrev pub MayHappen : Life → World → Event → Type 0
MayHappen life w (Commit entry) = MayCommit life w entry
MayHappen life w (Take logger batch) = MayTake life w logger batch
MayHappen life w (LoadEpoch epoch) = (w.found ≤ epoch) × (epoch ≤ w.epoch)
MayHappen life w Advance = w.epoch < last_epoch
MayHappen life w (CallDevice logger result disk) = (logger < life.plan.loggers)
    × MayCall (w.logger logger).flight (w.logger logger).file result disk
MayHappen life w (Confirm logger) = logger < life.plan.loggers
MayHappen life w (LoadMark logger) = (logger < life.plan.loggers)
    × (length (w.logger logger).marks < life.plan.loggers)
MayHappen life w (RaiseDurable logger least) = (logger < life.plan.loggers)
    × (length (w.logger logger).marks ≡ life.plan.loggers) × IsLeastMark least (w.logger logger).marks
MayHappen life w (Release entry) = Contains w.history entry × (epoch_of entry.tid ≤ w.durable)

-- another logger of this number
abbrev pub with_logger : World → ℕ → Logger → World
with_logger w k x = record w { logger = λ l. if l == k then x else w.logger l }

-- a file on what its disk is now; and one that has this batch, and stands behind it
abbrev pub on_disk : LogFileView DiskView → DiskView → LogFileView DiskView
on_disk file disk = record file { disk = disk }

abbrev pub with_batch : LogFileView DiskView → BatchView → LogFileView DiskView
with_batch file batch = record file {
  end = file.end + length (text_of (body_of_batch batch));
  last = behind_batch file.last batch;
  count = file.count + length batch.entries;
  number = last_number file.number batch.entries;
}

-- a logger whose call was done, and one whose call failed
abbrev pub done : Stage → BatchView → LogFileView DiskView → Logger → Logger
done BatchTaken batch file x = record x { file = file; flight = Flying TextWritten batch }
done TextWritten batch file x = record x { file = file; flight = Flying TextSynced batch }
done TextSynced batch file x = record x { file = file; flight = Flying GateOpened batch }
done GateOpened batch file x = record x { file = with_batch file batch; flight = Idle }
done DeviceFailed batch file x = x

abbrev pub undone : BatchView → LogFileView DiskView → Logger → Logger
undone batch file x = record x { file = record file { failed = true }; flight = Flying DeviceFailed batch }

abbrev pub called : Flight → Result (Unit {0}) Refusal → LogFileView DiskView → Logger → Logger
called Idle result file x = x
called (Flying stage batch) (Ok _) file x = done stage batch file x
called (Flying stage batch) (Err _) file x = undone batch file x

-- a logger whose local mark is that of its file, which `kept` gives: of the last batch that was appended to its end
abbrev pub confirmed : Logger → Logger
confirmed x = record x { local = x.file.last.mark }

-- a logger that has loaded this mark for its publication, and one whose publication is over
abbrev pub with_mark : Logger → ℕ → Logger
with_mark x mark = record x { marks = mark ∷ x.marks }

abbrev pub published : Logger → Logger
published x = record x { marks = [] }

-- what each event does; it means something where the event may happen
abbrev pub world_after : World → Event → World
world_after w (Commit entry) = record w { history = w.history ++ entry ∷ []; found = epoch_of entry.tid }
world_after w (Take logger batch) =
    with_logger (record w { found = batch.mark + 1 }) logger
    (record (w.logger logger) { flight = Flying BatchTaken batch })
world_after w (LoadEpoch epoch) = record w { found = epoch }
world_after w Advance = record w { epoch = w.epoch + 1 }
world_after w (CallDevice logger result disk) =
    with_logger w logger
    (called (w.logger logger).flight result (on_disk (w.logger logger).file disk) (w.logger logger))
world_after w (Confirm logger) = with_logger w logger (confirmed (w.logger logger))
world_after w (LoadMark logger) =
    with_logger w logger (with_mark (w.logger logger) (w.logger (length (w.logger logger).marks)).local)
world_after w (RaiseDurable logger least) =
    with_logger (record w { durable = max w.durable least }) logger (published (w.logger logger))
world_after w (Release entry) = record w { released = entry ∷ w.released }

-- a list of events, oldest first, each of which may happen where it does, and the world after them
abbrev pub MayHappenInTurn : Life → World → List Event → Type 0
MayHappenInTurn life w [] = Unit {0}
MayHappenInTurn life w (event ∷ events) = MayHappen life w event × MayHappenInTurn life (world_after w event) events

abbrev pub world_after_all : World → List Event → World
world_after_all w [] = w
world_after_all w (event ∷ events) = world_after_all (world_after w event) events
