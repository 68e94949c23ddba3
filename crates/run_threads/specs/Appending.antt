-- What a logger does with the batches that it takes (Silo, section 4.10).
use Rattle.std.specs.Prelude.{◌≡◌, ◌+◌, ◌⊎◌, Bool, true, false, Option, Some, None, MatchOption, length}
use Rattle.book.specs.Batches.{BatchView}
use Rattle.book.specs.Dates.{TakenView}
use Rattle.book.specs.Streams.{last_number}
use Rattle.log_entries.specs.Following.{Continues, behind_batch}
use Rattle.logfile.specs.Standing.{LogFileView}
use Rattle.lane_logger.specs.Lane.{LaneView}

-- what contracts see of a logger at work: the batch that waits, if memory was wanting for it, and whether it has stopped
pub record AppenderView (D : Type 0) : Type 0 where
  pub logger : LaneView D
  pub waiting : Option TakenView
  pub has_stopped : Bool

-- it may take: nothing waits, and it hasn't stopped
pub record IsAppenderIdle {D : Type 0} (a : AppenderView D) : Type 0 where
  pub nothing_waits : a.waiting ≡ None
  pub runs : a.has_stopped ≡ false

-- the file has this batch behind what it had, and its device hasn't failed
pub record HasAppended {D : Type 0} (batch : BatchView) (old new : LogFileView D) : Type 0 where
  pub last : new.last ≡ behind_batch old.last batch
  pub count : new.count ≡ old.count + length batch.entries
  pub number : new.number ≡ last_number old.number batch.entries
  pub runs : new.failed ≡ false

-- the file stands where it stood, and its device has failed, or the batch doesn't begin there
pub record AppendHasFailed {D : Type 0} (batch : BatchView) (old new : LogFileView D) : Type 0 where
  pub last : new.last ≡ old.last
  pub count : new.count ≡ old.count
  pub number : new.number ≡ old.number
  pub cause : (new.failed ≡ true) ⊎ ¬ Continues old.header old.count old.number old.last batch

-- what comes of a batch: it is appended; or it waits, for want of memory, and the logger is as it was; or that has
-- stopped
pub data ComesOf {D : Type 0} (taken : TakenView) (old new : AppenderView D) : Type 0 where
  appended : HasAppended taken.batch old.logger.logger.file new.logger.logger.file → IsAppenderIdle new
      → ComesOf taken old new
  waits : new.logger.logger ≡ old.logger.logger → new.waiting ≡ Some taken → new.has_stopped ≡ false
      → new.logger.logger.file.failed ≡ false → ComesOf taken old new
  stopped : AppendHasFailed taken.batch old.logger.logger.file new.logger.logger.file → new.waiting ≡ None
      → new.has_stopped ≡ true → ComesOf taken old new

-- what waits is tried again
abbrev pub Retries : {D : Type 0} → AppenderView D → AppenderView D → Type 0
Retries old new = MatchOption old.waiting (new ≡ old) (λ taken. ComesOf taken old new)

-- a batch is taken where one may be, and else nothing is done
abbrev pub Takes : {D : Type 0} → AppenderView D → AppenderView D → Type 0
Takes old new = (IsAppenderIdle old × ((taken : TakenView) × ComesOf taken old new)) ⊎ ((¬ IsAppenderIdle old) × (new ≡ old))

-- a turn: what waits is tried again first, and then a batch is taken where one may be
abbrev pub Turns : {D : Type 0} → AppenderView D → AppenderView D → Type 0
Turns {D} old new = (between : AppenderView D) × Retries old between × Takes between new
