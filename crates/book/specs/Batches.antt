-- What a take gives a logger, and what it leaves.
use Rattle.std.specs.Prelude.{◌≡◌, ℕ, ◌+◌, ◌%◌, ◌<◌, ◌≤◌, List, length, take, drop, slice_index, slice_set}
use Rattle.std.specs.List.{All}
use Rattle.tables.specs.Sizes.{Sizes}
use Rattle.tidword.specs.TidWord.{epoch_of}
use Rattle.board.specs.Words.{last_epoch}
use Rattle.book.specs.Book.{BookView}
use Rattle.book.specs.Loggable.{IsLoggable, NumbersRise}
use Rattle.book.specs.Stamps.{AreStamped}
use Rattle.book.specs.Streams.{stream, last_number}
use Rattle.tables.specs.declared.limits.TheConstants.{MAX_LOGGERS, MAX_TERMINALS}
use Rattle.book.specs.declared.entry.Entry.{Entry}

-- what contracts see of a batch: whose it is and of what run, what the stream had before it, its entries, and its mark
pub record BatchView : Type 0 where
  pub logger : ℕ
  pub loggers : ℕ
  pub scale : Sizes
  pub seed : ℕ
  pub first : ℕ
  pub number_before : ℕ
  pub mark_before : ℕ
  pub entries : List Entry
  pub mark : ℕ

-- what its type keeps of a batch: what a log file asks of a body that is to follow one
pub record IsBatch (b : BatchView) : Type 0 where
  pub logger : b.logger < b.loggers
  pub few : b.loggers ≤ MAX_LOGGERS
  -- commit numbers rise from above those before, up to the commit cap
  pub rise : NumbersRise b.number_before b.entries
  pub cap : All (λ e. e.number ≤ b.scale.commits) b.entries
  -- TIDs rise by record and by terminal, and epochs don't fall
  pub stamped : AreStamped b.entries
  -- epochs are above the mark before, and at most the mark + 1
  pub epochs : All (λ e. (b.mark_before < epoch_of e.tid) × (epoch_of e.tid ≤ b.mark + 1)) b.entries
  pub marks_rise : b.mark_before ≤ b.mark
  pub last_mark : b.mark < last_epoch
  -- the terminals are the logger's own
  pub asked : All (λ e. (e.terminal < MAX_TERMINALS) × (e.terminal % b.loggers ≡ b.logger)) b.entries
  pub each : All (IsLoggable b.scale) b.entries

-- the batch of this logger, one of so many, from a book that has a place and a mark of each: what its stream has behind
-- what was taken before, in order, all of it of epochs later than the mark before, and at most the mark + 1
pub record IsBatchOf (loggers logger : ℕ) (book : BookView) (batch : BatchView) : Type 0 where
  pub logger_is : batch.logger ≡ logger
  pub loggers_are : batch.loggers ≡ loggers
  pub places : length book.taken ≡ loggers
  pub marks : length book.marks ≡ loggers
  pub first : batch.first ≡ slice_index book.taken logger
  pub within : batch.first ≤ length (stream loggers logger book.history)
  pub number_before : batch.number_before ≡ last_number 0 (take batch.first (stream loggers logger book.history))
  pub mark_before : batch.mark_before ≡ slice_index book.marks logger
  pub entries : batch.entries ≡ drop batch.first (stream loggers logger book.history)
  pub epochs : All (λ e. (batch.mark_before < epoch_of e.tid) × (epoch_of e.tid ≤ batch.mark + 1)) batch.entries
  pub marks_rise : batch.mark_before ≤ batch.mark

-- the whole stream of this logger is then taken, at the batch's mark; records, history, and the other loggers' places
-- and marks are as before
pub record IsTaken (loggers logger : ℕ) (old : BookView) (batch : BatchView) (new : BookView) : Type 0 where
  pub written : new.written ≡ old.written
  pub history : new.history ≡ old.history
  pub taken : new.taken ≡ slice_set old.taken logger (length (stream loggers logger old.history))
  pub marks : new.marks ≡ slice_set old.marks logger batch.mark
