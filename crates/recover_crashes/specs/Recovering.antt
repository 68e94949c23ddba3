-- What a crash leaves, and what recovery finds there.
use Rattle.std.specs.Prelude.{◌≡◌, ℕ, zero, suc, ◌<◌, ◌≤◌, Bool, false, ◌||◌, not, List, ◌++◌, length, filter, map}
use Rattle.std.specs.List.{All, Contains}
use Rattle.tables.specs.Sizes.{Sizes}
use Rattle.tables.specs.Database.{Database}
use Rattle.tables.specs.declared.limits.TheConstants.{MAX_TERMINALS}
use Rattle.tidword.specs.TidWord.{epoch_of}
use Rattle.board.specs.Words.{last_epoch}
use Rattle.log_disk.specs.Crashes.{MayLeave}
use Rattle.log_text.specs.Bodies.{BodyView}
use Rattle.log_text.specs.File.{IsFile}
use Rattle.book.specs.History.{Replays, replay}
use Rattle.book.specs.Loggable.{IsLoggable}
use Rattle.book.specs.Stamps.{AreStamped}
use Rattle.book.specs.Streams.{stream}
use Rattle.book.specs.declared.entry.Entry.{Entry}
use Rattle.log_entries.specs.Logged.{logged_entry}
use Rattle.recover_found.specs.Found.{last_mark, entries_of, void_in, up_to, counted}
use Rattle.recover_crashes.specs.World.{Life, World, header_of}

-- a crash leaves these strings of bytes, by the loggers' numbers: each disk any string that it may leave now
abbrev pub Crashes : Life → World → (ℕ → List ℕ) → Type 0
Crashes life w strings = (l : ℕ) → l < life.plan.loggers → MayLeave (w.logger l).file.disk.story (strings l)

-- some number below this one passes
abbrev pub any_below : ℕ → (ℕ → Bool) → Bool
any_below zero passes = false
any_below (suc n) passes = passes zero || any_below n (λ l. passes (suc l))

-- an epoch is void where any of the files declares it so
abbrev pub is_void : ℕ → (ℕ → List BodyView) → ℕ → Bool
is_void loggers files epoch = any_below loggers (λ l. void_in (files l) epoch)

-- which epochs count in files, where this is the durable epoch: those up to it, but for the void ones
abbrev pub counts_in : ℕ → (ℕ → List BodyView) → ℕ → ℕ → Bool
counts_in loggers files durable = up_to durable (is_void loggers files)

-- the entries of the history that count, in order
abbrev pub cut : (ℕ → Bool) → List Entry → List Entry
cut counts history = filter (λ e. counts (epoch_of e.tid)) history

-- a file holds a stream: its entries of epochs that aren't void are a beginning of it, with the same numbers, TIDs,
-- terminals and writes, and what isn't in the file is of later epochs than its last mark
pub record HoldsStream (s : Sizes) (void : ℕ → Bool) (bodies : List BodyView) (entries : List Entry) : Type 0 where
  pub front : List Entry
  pub behind : List Entry
  pub beginning : entries ≡ front ++ behind
  pub same : filter (λ e. not (void (epoch_of e.tid))) (entries_of bodies) ≡ map (logged_entry s) front
  pub later : All (λ e. last_mark 0 bodies < epoch_of e.tid) behind

-- files hold a history: each holds its logger's stream, and no entry of the history is of a void epoch
pub record HoldTheHistory (s : Sizes) (loggers : ℕ) (files : ℕ → List BodyView) (history : List Entry) : Type 0 where
  pub each : (l : ℕ) → l < loggers → HoldsStream s (is_void loggers files) (files l) (stream loggers l history)
  pub alive : All (λ e. is_void loggers files (epoch_of e.tid) ≡ false) history

-- the durable epoch that files tell: the least of their last marks
pub record IsDurable (loggers : ℕ) (files : ℕ → List BodyView) (durable : ℕ) : Type 0 where
  pub among : (l : ℕ) × (l < loggers) × (last_mark 0 (files l) ≡ durable)
  pub least : (l : ℕ) → l < loggers → durable ≤ last_mark 0 (files l)

-- an entry may be written to a log file of this scale
pub record IsFitForLogs (s : Sizes) (e : Entry) : Type 0 where
  pub cap : e.number ≤ s.commits
  pub asked : e.terminal < MAX_TERMINALS
  pub loggable : IsLoggable s e

-- what files tell of a history of these first tables, where this is their durable epoch. What counts of it is a
-- beginning; each file has its logger's share of that, entry for entry, and no other entry that counts; and each entry
-- whose reply was released is in it. The whole history is in replay from number 1, stamped, and fit for log files
pub record Tell (t0 : Database) (loggers : ℕ) (files : ℕ → List BodyView) (durable : ℕ) (history released : List Entry)
    : Type 0 where
  pub is_durable : IsDurable loggers files durable
  pub rest : List Entry
  pub beginning : history ≡ cut (counts_in loggers files durable) history ++ rest
  pub held : (l : ℕ) → l < loggers → counted (counts_in loggers files durable) (files l)
      ≡ map (logged_entry t0.scale) (stream loggers l (cut (counts_in loggers files durable) history))
  pub told : All (Contains (cut (counts_in loggers files durable) history)) released
  pub replays : Replays 1 t0 history
  pub stamped : AreStamped history
  pub fit : All (IsFitForLogs t0.scale) history

-- what a life stands on: files of these bodies, and what they tell of a past of these first tables. The board's base is
-- the last mark of each, no entry in them is of a later epoch, nothing later is void, and the whole past counts. The
-- tables that the life begins with are its replay
pub record IsBase (t0 : Database) (life : Life) (old : ℕ → List BodyView) (past released : List Entry) : Type 0 where
  pub tell : Tell t0 life.plan.loggers old life.plan.base past released
  pub marks : (l : ℕ) → l < life.plan.loggers → last_mark 0 (old l) ≡ life.plan.base
  pub within : (l : ℕ) → l < life.plan.loggers → All (λ e. epoch_of e.tid ≤ life.plan.base) (entries_of (old l))
  pub alive : (epoch : ℕ) → life.plan.base < epoch → is_void life.plan.loggers old epoch ≡ false
  pub whole : cut (counts_in life.plan.loggers old life.plan.base) past ≡ past
  pub first : life.first ≡ replay t0 past
  pub count : life.past ≡ length past
  pub room : life.plan.base < last_epoch

-- what stands on the disks after a crash, of a history from these first tables. Each string is a log file, the files
-- hold the history, and the durable epoch that they tell is no less than the board's D
pub record Recovers (t0 : Database) (life : Life) (history released : List Entry) (durable : ℕ)
    (strings : ℕ → List ℕ) : Type 0 where
  pub left : ℕ → List BodyView
  pub epoch : ℕ
  pub files : (l : ℕ) → l < life.plan.loggers → IsFile (strings l) (header_of life l) (left l)
  pub hold : HoldTheHistory t0.scale life.plan.loggers left history
  pub no_less : durable ≤ epoch
  pub tell : Tell t0 life.plan.loggers left epoch history released
