-- What each logger is to take: its stream, and the rest of it that wasn't taken yet (Silo, section 4.10).
use Rattle.std.specs.Prelude.{◌≡◌, ℕ, ◌%◌, ◌==◌, ◌<◌, ◌≤◌, List, [], ◌∷◌, length, filter, map, take, drop}
use Rattle.std.specs.Prelude.{slice_index_or}
use Rattle.std.specs.List.{All}
use Rattle.std.specs.Arc.{arc_value}
use Rattle.tidword.specs.TidWord.{epoch_of}
use Rattle.board.specs.declared.rule.Plan.{Plan}
use Rattle.book.specs.declared.entry.Entry.{Entry}
use Rattle.tables.specs.declared.limits.TheConstants.{MAX_LOGGERS}
use Rattle.book.specs.declared.untaken.Untaken.{Untaken}

-- the stream of one of so many loggers: the entries of the terminals that are its own
abbrev pub stream : ℕ → ℕ → List Entry → List Entry
stream loggers logger history = filter (λ e. e.terminal % loggers == logger) history

-- the commit number of the last of these entries, and this one where there are none
abbrev pub last_number : ℕ → List Entry → ℕ
last_number before [] = before
last_number before (e ∷ es) = last_number e.number es

-- a stream with the same entries, of which as much was taken
pub record IsSameUntaken (s t : Untaken) : Type 0 where
  pub taken : t.taken ≡ s.taken
  pub last_taken : t.last_taken ≡ s.last_taken
  pub waiting : t.waiting.items ≡ s.waiting.items
  pub mark : t.mark ≡ s.mark

-- what the book has of a stream of these entries: how many were taken, the number of the last of these, the entries
-- that wait, and the mark of the last take. That is at least the board's base and below the epoch that the book's seat
-- has found, and all entries that wait are of later epochs
pub record IsUntakenOf (base epoch : ℕ) (entries : List Entry) (s : Untaken) : Type 0 where
  pub taken : s.taken ≤ length entries
  pub last_taken : s.last_taken ≡ last_number 0 (take s.taken entries)
  pub waiting : map arc_value s.waiting.items ≡ drop s.taken entries
  pub least : base ≤ s.mark
  pub mark : s.mark < epoch
  pub above : All (λ e. s.mark < epoch_of e.tid) (drop s.taken entries)

-- what the book has of each logger's stream, by the loggers' numbers, on a board of this plan: of one logger or more,
-- which are few
pub record AreStreams (plan : Plan) (epoch : ℕ) (history : List Entry) (streams : List Untaken) : Type 0 where
  pub some : 0 < plan.loggers
  pub few : plan.loggers ≤ MAX_LOGGERS
  pub count : length streams ≡ plan.loggers
  pub each : (l : ℕ) → l < plan.loggers → (d : Untaken)
      → IsUntakenOf plan.base epoch (stream plan.loggers l history) (slice_index_or streams l d)
