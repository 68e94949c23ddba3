-- A logger's file as a lane of its stream, of what its pass claims of the history.
use Rattle.std.specs.Prelude.{◌≡◌, ℕ, ◌+◌, false, List, length}
use Rattle.annals.specs.declared.claims.Claim.{Claim}
use Rattle.log_header.specs.declared.header.TheConstants.{VERSION}
use Rattle.log_text.specs.Bodies.{BodyView}
use Rattle.book.specs.Batches.{BatchView}
use Rattle.book.specs.Run.{RunView}
use Rattle.book.specs.Streams.{stream}
use Rattle.book.specs.declared.entry.Entry.{Entry}
use Rattle.logfile.specs.Standing.{LogFileView}
use Rattle.logger.specs.Logger.{LoggerView}
use Rattle.recover_crashes.specs.World.{Life, DiskView, Flight, Idle, IsOpened, header_of}
use Rattle.recover_crashes.specs.Lanes.{FitsLane}

-- what contracts see of a logger with its pass
pub record LaneView (D : Type 0) : Type 0 where
  pub logger : LoggerView D
  pub claim : Claim Entry

-- a run as a life in which crashes happen: its log files are of the version that is written today
abbrev pub life_of : RunView → Life
life_of run = record { version = VERSION; first = run.first; past = run.past; seed = run.seed; plan = run.board.plan }

-- a file is a lane, behind these bodies, of the stream of its logger in what is claimed. Until its device fails nothing
-- is under way, and it has the whole stream of that, at its mark
pub record IsLaneOf (life : Life) (old : List BodyView) (file : LogFileView DiskView) (local : ℕ) (claim : Claim Entry)
    : Type 0 where
  pub landed : List BatchView
  pub flight : Flight
  pub lane : FitsLane (header_of life file.header.logger) life.past (claim.mark + 1)
      (stream life.plan.loggers file.header.logger claim.front) old landed file flight local
  pub idle : file.failed ≡ false → flight ≡ Idle
  pub marked : file.failed ≡ false → file.last.mark ≡ claim.mark
  pub whole : file.failed ≡ false → file.count ≡ length (stream life.plan.loggers file.header.logger claim.front)

-- and so behind whatever bodies it was found open as the run began, at the board's base
abbrev pub KeepsLane : RunView → (ℕ → LogFileView DiskView) → LogFileView DiskView → ℕ → Claim Entry → Type 0
KeepsLane run found file local claim = (old : List BodyView)
    → IsOpened (header_of (life_of run) file.header.logger) old (found file.header.logger)
    → (found file.header.logger).last.mark ≡ run.board.plan.base
    → IsLaneOf (life_of run) old file local claim
