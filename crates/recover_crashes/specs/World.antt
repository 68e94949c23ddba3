-- The world in which crashes happen: a life of the engine, from the making of its log files on, or from a restart on
-- files that stand already. The book's history, the board's words, and the loggers with their disks.
use Rattle.std.specs.Prelude.{◌≡◌, ℕ, ◌+◌, ◌<◌, ◌≤◌, List, []}
use Rattle.tables.specs.Database.{Database}
use Rattle.board.specs.declared.rule.Plan.{Plan}
use Rattle.log_disk.specs.Calls.{Call}
use Rattle.log_header.specs.Header.{HeaderView, header_of_version}
use Rattle.log_text.specs.Bodies.{BodyView}
use Rattle.book.specs.Batches.{BatchView}
use Rattle.book.specs.declared.entry.Entry.{Entry}
use Rattle.logfile.specs.Standing.{LogFileView, Stands}

-- what doesn't change in a life: the version of its log files, the tables that it began with, which so many past
-- commits have made, the number that seeded their population, and the board's plan
pub record Life : Type 0 where
  pub version : ℕ
  pub first : Database
  pub past : ℕ
  pub seed : ℕ
  pub plan : Plan

-- the header of a logger's file
abbrev pub header_of : Life → ℕ → HeaderView
header_of life logger = header_of_version life.version logger life.plan.loggers life.first.scale life.seed

-- a modelled disk: the bytes that a read gives, and its writes and syncs, newest first
pub record DiskView : Type 0 where
  pub seen : List ℕ
  pub story : List Call

-- how far a logger is with a batch that it has taken: nothing is done; its text is written; that is synced; the gate in
-- front of it is opened; or a call of the device failed, and the file refuses from then on
pub data Stage : Type 0 where
  BatchTaken : Stage
  TextWritten : Stage
  TextSynced : Stage
  GateOpened : Stage
  DeviceFailed : Stage

-- what a logger has under way
pub data Flight : Type 0 where
  Idle : Flight
  Flying : (stage : Stage) (batch : BatchView) → Flight

-- a logger: its open file; what it has under way; its local mark; and the local marks that it has loaded for a
-- publication, newest first
pub record Logger : Type 0 where
  pub file : LogFileView DiskView
  pub flight : Flight
  pub local : ℕ
  pub marks : List ℕ

-- the world: E, and the E that the book's seat has found last; D; what has committed, in order; the entries whose
-- replies were released, newest first; and the loggers, by number
pub record World : Type 0 where
  pub epoch : ℕ
  pub found : ℕ
  pub durable : ℕ
  pub history : List Entry
  pub released : List Entry
  pub logger : ℕ → Logger

-- a life begins without a commit, by the board's plan, with each logger's open file
abbrev pub opening : Plan → (ℕ → LogFileView DiskView) → World
opening plan files = record {
  epoch = plan.base + 1;
  found = plan.base + 1;
  durable = plan.base;
  history = [];
  released = [];
  logger = λ l. record { file = files l; flight = Idle; local = plan.base; marks = [] };
}

-- a log file as it is opened behind these bodies, of a disk that was synced: to it nothing is appended yet
pub record IsOpened (h : HeaderView) (bodies : List BodyView) (file : LogFileView DiskView) : Type 0 where
  pub header : file.header ≡ h
  pub count : file.count ≡ 0
  pub number : file.number ≡ 0
  pub near : file.last.epoch ≤ file.last.mark + 1
  pub stands : Stands h bodies file.end file.last file.disk.seen file.disk.story

-- the first life: nothing is past, there is a logger, and each has its file, which was just made
pub record IsFirst (life : Life) (files : ℕ → LogFileView DiskView) : Type 0 where
  pub base : life.plan.base ≡ 0
  pub past : life.past ≡ 0
  pub some : 0 < life.plan.loggers
  pub created : (l : ℕ) → l < life.plan.loggers → IsOpened (header_of life l) [] (files l)
