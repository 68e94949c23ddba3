-- The world over many lives: a database, its log files, which outlive each process, and the process, if there is one.
use Rattle.std.specs.Prelude.{ℕ, List, [], ◌++◌}
use Rattle.tables.specs.Database.{Database}
use Rattle.log_header.specs.Header.{HeaderView, header_of_version}
use Rattle.log_text.specs.Bodies.{BodyView}
use Rattle.book.specs.declared.entry.Entry.{Entry}
use Rattle.logfile.specs.Standing.{LogFileView}
use Rattle.recover_crashes.specs.World.{Life, DiskView, Stage, World, opening}

-- what stays in all lives: the version of the log files, the tables that the database began with, the number that
-- seeded them, and how many loggers
pub record Origin : Type 0 where
  pub version : ℕ
  pub first : Database
  pub seed : ℕ
  pub loggers : ℕ

abbrev pub origin_of : Life → Origin
origin_of life = record {
  version = life.version;
  first = life.first;
  seed = life.seed;
  loggers = life.plan.loggers;
}

-- the header of a logger's file
abbrev pub header_at : Origin → ℕ → HeaderView
header_at o logger = header_of_version o.version logger o.loggers o.first.scale o.seed

-- how far a restart is with a file's void body: it waits; it is under way, at this stage; or it is in the file
pub data Declaring : Type 0 where
  Waits : Declaring
  Declares : (stage : Stage) → Declaring
  Declared : Declaring

-- there is no process, and disks are as the last one left them, whose D was this. Or one restarts: it has read these
-- bodies, their durable epoch and an epoch above which they have nothing, and declares the epochs between them void. Or
-- a life runs: what committed before it, and whose replies were released before it, and the world within
pub data Lives : Type 0 where
  Down : (disks : ℕ → DiskView) (durable : ℕ) (history released : List Entry) → Lives
  Restarting : (old : ℕ → List BodyView) (durable top : ℕ) (files : ℕ → LogFileView DiskView) (steps : ℕ → Declaring)
      (history released : List Entry) → Lives
  Running : (life : Life) (past earlier : List Entry) (now : World) → Lives

-- a database begins with a first life, on log files that were just made
abbrev pub first_world : Life → (ℕ → LogFileView DiskView) → Lives
first_world life files = Running life [] [] (opening life.plan files)

-- what has committed over all lives, in order: what no life has given up
abbrev pub joined_history : Lives → List Entry
joined_history (Down disks durable history released) = history
joined_history (Restarting old durable top files steps history released) = history
joined_history (Running life past earlier now) = past ++ now.history

-- the entries whose replies were released, newest first
abbrev pub released_by : Lives → List Entry
released_by (Down disks durable history released) = released
released_by (Restarting old durable top files steps history released) = released
released_by (Running life past earlier now) = now.released ++ earlier

-- D; where no process has one, the last one that was known
abbrev pub durable_at : Lives → ℕ
durable_at (Down disks durable history released) = durable
durable_at (Restarting old durable top files steps history released) = durable
durable_at (Running life past earlier now) = now.durable

-- a logger's disk
abbrev pub disk_at : Lives → ℕ → DiskView
disk_at (Down disks durable history released) l = disks l
disk_at (Restarting old durable top files steps history released) l = (files l).disk
disk_at (Running life past earlier now) l = (now.logger l).file.disk

-- a life runs
abbrev pub IsRunning : Lives → Type 0
IsRunning (Down disks durable history released) = ⊥
IsRunning (Restarting old durable top files steps history released) = ⊥
IsRunning (Running life past earlier now) = Unit {0}
