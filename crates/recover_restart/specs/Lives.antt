-- A restart as what happens over the lives of a database.
use Rattle.std.specs.Prelude.{◌≡◌, ◌<◌, ℕ, List, length, slice_index_or}
use Rattle.tables.specs.Database.{Database}
use Rattle.book.specs.declared.entry.Entry.{Entry}
use Rattle.log_disk.specs.Crashes.{MayLeave}
use Rattle.log_header.specs.declared.header.TheConstants.{VERSION}
use Rattle.logfile.specs.Standing.{LogFileView}
use Rattle.recover_crashes.specs.World.{Life, DiskView, opening}
use Rattle.recover_lives.specs.Events.{LivesEvent, MayOccurInTurn, lives_after_all}
use Rattle.recover_lives.specs.World.{Origin, Lives, Running}

-- what stays in all lives of a database with so many log files, of today's version
abbrev pub origin_behind : Database → ℕ → ℕ → Origin
origin_behind t0 seed loggers = record { version = VERSION; first = t0; seed = seed; loggers = loggers }

-- the life that goes on in such files with these tables, which so many commits have made, behind this epoch
abbrev pub life_behind : Database → ℕ → ℕ → ℕ → ℕ → Life
life_behind tables commits seed loggers top = record {
  version = VERSION;
  first = tables;
  past = commits;
  seed = seed;
  plan = record { loggers = loggers; base = top };
}

-- the world in which a life begins, on such files: this has committed before it, and these replies were released
abbrev pub world_behind : Life → List Entry → List Entry → (ℕ → LogFileView DiskView) → Lives
world_behind life past earlier files = Running life past earlier (opening life.plan files)

-- of each of some disks a read gives what a crash may leave there
abbrev pub GiveWhatMayBeLeft : List DiskView → Type 0
GiveWhatMayBeLeft disks = (l : ℕ) (disk : DiskView) → l < length disks
    → MayLeave (slice_index_or disks l disk).story (slice_index_or disks l disk).seen

-- a list of events leads from a world to another: each may happen where it does, and the other is the world after all
pub record MayLead (o : Origin) (old new : Lives) : Type 0 where
  pub events : List LivesEvent
  pub may_occur : MayOccurInTurn o old events
  pub ends : lives_after_all o old events ≡ new
