-- Files that were opened again are what a restart reads in the world of many lives.
use Rattle.std.proofs.Common.{◌≡◌, ℕ, ◌<◌, List, ◌∷◌, length, get_or, refl, sym, subst, arith}
use Rattle.board.specs.Words.{last_epoch}
use Rattle.log_disk.specs.Calls.{Synced}
use Rattle.log_header.specs.Header.{header_of_version}
use Rattle.log_header.specs.declared.header.TheConstants.{VERSION}
use Rattle.log_text.specs.Bodies.{BodyView}
use Rattle.logfile.specs.Standing.{LogFileView}
use Rattle.recover_crashes.specs.World.{DiskView}
use Rattle.recover_crashes.specs.Recovering.{IsDurable}
use Rattle.recover_lives.specs.World.{Origin, header_at}
use Rattle.recover_lives.specs.Events.{IsTop, IsSyncedDisk, FilesAreRead}
use Rattle.recover_opening.specs.Opening.{IsOpenedOn, AreOpened}
use Rattle.recover_opening.specs.Tops.{bodies_at}

-- a disk after one sync more
abbrev pub synced_disk : DiskView → DiskView
synced_disk disk = record { seen = disk.seen; story = Synced disk.seen ∷ disk.story }

-- the disks of loggers after both syncs; and files, by the loggers' numbers
abbrev pub synced_twice : List DiskView → DiskView → ℕ → DiskView
synced_twice disks none l = synced_disk (synced_disk (get_or disks l none))

-- of a database whose log files are of today's version
module _ (o : Origin) (today : o.version ≡ VERSION) {disks : List DiskView} {files : List (LogFileView DiskView)} {bodies : List (List BodyView)}
    (count : length disks ≡ o.loggers) (opened : AreOpened o.first.scale o.seed disks files bodies) (none : DiskView)
    (no_file : LogFileView DiskView) where
  at : (l : ℕ) → l < o.loggers → IsOpenedOn (header_at o l) (bodies_at bodies l) (get_or disks l none) (get_or files l no_file)
  at l less =
      subst (λ (v : ℕ). IsOpenedOn (header_of_version v l o.loggers o.first.scale o.seed) (bodies_at bodies l) (get_or disks l none) (get_or files l no_file))
      (sym today)
      (subst (λ (n : ℕ). IsOpenedOn (header_of_version VERSION l n o.first.scale o.seed) (bodies_at bodies l) (get_or disks l none) (get_or files l no_file))
      count
      (opened.each l (omega (arith, less, count)) none no_file))

  -- each disk was synced twice
  pub first_sync : (l : ℕ) → l < o.loggers → IsSyncedDisk (get_or disks l none) (synced_disk (get_or disks l none))
  first_sync l less = record { gives = (at l less).gives; seen = refl; story = refl }

  pub second_sync : (l : ℕ) → l < o.loggers → IsSyncedDisk (synced_disk (get_or disks l none)) (synced_twice disks none l)
  second_sync l less = record { gives = refl; seen = refl; story = refl }

  pub files_are_read : (durable top : ℕ) → IsDurable o.loggers (bodies_at bodies) durable → IsTop o.loggers (bodies_at bodies) top → top < last_epoch
      → FilesAreRead o (synced_twice disks none) (bodies_at bodies) durable top (λ l. get_or files l no_file)
  files_are_read durable top is_durable is_top room = record {
    opened = λ l less. (at l less).opened;
    disk = λ l less. λ i. record { seen = (at l less).seen i; story = (at l less).story i };
    gives = λ l less. refl;
    short = λ l less. (at l less).short;
    is_durable = is_durable;
    is_top = is_top;
    room = room;
  }
