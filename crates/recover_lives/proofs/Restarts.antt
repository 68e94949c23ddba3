-- A file while a restart declares epochs void in it, and what a crash leaves of it.
use Rattle.std.proofs.Common.{◌≡◌, ◌⊎◌, inl, inr, ⊎_elim, ℕ, ◌+◌, ◌<◌, ◌≤◌, Some, List, length, Result, Ok, Err, true, refl, sym, ◌∙◌, subst}
use Rattle.money.specs.declared.refusal.Refusal.{Refusal}
use Rattle.log_disk.specs.Crashes.{MayLeave}
use Rattle.log_header.specs.Header.{HeaderView}
use Rattle.log_text.specs.Bodies.{BodyView, marked, body_after}
use Rattle.log_text.specs.File.{IsFile}
use Rattle.log_text.specs.declared.last.Last.{Last}
use Rattle.logfile.specs.Standing.{LogFileView, Stands}
use Rattle.recover_crashes.specs.World.{DiskView, Stage, BatchTaken, TextWritten, TextSynced, GateOpened, DeviceFailed, IsOpened}
use Rattle.recover_crashes.specs.Events.{IsCalled, text_of, on_disk}
use Rattle.recover_crashes.specs.Lanes.{IsFlying}
use Rattle.recover_crashes.proofs.Disks.{takes, text_is_written, text_is_synced, gate_is_opened, body_is_there, has_failed, with_or_without}
use Rattle.recover_lives.specs.World.{Declaring, Waits, Declares, Declared}
use Rattle.recover_lives.specs.Events.{void_body, MayDeclare, with_void, step_after, file_after}
use Rattle.recover_lives.proofs.Voids.{with_body}

-- what stands on the disk, by how far the restart is with the file
abbrev pub FitsVoid : HeaderView → List BodyView → ℕ → ℕ → Declaring → LogFileView DiskView → Type 0
FitsVoid h old durable top Waits file = Stands h old file.end file.last file.disk.seen file.disk.story
FitsVoid h old durable top (Declares stage) file = IsFlying h old stage (void_body durable top) file
    × ((durable < top) × (body_after h file.last (void_body durable top) ≡ Some (marked top file.last)))
FitsVoid h old durable top Declared file = Stands h (with_body durable top old) file.end file.last file.disk.seen file.disk.story × (durable < top)

pub record FitsRestart (h : HeaderView) (old : List BodyView) (durable top : ℕ) (file : LogFileView DiskView) (step : Declaring) : Type 0 where
  pub header : file.header ≡ h
  pub count : file.count ≡ 0
  pub number : file.number ≡ 0
  pub near : file.last.epoch ≤ file.last.mark + 1
  pub low : file.last.epoch ≤ top + 1
  pub disk : FitsVoid h old durable top step file

module _ (h : HeaderView) (old : List BodyView) (durable top : ℕ) where
  abbrev body : BodyView
  body = void_body durable top

  pub waits : (file : LogFileView DiskView) → IsOpened h old file → file.last.epoch ≤ top + 1 → FitsRestart h old durable top file Waits
  waits file is low = record { header = is.header; count = is.count; number = is.number; near = is.near; low = low; disk = is.stands }

  -- the restart begins with the file
  pub begins_void : (file : LogFileView DiskView) → FitsRestart h old durable top file Waits → durable < top
      → body_after h file.last body ≡ Some (marked top file.last) → FitsRestart h old durable top file (Declares BatchTaken)
  begins_void file fits more follows = record {
    header = fits.header;
    count = fits.count;
    number = fits.number;
    near = fits.near;
    low = fits.low;
    disk = (takes h old body file fits.disk, (more, follows));
  }

  module _ (file : LogFileView DiskView) (disk : DiskView) where
    -- another disk, and the body at this stage
    moves : (stage next : Stage) (now : LogFileView DiskView) → FitsRestart h old durable top file (Declares stage) → now.header ≡ file.header
        → now.count ≡ file.count → now.number ≡ file.number → now.last ≡ file.last → IsFlying h old next body now
        → FitsRestart h old durable top now (Declares next)
    moves stage next now fits header count number last flies = record {
      header = header ∙ fits.header;
      count = count ∙ fits.count;
      number = number ∙ fits.number;
      near = subst (λ (l : Last). l.epoch ≤ l.mark + 1) (sym last) fits.near;
      low = subst (λ (l : Last). l.epoch ≤ top + 1) (sym last) fits.low;
      disk = (flies, (fits.disk.1.0, subst (λ (l : Last). body_after h l body ≡ Some (marked top l)) (sym last) fits.disk.1.1));
    }

    -- the body is in the file
    lands : FitsRestart h old durable top file (Declares GateOpened)
        → Stands h (with_body durable top old) (file.end + length (text_of body)) (marked top file.last) disk.seen disk.story
        → FitsRestart h old durable top (with_void (on_disk file disk) body top) Declared
    lands fits there = record {
      header = fits.header;
      count = fits.count;
      number = fits.number;
      near = fits.low;
      low = fits.low;
      disk = (there, fits.disk.1.0);
    }

    -- a call fails
    fails : (stage : Stage) (refusal : Refusal) → FitsRestart h old durable top file (Declares stage) → IsCalled stage body file (Err refusal) disk
        → FitsRestart h old durable top (record (on_disk file disk) { failed = true }) (Declares DeviceFailed)
    fails stage refusal fits call =
        moves stage DeviceFailed (record (on_disk file disk) { failed = true }) fits refl refl refl refl
        (has_failed h old body file disk stage refusal fits.disk.0 call)

    -- one call of the device
    pub void_called : (step : Declaring) (result : Result (Unit {0}) Refusal) → FitsRestart h old durable top file step → MayDeclare step body file result disk
        → FitsRestart h old durable top (file_after step result body top (on_disk file disk)) (step_after step result)
    void_called Waits result fits call = absurd call
    void_called Declared result fits call = absurd call
    void_called (Declares BatchTaken) (Ok u) fits call =
        moves BatchTaken TextWritten (on_disk file disk) fits refl refl refl refl (text_is_written h old body file disk u fits.disk.0 call)
    void_called (Declares TextWritten) (Ok u) fits call =
        moves TextWritten TextSynced (on_disk file disk) fits refl refl refl refl (text_is_synced h old body file disk u fits.disk.0 call)
    void_called (Declares TextSynced) (Ok u) fits call =
        moves TextSynced GateOpened (on_disk file disk) fits refl refl refl refl (gate_is_opened h old body file disk u fits.disk.0 call)
    void_called (Declares GateOpened) (Ok u) fits call =
        lands fits (body_is_there h old body file disk u (marked top file.last) fits.disk.0 call fits.disk.1.1)
    void_called (Declares DeviceFailed) (Ok u) fits call = absurd call
    void_called (Declares BatchTaken) (Err refusal) fits call = fails BatchTaken refusal fits call
    void_called (Declares TextWritten) (Err refusal) fits call = fails TextWritten refusal fits call
    void_called (Declares TextSynced) (Err refusal) fits call = fails TextSynced refusal fits call
    void_called (Declares GateOpened) (Err refusal) fits call = fails GateOpened refusal fits call
    void_called (Declares DeviceFailed) (Err refusal) fits call = absurd call

  -- ---- a crash leaves the file with the void body or without it
  pub restart_left : (file : LogFileView DiskView) (step : Declaring) (bytes : List ℕ) → FitsRestart h old durable top file step
      → MayLeave file.disk.story bytes → IsFile bytes h old ⊎ ((durable < top) × IsFile bytes h (with_body durable top old))
  restart_left file Waits bytes fits may = inl (subst (λ (b : List ℕ). IsFile b h old) (sym (fits.disk.settled bytes may)) fits.disk.file)
  restart_left file (Declares stage) bytes fits may = ⊎_elim
      (λ without. inl without)
      (λ with. inr (fits.disk.1.0, with))
      (with_or_without h old stage body file (marked top file.last) fits.disk.0 fits.disk.1.1 bytes may)
  restart_left file Declared bytes fits may =
      inr (fits.disk.1, subst (λ (b : List ℕ). IsFile b h (with_body durable top old)) (sym (fits.disk.0.settled bytes may)) fits.disk.0.file)
