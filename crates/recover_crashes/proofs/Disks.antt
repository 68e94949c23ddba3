-- A logger's disk while a body is appended: what stands there at each stage, and what a crash may leave.
use Rattle.std.proofs.Common.{◌≡◌, ℕ, ◌+◌, Some, List, [], ◌∷◌, ◌++◌, length, drop, Result, Ok, Err, true, sym, ◌∙◌, subst, inl, inr}
use Rattle.money.specs.declared.refusal.Refusal.{Refusal}
use Rattle.log_disk.specs.Calls.{Call, Synced}
use Rattle.log_disk.specs.Crashes.{MayLeave, Leaves}
use Rattle.log_header.specs.Header.{HeaderView}
use Rattle.log_text.specs.Bodies.{BodyView, body_after}
use Rattle.log_text.specs.declared.last.Last.{Last}
use Rattle.logfile.specs.Staged.{IsSettled, IsStaged}
use Rattle.logfile.specs.Standing.{LogFileView, Stands, IsWithOrWithout}
use Rattle.logfile.proofs.Moments.{wrote_left, synced_left, only_last}
use Rattle.logfile.proofs.Staging.{text_seen, gate_seen, text_moments, gate_moments}
use Rattle.logfile.proofs.Appending.{at_gate, staged_is, stands}
use Rattle.recover_crashes.specs.World.{DiskView, Stage, BatchTaken, TextWritten, TextSynced, GateOpened, DeviceFailed}
use Rattle.recover_crashes.specs.Events.{IsCalled, text_of, on_disk}
use Rattle.recover_crashes.specs.Lanes.{file_front, IsPlaced, IsFlying}

pub placed_there : (h : HeaderView) (bodies : List BodyView) (file : LogFileView DiskView)
    → Stands h bodies file.end file.last file.disk.seen file.disk.story → IsPlaced h bodies file
placed_there h bodies file s = record { header = s.file.header; lawful = s.lawful; place = s.place }

pub takes : (h : HeaderView) (bodies : List BodyView) (body : BodyView) (file : LogFileView DiskView)
    → Stands h bodies file.end file.last file.disk.seen file.disk.story → IsFlying h bodies BatchTaken body file
takes h bodies body file s =
    let has = at_gate h bodies file.end file.last file.disk.seen file.disk.story s in
    record {
      placed = placed_there h bodies file s;
      gate = s.file.gate;
      closed = s.file.is_closed;
      leaves = λ bytes may. inl (s.file.rest, s.settled bytes may ∙ has.text);
      ready = (s.settled, (s.file.rest, has));
    }

-- a sync that was done settles the disk
settled_by : (old new : DiskView) → new.seen ≡ old.seen → new.story ≡ Synced old.seen ∷ old.story → IsSettled new.seen new.story
settled_by old new seen story = λ bytes may. subst (λ (s : List Call). MayLeave s bytes) story may ∙ sym seen

module _ (h : HeaderView) (bodies : List BodyView) (body : BodyView) (file : LogFileView DiskView) (disk : DiskView) where
  abbrev front : List ℕ
  front = file_front h bodies

  abbrev text : List ℕ
  text = text_of body

  -- whatever the next call's result is, a crash leaves the file with the body or without it
  pub leaves_after : (stage : Stage) (result : Result (Unit {0}) Refusal) → (f : IsFlying h bodies stage body file)
      → IsCalled stage body file result disk → Leaves (IsStaged front f.gate text) disk.story
  leaves_after BatchTaken result f call =
      only_last (IsStaged front f.gate text) file.disk.story disk.story
      (text_moments file.end front f.gate f.ready.1.0 file.disk.seen text (length text) file.disk.story disk.story f.ready.1.1
      (wrote_left result (file.end + 1) (length text) file.disk.seen file.disk.story disk.story f.ready.0 call.story))
  leaves_after TextWritten result f call =
      only_last (IsStaged front f.gate text) file.disk.story disk.story
      (synced_left (IsStaged front f.gate text) result file.disk.seen file.disk.story disk.story f.leaves
      (inl (text ++ f.ready.0, f.ready.1.text)) call.story)
  leaves_after TextSynced result f call =
      only_last (IsStaged front f.gate text) file.disk.story disk.story
      (gate_moments file.end front f.gate f.ready.1.0 file.disk.seen text file.disk.story disk.story f.ready.1.1
      (wrote_left result file.end 1 file.disk.seen file.disk.story disk.story f.ready.0 call.story))
  leaves_after GateOpened result f call =
      only_last (IsStaged front f.gate text) file.disk.story disk.story
      (synced_left (IsStaged front f.gate text) result file.disk.seen file.disk.story disk.story f.leaves
      (inr (1, f.ready.0, f.ready.1)) call.story)
  leaves_after DeviceFailed result f call = absurd call

  -- the call that comes next is done
  pub text_is_written : (x : Unit {0}) → IsFlying h bodies BatchTaken body file → IsCalled BatchTaken body file (Ok x) disk
      → IsFlying h bodies TextWritten body (on_disk file disk)
  text_is_written x f call = record {
    placed = record { header = f.placed.header; lawful = f.placed.lawful; place = f.placed.place };
    gate = f.gate;
    closed = f.closed;
    leaves = leaves_after BatchTaken (Ok x) f call;
    ready = (drop (length text) f.ready.1.0, text_seen file.end front f.gate f.ready.1.0 file.disk.seen text disk.seen f.ready.1.1 call.seen);
  }

  pub text_is_synced : (x : Unit {0}) → IsFlying h bodies TextWritten body file → IsCalled TextWritten body file (Ok x) disk
      → IsFlying h bodies TextSynced body (on_disk file disk)
  text_is_synced x f call = record {
    placed = record { header = f.placed.header; lawful = f.placed.lawful; place = f.placed.place };
    gate = f.gate;
    closed = f.closed;
    leaves = leaves_after TextWritten (Ok x) f call;
    ready = (
      settled_by file.disk disk call.seen call.story,
      (f.ready.0, record { place = f.ready.1.place; text = call.seen ∙ f.ready.1.text }),
    );
  }

  pub gate_is_opened : (x : Unit {0}) → IsFlying h bodies TextSynced body file → IsCalled TextSynced body file (Ok x) disk
      → IsFlying h bodies GateOpened body (on_disk file disk)
  gate_is_opened x f call = record {
    placed = record { header = f.placed.header; lawful = f.placed.lawful; place = f.placed.place };
    gate = f.gate;
    closed = f.closed;
    leaves = leaves_after TextSynced (Ok x) f call;
    ready = (f.ready.1.0, gate_seen file.end front f.gate 1 (text ++ f.ready.1.0) file.disk.seen disk.seen f.ready.1.1 call.seen);
  }

  pub body_is_there : (x : Unit {0}) (now : Last) → (f : IsFlying h bodies GateOpened body file) → IsCalled GateOpened body file (Ok x) disk
      → body_after h file.last body ≡ Some now
      → Stands h (bodies ++ body ∷ []) (file.end + length text) now disk.seen disk.story
  body_is_there x now f call after =
      stands h f.placed.header bodies body file.last now f.placed.lawful after file.end f.ready.0 disk.seen disk.story f.placed.place
      (call.seen ∙ f.ready.1) (settled_by file.disk disk call.seen call.story)

  -- or it fails
  pub has_failed : (stage : Stage) (refusal : Refusal) → IsFlying h bodies stage body file → IsCalled stage body file (Err refusal) disk
      → IsFlying h bodies DeviceFailed body (record (on_disk file disk) { failed = true })
  has_failed stage refusal f call = record {
    placed = record { header = f.placed.header; lawful = f.placed.lawful; place = f.placed.place };
    gate = f.gate;
    closed = f.closed;
    leaves = leaves_after stage (Err refusal) f call;
    ready = tt;
  }

-- what a crash leaves of a body on its way
pub with_or_without : (h : HeaderView) (bodies : List BodyView) (stage : Stage) (body : BodyView) (file : LogFileView DiskView) (now : Last)
    → IsFlying h bodies stage body file → body_after h file.last body ≡ Some now
    → (bytes : List ℕ) → MayLeave file.disk.story bytes → IsWithOrWithout h bodies body bytes
with_or_without h bodies stage body file now f after bytes may =
    staged_is h f.placed.header bodies body file.last now f.placed.lawful after f.gate bytes f.closed (f.leaves bytes may)
