-- A logger: its stream is what its file has, what is on its way there, and what waits; and what a crash leaves of it.
use Rattle.std.proofs.Common.{◌≡◌, ℕ, ◌+◌, ◌≤◌, Some, List, [], ◌∷◌, ◌++◌, length, drop, map, Bool, true, Result, Ok, Err, sym, ap, ◌∙◌, subst, ⊎_elim, arith}
use Rattle.std.proofs.Common.{append_assoc, append-nil, length-append}
use Rattle.std.specs.List.{All}
use Rattle.std.proofs.lemmas.List.{map-append}
use Rattle.std.proofs.lemmas.List.Elements.{All-append, All-nil}
use Rattle.std.proofs.lemmas.Grind.{flat_map-append}
use Rattle.std.proofs.Math.Seq.{drop-append_seam}
use Rattle.money.specs.declared.refusal.Refusal.{Refusal}
use Rattle.tables.specs.Sizes.{IsScale}
use Rattle.tidword.specs.TidWord.{epoch_of}
use Rattle.log_disk.specs.Crashes.{MayLeave}
use Rattle.log_header.specs.Header.{HeaderView}
use Rattle.log_text.specs.Bodies.{BodyView, entries_in, body_after, bodies_after, start}
use Rattle.log_text.specs.File.{IsFile}
use Rattle.book.specs.Batches.{BatchView, IsBatch}
use Rattle.book.specs.Streams.{last_number}
use Rattle.book.specs.declared.entry.Entry.{Entry}
use Rattle.log_entries.specs.Logged.{logged_entry}
use Rattle.log_entries.specs.Following.{IsOfVersion, body_of_batch, behind_batch, Continues}
use Rattle.log_entries.proofs.Following.{batch_follows, batch_near}
use Rattle.log_text.proofs.OneFile.{after_push}
use Rattle.logfile.specs.Standing.{LogFileView, Stands}
use Rattle.recover_crashes.specs.World.{DiskView, Stage, BatchTaken, TextWritten, TextSynced, GateOpened, DeviceFailed, Flight, Idle, Flying, Logger}
use Rattle.recover_crashes.specs.Events.{IsCalled, text_of, on_disk, with_batch, called}
use Rattle.recover_crashes.specs.Lanes.{IsFlying, taken_in, flying, bodies_of, IsAbove, FitsNextBatch, FitsLane}
use Rattle.recover_found.specs.Found.{last_mark, entries_of}
use Rattle.recover_crashes.proofs.Histories.{last_number_rises, last_number_joined}
use Rattle.recover_crashes.proofs.Marks.{last_is}
use Rattle.recover_crashes.proofs.Disks.{takes, text_is_written, text_is_synced, gate_is_opened}
use Rattle.recover_crashes.proofs.Disks.{body_is_there, has_failed, with_or_without}

-- ---- the book goes on
next_later : (found later : ℕ) (waiting more : List Entry) (flight : Flight) (file : LogFileView DiskView) → found ≤ later
    → All (λ e. later ≤ epoch_of e.tid) more → FitsNextBatch found waiting flight file → FitsNextBatch later (waiting ++ more) flight file
next_later found later waiting more Idle file no_less new next = tt
next_later found later waiting more (Flying stage batch) file no_less new next = record {
  is_batch = next.is_batch;
  continues = next.continues;
  versions = next.versions;
  low = omega (arith, next.low, no_less);
  above = All-append (IsAbove batch.mark) waiting more next.above (λ k d lt. omega (arith, next.low, no_less, new k d lt));
}

module _ (h : HeaderView) (past found : ℕ) (entries : List Entry) (old : List BodyView) (landed : List BatchView) (file : LogFileView DiskView)
    (flight : Flight) (local : ℕ) (lane : FitsLane h past found entries old landed file flight local)
  where
    -- entries come behind the stream, of an epoch that is found by now
    pub lane_goes_on : (later : ℕ) (more : List Entry) → found ≤ later → All (λ e. later ≤ epoch_of e.tid) more
        → FitsLane h past later (entries ++ more) old landed file flight local
    lane_goes_on later more no_less new = record {
      header = lane.header;
      disk = lane.disk;
      waiting = lane.waiting ++ more;
      all = ap (λ (l : List Entry). l ++ more) lane.all ∙ append_assoc (taken_in landed) (flying flight ++ lane.waiting) more
          ∙ ap (λ (l : List Entry). taken_in landed ++ l) (append_assoc (flying flight) lane.waiting more);
      count = lane.count;
      number = lane.number;
      logged = lane.logged;
      near = lane.near;
      low = omega (arith, lane.low, no_less);
      above = subst (All (IsAbove file.last.mark)) (append_assoc (flying flight) lane.waiting more)
          (All-append (IsAbove file.last.mark) (flying flight ++ lane.waiting) more lane.above (λ k d lt. omega (arith, lane.low, no_less, new k d lt)));
      next = next_later found later lane.waiting more flight file no_less new lane.next;
      kept = lane.kept;
    }

    pub lane_later : (later : ℕ) → found ≤ later → FitsLane h past later entries old landed file flight local
    lane_later later no_less =
        subst (λ (l : List Entry). FitsLane h past later l old landed file flight local) (append-nil entries)
        (lane_goes_on later [] no_less (All-nil (λ (e : Entry). later ≤ epoch_of e.tid)))

    -- the file's mark is confirmed
    pub lane_confirmed : FitsLane h past found entries old landed file flight file.last.mark
    lane_confirmed = record {
      header = lane.header;
      disk = lane.disk;
      waiting = lane.waiting;
      all = lane.all;
      count = lane.count;
      number = lane.number;
      logged = lane.logged;
      near = lane.near;
      low = lane.low;
      above = lane.above;
      next = lane.next;
      kept = omega arith;
    }

-- ---- an idle logger is given all that waits
pub all_that_waits : (h : HeaderView) (past found : ℕ) (entries : List Entry) (old : List BodyView) (landed : List BatchView) (file : LogFileView DiskView)
    (local : ℕ) (batch : BatchView) → (lane : FitsLane h past found entries old landed file Idle local)
    → Continues file.header file.count file.number file.last batch → batch.entries ≡ drop batch.first entries → batch.entries ≡ lane.waiting
all_that_waits h past found entries old landed file local batch lane continues rest =
    rest ∙ (λ i. drop ((continues.first ∙ lane.count) i) (lane.all i)) ∙ drop-append_seam (taken_in landed) lane.waiting

pub lane_takes : (h : HeaderView) (past found : ℕ) (entries : List Entry) (old : List BodyView) (landed : List BatchView) (file : LogFileView DiskView)
    (local : ℕ) (batch : BatchView) → FitsLane h past found entries old landed file Idle local → IsBatch batch
    → All (IsOfVersion h.version h.scale) batch.entries → Continues file.header file.count file.number file.last batch → batch.entries ≡ drop batch.first entries
    → FitsLane h past (batch.mark + 1) entries old landed file (Flying BatchTaken batch) local
lane_takes h past found entries old landed file local batch lane is versions continues rest =
    let waits = all_that_waits h past found entries old landed file local batch lane continues rest in
    record {
      header = lane.header;
      disk = takes h (old ++ bodies_of landed) (body_of_batch batch) file lane.disk;
      waiting = [];
      all = lane.all ∙ ap (λ (l : List Entry). taken_in landed ++ l) (sym waits ∙ sym (append-nil batch.entries));
      count = lane.count;
      number = lane.number;
      logged = lane.logged;
      near = lane.near;
      low = omega (arith, is.marks_rise, continues.mark_before);
      above = subst (All (IsAbove file.last.mark)) (sym waits ∙ sym (append-nil batch.entries)) lane.above;
      next = record {
        is_batch = is;
        continues = continues;
        versions = subst (λ (x : HeaderView). All (IsOfVersion x.version x.scale) batch.entries) (sym lane.header) versions;
        low = omega arith;
        above = All-nil (IsAbove batch.mark);
      };
      kept = lane.kept;
    }

-- ---- a call of the device
-- the batches in the file once a call has this result
abbrev pub landed_by : Flight → Result (Unit {0}) Refusal → List BatchView → List BatchView
landed_by (Flying GateOpened batch) (Ok _) landed = landed ++ batch ∷ []
landed_by _ _ landed = landed

module _ (h : HeaderView) (past found : ℕ) (entries : List Entry) (old : List BodyView) (landed : List BatchView) (file : LogFileView DiskView)
    (stage : Stage) (batch : BatchView) (local : ℕ) (lane : FitsLane h past found entries old landed file (Flying stage batch) local)
  where
    scale : batch.scale ≡ h.scale
    scale = lane.next.continues.scale ∙ ap (λ (x : HeaderView). x.scale) lane.header

    continues : Continues h file.count file.number file.last batch
    continues = subst (λ (x : HeaderView). Continues x file.count file.number file.last batch) lane.header lane.next.continues

    versions : All (IsOfVersion h.version h.scale) batch.entries
    versions = subst (λ (x : HeaderView). All (IsOfVersion x.version x.scale) batch.entries) lane.header lane.next.versions

    -- the batch's body may follow
    pub after : body_after h file.last (body_of_batch batch) ≡ Some (behind_batch file.last batch)
    after = batch_follows h file.count file.number file.last batch versions lane.next.is_batch continues lane.near
        (subst IsScale (sym scale) lane.disk.placed.header.scale)

    taken_landed : taken_in landed ++ batch.entries ≡ taken_in (landed ++ batch ∷ [])
    taken_landed = ap (λ (l : List Entry). taken_in landed ++ l) (sym (append-nil batch.entries))
        ∙ sym (flat_map-append (λ (b : BatchView). b.entries) landed (batch ∷ []))

    pub all_landed : entries ≡ taken_in (landed ++ batch ∷ []) ++ lane.waiting
    all_landed = lane.all ∙ sym (append_assoc (taken_in landed) batch.entries lane.waiting)
        ∙ ap (λ (l : List Entry). l ++ lane.waiting) taken_landed

    pub logged_landed : entries_of (bodies_of (landed ++ batch ∷ [])) ≡ map (logged_entry h.scale) (taken_in (landed ++ batch ∷ []))
    logged_landed =
        ap entries_of (map-append body_of_batch landed (batch ∷ []))
        ∙ flat_map-append entries_in (bodies_of landed) (body_of_batch batch ∷ [])
        ∙ (λ i. lane.logged i ++ append-nil (map (logged_entry (scale i)) batch.entries) i)
        ∙ sym (map-append (logged_entry h.scale) (taken_in landed) batch.entries)
        ∙ ap (map (logged_entry h.scale)) taken_landed

    pub bodies_landed : (old ++ bodies_of landed) ++ body_of_batch batch ∷ [] ≡ old ++ bodies_of (landed ++ batch ∷ [])
    bodies_landed = append_assoc old (bodies_of landed) (body_of_batch batch ∷ [])
        ∙ ap (λ (l : List BodyView). old ++ l) (sym (map-append body_of_batch landed (batch ∷ [])))

    -- another disk, and the batch at this stage
    pub lane_moves : (next : Stage) (disk : DiskView) (failed : Bool)
        → IsFlying h (old ++ bodies_of landed) next (body_of_batch batch) (record file { disk = disk; failed = failed })
        → FitsLane h past found entries old landed (record file { disk = disk; failed = failed }) (Flying next batch) local
    lane_moves next disk failed flies = record {
      header = lane.header;
      disk = flies;
      waiting = lane.waiting;
      all = lane.all;
      count = lane.count;
      number = lane.number;
      logged = lane.logged;
      near = lane.near;
      low = lane.low;
      above = lane.above;
      next = record {
        is_batch = lane.next.is_batch;
        continues = lane.next.continues;
        versions = lane.next.versions;
        low = lane.next.low;
        above = lane.next.above;
      };
      kept = lane.kept;
    }

    -- the batch is in the file
    pub lane_lands : (disk : DiskView)
        → Stands h ((old ++ bodies_of landed) ++ body_of_batch batch ∷ []) (file.end + length (text_of (body_of_batch batch))) (behind_batch file.last batch) disk.seen
        disk.story → FitsLane h past found entries old (landed ++ batch ∷ []) (with_batch (on_disk file disk) batch) Idle local
    lane_lands disk there = record {
      header = lane.header;
      disk = subst (λ (l : List BodyView). Stands h l (file.end + length (text_of (body_of_batch batch))) (behind_batch file.last batch) disk.seen disk.story)
          bodies_landed there;
      waiting = lane.waiting;
      all = all_landed;
      count = omega (
        arith,
        lane.count,
        length-append (taken_in landed) batch.entries,
        ap length taken_landed,
      );
      number = subst (λ (l : List Entry). last_number file.number batch.entries ≤ last_number past l) taken_landed
          (subst (λ (n : ℕ). last_number file.number batch.entries ≤ n) (sym (last_number_joined past (taken_in landed) batch.entries))
          (last_number_rises file.number (last_number past (taken_in landed)) batch.entries lane.number));
      logged = logged_landed;
      near = batch_near file.last batch lane.next.is_batch lane.next.continues.mark_before lane.near;
      low = lane.next.low;
      above = lane.next.above;
      next = tt;
      kept = omega (arith, lane.kept, lane.next.continues.mark_before, lane.next.is_batch.marks_rise);
    }

-- what a call of the device makes of a logger
pub lane_called : (h : HeaderView) (past found : ℕ) (entries : List Entry) (old : List BodyView) (landed : List BatchView) (x : Logger) (stage : Stage)
    (batch : BatchView) (result : Result (Unit {0}) Refusal) (disk : DiskView) → FitsLane h past found entries old landed x.file (Flying stage batch) x.local
    → IsCalled stage (body_of_batch batch) x.file result disk
    → let y : Logger = called (Flying stage batch) result (on_disk x.file disk) x in
    FitsLane h past found entries old (landed_by (Flying stage batch) result landed) y.file y.flight y.local
lane_called h past found entries old landed x BatchTaken batch (Ok u) disk lane call =
    lane_moves h past found entries old landed x.file BatchTaken batch x.local lane TextWritten disk x.file.failed
    (text_is_written h (old ++ bodies_of landed) (body_of_batch batch) x.file disk u lane.disk call)
lane_called h past found entries old landed x TextWritten batch (Ok u) disk lane call =
    lane_moves h past found entries old landed x.file TextWritten batch x.local lane TextSynced disk x.file.failed
    (text_is_synced h (old ++ bodies_of landed) (body_of_batch batch) x.file disk u lane.disk call)
lane_called h past found entries old landed x TextSynced batch (Ok u) disk lane call =
    lane_moves h past found entries old landed x.file TextSynced batch x.local lane GateOpened disk x.file.failed
    (gate_is_opened h (old ++ bodies_of landed) (body_of_batch batch) x.file disk u lane.disk call)
lane_called h past found entries old landed x GateOpened batch (Ok u) disk lane call =
    lane_lands h past found entries old landed x.file GateOpened batch x.local lane disk
    (body_is_there h (old ++ bodies_of landed) (body_of_batch batch) x.file disk u (behind_batch x.file.last batch) lane.disk call
    (after h past found entries old landed x.file GateOpened batch x.local lane))
lane_called h past found entries old landed x DeviceFailed batch (Ok u) disk lane call = absurd call
lane_called h past found entries old landed x BatchTaken batch (Err refusal) disk lane call =
    lane_moves h past found entries old landed x.file BatchTaken batch x.local lane DeviceFailed disk true
    (has_failed h (old ++ bodies_of landed) (body_of_batch batch) x.file disk BatchTaken refusal lane.disk call)
lane_called h past found entries old landed x TextWritten batch (Err refusal) disk lane call =
    lane_moves h past found entries old landed x.file TextWritten batch x.local lane DeviceFailed disk true
    (has_failed h (old ++ bodies_of landed) (body_of_batch batch) x.file disk TextWritten refusal lane.disk call)
lane_called h past found entries old landed x TextSynced batch (Err refusal) disk lane call =
    lane_moves h past found entries old landed x.file TextSynced batch x.local lane DeviceFailed disk true
    (has_failed h (old ++ bodies_of landed) (body_of_batch batch) x.file disk TextSynced refusal lane.disk call)
lane_called h past found entries old landed x GateOpened batch (Err refusal) disk lane call =
    lane_moves h past found entries old landed x.file GateOpened batch x.local lane DeviceFailed disk true
    (has_failed h (old ++ bodies_of landed) (body_of_batch batch) x.file disk GateOpened refusal lane.disk call)
lane_called h past found entries old landed x DeviceFailed batch (Err refusal) disk lane call = absurd call

-- ---- a crash
-- what a crash leaves of a logger: a file of batches that its stream begins with, and what comes behind them is above its last mark
pub record IsLeft (h : HeaderView) (entries : List Entry) (old : List BodyView) (local : ℕ) (bytes : List ℕ) (batches : List BatchView) : Type 0 where
  pub behind : List Entry
  pub file : IsFile bytes h (old ++ bodies_of batches)
  pub all : entries ≡ taken_in batches ++ behind
  pub above : All (IsAbove (last_mark 0 (old ++ bodies_of batches))) behind
  pub logged : entries_of (bodies_of batches) ≡ map (logged_entry h.scale) (taken_in batches)
  pub kept : local ≤ last_mark 0 (old ++ bodies_of batches)

module _ (h : HeaderView) (past found : ℕ) (entries : List Entry) (old : List BodyView) (landed : List BatchView) (file : LogFileView DiskView) (local : ℕ)
    (bytes : List ℕ)
  where
    -- the bodies that are sure
    sure : (behind : List Entry) → IsFile bytes h (old ++ bodies_of landed) → bodies_after h start (old ++ bodies_of landed) ≡ Some file.last
        → entries ≡ taken_in landed ++ behind → All (IsAbove file.last.mark) behind
        → entries_of (bodies_of landed) ≡ map (logged_entry h.scale) (taken_in landed) → local ≤ file.last.mark → IsLeft h entries old local bytes landed
    sure behind is lawful all above logged kept =
        let mark : last_mark 0 (old ++ bodies_of landed) ≡ file.last.mark = last_is h start (old ++ bodies_of landed) file.last lawful in
        record {
          behind = behind;
          file = is;
          all = all;
          above = subst (λ (m : ℕ). All (IsAbove m) behind) (sym mark) above;
          logged = logged;
          kept = omega (arith, kept, mark);
        }

    pub lane_left : (flight : Flight) → FitsLane h past found entries old landed file flight local → MayLeave file.disk.story bytes
        → (batches : List BatchView) × IsLeft h entries old local bytes batches
    lane_left Idle lane may = (
      landed,
      sure lane.waiting (subst (λ (b : List ℕ). IsFile b h (old ++ bodies_of landed)) (sym (lane.disk.settled bytes may)) lane.disk.file)
          lane.disk.lawful lane.all lane.above lane.logged lane.kept,
    )
    lane_left (Flying stage batch) lane may =
        let follows = after h past found entries old landed file stage batch local lane in
        ⊎_elim
        (λ without. (landed, sure (batch.entries ++ lane.waiting) without lane.disk.placed.lawful lane.all lane.above lane.logged lane.kept))
        (λ with. let bodies = bodies_landed h past found entries old landed file stage batch local lane in
        let lawful : bodies_after h start (old ++ bodies_of (landed ++ batch ∷ [])) ≡ Some (behind_batch file.last batch)
        = subst (λ (l : List BodyView). bodies_after h start l ≡ Some (behind_batch file.last batch)) bodies
        (after_push h start (old ++ bodies_of landed) (body_of_batch batch) file.last (behind_batch file.last batch) lane.disk.placed.lawful follows) in
        let mark : last_mark 0 (old ++ bodies_of (landed ++ batch ∷ [])) ≡ batch.mark
        = last_is h start (old ++ bodies_of (landed ++ batch ∷ [])) (behind_batch file.last batch) lawful in (
          landed ++ batch ∷ [],
          record {
            behind = lane.waiting;
            file = subst (λ (l : List BodyView). IsFile bytes h l) bodies with;
            all = all_landed h past found entries old landed file stage batch local lane;
            above = subst (λ (m : ℕ). All (IsAbove m) lane.waiting) (sym mark) lane.next.above;
            logged = logged_landed h past found entries old landed file stage batch local lane;
            kept = omega (arith, lane.kept, lane.next.continues.mark_before, lane.next.is_batch.marks_rise, mark);
          },
        ))
        (with_or_without h (old ++ bodies_of landed) stage (body_of_batch batch) file (behind_batch file.last batch) lane.disk follows bytes may)
