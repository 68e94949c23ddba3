-- An append is up to four calls of the device: what they make of a lane.
use Rattle.std.proofs.Common.{ℕ, ◌+◌, ◌≤◌, List, [], ◌∷◌, ◌++◌, length, Ok, Err, true, refl, sym, subst, ⊎_elim}
use Rattle.money.specs.declared.refusal.Refusal.{Refusal}
use Rattle.log_disk.specs.Calls.{Call, Wrote, Synced, written}
use Rattle.log_header.specs.Header.{HeaderView}
use Rattle.log_text.specs.Bodies.{BodyView}
use Rattle.log_entries.specs.Following.{body_of_batch}
use Rattle.book.specs.Batches.{BatchView}
use Rattle.book.specs.declared.entry.Entry.{Entry}
use Rattle.logfile.specs.Called.{StoreLeft}
use Rattle.logfile.specs.Standing.{LogFileView}
use Rattle.recover_crashes.specs.World.{DiskView, Stage, BatchTaken, TextWritten, TextSynced, GateOpened, DeviceFailed, Flight, Idle, Flying, Logger}
use Rattle.recover_crashes.specs.Events.{text_of, on_disk, with_batch}
use Rattle.recover_crashes.specs.Lanes.{FitsLane}
use Rattle.recover_crashes.proofs.Lanes.{lane_called}

-- a local mark up to the file's own
pub lane_at_local : (h : HeaderView) (past found : ℕ) (entries : List Entry) (old : List BodyView) (landed : List BatchView) (file : LogFileView DiskView)
    (flight : Flight) (local other : ℕ) → other ≤ file.last.mark → FitsLane h past found entries old landed file flight local
    → FitsLane h past found entries old landed file flight other
lane_at_local h past found entries old landed file flight local other low lane = record {
  header = lane.header;
  disk = lane.disk;
  waiting = lane.waiting;
  all = lane.all;
  count = lane.count;
  number = lane.number;
  logged = lane.logged;
  near = lane.near;
  low = lane.low;
  above = lane.above;
  next = lane.next;
  kept = low;
}

module _ (h : HeaderView) (past found : ℕ) (entries : List Entry) (old : List BodyView) (landed : List BatchView) (file : LogFileView DiskView)
    (batch : BatchView) (local : ℕ) (lane : FitsLane h past found entries old landed file (Flying BatchTaken batch) local) where
  abbrev text : List ℕ
  text = text_of (body_of_batch batch)

  abbrev text_seen : List ℕ
  text_seen = written file.disk.seen (file.end + 1) text

  abbrev text_disk : DiskView
  text_disk = record { seen = text_seen; story = Wrote (file.end + 1) (length text) ∷ file.disk.story }

  abbrev synced_disk : DiskView
  synced_disk = record { seen = text_seen; story = Synced text_seen ∷ text_disk.story }

  abbrev gate_seen : List ℕ
  gate_seen = written text_seen file.end (1 ∷ [])

  abbrev gate_disk : DiskView
  gate_disk = record { seen = gate_seen; story = Wrote file.end 1 ∷ synced_disk.story }

  abbrev last_disk : DiskView
  last_disk = record { seen = gate_seen; story = Synced gate_seen ∷ gate_disk.story }

  abbrev flies : Stage → LogFileView DiskView → Logger
  flies stage on = record { file = on; flight = Flying stage batch; local = local; marks = [] }

  -- the text is written, and synced
  text_there : FitsLane h past found entries old landed (on_disk file synced_disk) (Flying TextSynced batch) local
  text_there =
      let first = lane_called h past found entries old landed (flies BatchTaken file) BatchTaken batch (Ok tt) text_disk lane
      (record { seen = refl; story = refl }) in
      lane_called h past found entries old landed (flies TextWritten (on_disk file text_disk)) TextWritten batch (Ok tt) synced_disk first
      (record { seen = refl; story = refl })

  -- and then the gate
  all_there : FitsLane h past found entries old (landed ++ batch ∷ []) (with_batch (on_disk file last_disk) batch) Idle local
  all_there =
      let third = lane_called h past found entries old landed (flies TextSynced (on_disk file synced_disk)) TextSynced batch (Ok tt) gate_disk text_there
      (record { seen = refl; story = refl }) in
      lane_called h past found entries old landed (flies GateOpened (on_disk file gate_disk)) GateOpened batch (Ok tt) last_disk third
      (record { seen = refl; story = refl })

  -- all four calls were done
  pub after_fourth : (T : Type 0) (done : T) (now : List ℕ) (new : List Call)
      → StoreLeft {T = T} (Ok done) file.end text file.disk.seen file.disk.story now new
      → FitsLane h past found entries old (landed ++ batch ∷ []) (with_batch (on_disk file (record { seen = now; story = new })) batch) Idle local
  after_fourth T done now new left =
      subst (λ (d : List ℕ × List Call). FitsLane h past found entries old (landed ++ batch ∷ [])
      (with_batch (on_disk file (record { seen = d.0; story = d.1 })) batch) Idle local) (λ i. (sym left.0 i, sym left.1 i)) all_there

  -- one of them failed
  pub after_failure : (T : Type 0) (refusal : Refusal) (now : List ℕ) (new : List Call)
      → StoreLeft {T = T} (Err refusal) file.end text file.disk.seen file.disk.story now new
      → FitsLane h past found entries old landed (record (on_disk file (record { seen = now; story = new })) { failed = true })
      (Flying DeviceFailed batch) local
  after_failure T refusal now new left =
      ⊎_elim
      (λ first. lane_called h past found entries old landed (flies BatchTaken file) BatchTaken batch (Err refusal) (record { seen = now; story = new }) lane
      (record { seen = tt; story = first }))
      (λ third. lane_called h past found entries old landed (flies TextSynced (on_disk file synced_disk)) TextSynced batch (Err refusal)
      (record { seen = now; story = new }) text_there (record { seen = tt; story = third }))
      left
