-- A logger's next call, by its values.
use Rattle.std.proofs.Common.{◌≡◌, ℕ, ◌+◌, ◌≤◌, Some, None, Ok, List, [], ◌∷◌, length, map, refl, sym, ap, ◌∙◌, subst}
use Rattle.std.specs.Prelude.{MatchOption}
use Rattle.log_disk.specs.Memory.{IsWriteOf}
use Rattle.log_disk.specs.declared.memory_call.MemoryCall.{MemoryCall}
use Rattle.log_disk.specs.declared.memory_call.MemoryCall.TheVariants.{Sync}
use Rattle.log_text.specs.Bodies.{BodyView, Entries}
use Rattle.log_entries.specs.Logged.{logged_entry}
use Rattle.log_entries.specs.Following.{body_of_batch}
use Rattle.recover_crashes.specs.World.{Flight, Idle, Flying, Logger}
use Rattle.recover_crashes.specs.Events.{IsCalled, MayCall, called, done, on_disk, text_of}
use Rattle.traces.specs.declared.lane.Phase.{Phase}
use Rattle.traces.specs.declared.lane.Phase.TheVariants as phase
use Rattle.traces.specs.declared.lane.Batched.{Batched}
use Rattle.traces.specs.declared.lane.Lane.{Lane}
use Rattle.traces.specs.Told.{TraceView, disk_after}
use Rattle.traces.specs.Shown.{stage_of, body_between, IsMeasured, IsBatched, IsFlight, IsLane, CallsLane, IsWithinHistory}
use Rattle.traces.proofs.Beginnings.{stream_count}
use Rattle.traces.proofs.Writes.{grown, write_is_done, write_was_done, sync_is_done, sync_was_done}

-- a lane with nothing under way may not call
pub idle_lane : (t : TraceView) (logger : ℕ) (lane : Lane) (call : MemoryCall) → lane.batched ≡ None → CallsLane t logger lane call None
idle_lane t logger lane call none x h may =
    let flight : x.flight ≡ Idle = subst (λ b. IsFlight t logger lane.taken b x.flight) none h.flight in
    subst (λ (f : Flight). MayCall f x.file (Ok tt) (disk_after x.file.disk call)) flight may

module _ (t : TraceView) (logger : ℕ) (lane : Lane) (b : Batched) (call : MemoryCall) (has : lane.batched ≡ Some b) where
  batched : (x : Logger) → IsLane t logger lane x → IsBatched t logger lane.taken b x.flight
  batched x h = subst (λ o. IsFlight t logger lane.taken o x.flight) has h.flight

  until : (committed : ℕ) → IsWithinHistory committed lane → b.until ≤ committed
  until committed within = subst (λ o. Rattle.std.specs.Prelude.IfSome o (λ (c : Batched). c.until ≤ committed)) has within.until

  body : (x : Logger) (h : IsLane t logger lane x) → body_of_batch (batched x h).batch ≡ body_between t logger b.mark lane.taken b.until
  body x h = let g = batched x h in λ i. Entries (g.mark i) (map (logged_entry (g.scale i)) (g.entries i))

  flying : (p : Phase) → b.phase ≡ p → (x : Logger) (h : IsLane t logger lane x) → x.flight ≡ Flying (stage_of p) (batched x h).batch
  flying p is x h = (batched x h).is ∙ ap (λ (q : Phase). Flying (stage_of q) (batched x h).batch) is

  -- where the call that comes next isn't this one
  not_called : (p : Phase) → b.phase ≡ p
      → ((x : Logger) (h : IsLane t logger lane x) → IsCalled (stage_of p) (body_of_batch (batched x h).batch) x.file (Ok tt) (disk_after x.file.disk call) → ⊥)
      → CallsLane t logger lane call None
  not_called p is not x h may =
      not x h (subst (λ (f : Flight). MayCall f x.file (Ok tt) (disk_after x.file.disk call)) (flying p is x h) may)

  -- and where it is
  is_called : (p : Phase) → b.phase ≡ p → (new : Lane)
      → ((x : Logger) (h : IsLane t logger lane x) → IsCalled (stage_of p) (body_of_batch (batched x h).batch) x.file (Ok tt) (disk_after x.file.disk call))
      → ((x : Logger) (h : IsLane t logger lane x)
      → IsLane t logger new (done (stage_of p) (batched x h).batch (on_disk x.file (disk_after x.file.disk call)) x))
      → ((committed : ℕ) → IsWithinHistory committed lane → IsWithinHistory committed new)
      → CallsLane t logger lane call (Some new)
  is_called p is new may leads within x h =
      let disk = disk_after x.file.disk call in
      let there = subst (λ (f : Flight). MayCall f x.file (Ok tt) disk × IsLane t logger new (called f (Ok tt) (on_disk x.file disk) x))
      (sym (flying p is x h)) (may x h, leads x h) in
      (there.0, there.1, within)

  -- behind one call more of the batch
  abbrev pub next : Phase → ℕ → Lane
  next p length = record lane { calls = lane.calls + 1; batched = Some (record b { phase = p; length = length }) }

  next_lane : (p : Phase) (told : ℕ) → IsMeasured p told (length (text_of (body_between t logger b.mark lane.taken b.until)))
      → (x : Logger) (h : IsLane t logger lane x)
      → IsLane t logger (next p told) (record x {
        file = on_disk x.file (disk_after x.file.disk call);
        flight = Flying (stage_of p) (batched x h).batch;
      })
  next_lane p told measured x h = let g = batched x h in record {
    calls = grown x.file.disk call ∙ ap (λ (n : ℕ). n + 1) h.calls;
    end = h.end;
    scale = h.scale;
    mark = h.mark;
    count = h.count;
    flight = record {
      batch = g.batch;
      is = refl;
      mark = g.mark;
      scale = g.scale;
      entries = g.entries;
      rises = g.rises;
      measured = measured;
    };
    local = h.local;
    loaded = h.loaded;
    least = h.least;
  }

  next_within : (p : Phase) (told : ℕ) (committed : ℕ) → IsWithinHistory committed lane → IsWithinHistory committed (next p told)
  next_within p told committed within = record { taken = within.taken; until = until committed within }

  -- the text is written
  pub text_written : b.phase ≡ phase.BatchTaken → (text : List ℕ) → text ≡ text_of (body_between t logger b.mark lane.taken b.until)
      → IsWriteOf (lane.end + 1) text call → (told : ℕ) → told ≡ length text → CallsLane t logger lane call (Some (next phase.TextWritten told))
  text_written is text text_is write told told_is = is_called phase.BatchTaken is (next phase.TextWritten told)
      (λ x h. write_is_done x.file.disk (x.file.end + 1) (text_of (body_of_batch (batched x h).batch)) call
      (subst (λ (n : ℕ). IsWriteOf (n + 1) (text_of (body_of_batch (batched x h).batch)) call) (sym h.end)
      (subst (λ (bytes : List ℕ). IsWriteOf (lane.end + 1) bytes call) (text_is ∙ sym (ap text_of (body x h))) write)))
      (next_lane phase.TextWritten told (told_is ∙ ap length text_is))
      (next_within phase.TextWritten told)

  pub text_not_written : b.phase ≡ phase.BatchTaken → (text : List ℕ) → text ≡ text_of (body_between t logger b.mark lane.taken b.until)
      → (IsWriteOf (lane.end + 1) text call → ⊥) → CallsLane t logger lane call None
  text_not_written is text text_is not = not_called phase.BatchTaken is (λ x h may.
      not (subst (λ (bytes : List ℕ). IsWriteOf (lane.end + 1) bytes call) (ap text_of (body x h) ∙ sym text_is)
      (subst (λ (n : ℕ). IsWriteOf (n + 1) (text_of (body_of_batch (batched x h).batch)) call) h.end
      (write_was_done x.file.disk (x.file.end + 1) (text_of (body_of_batch (batched x h).batch)) call may))))

  -- it is synced
  measured_at : (p : Phase) → b.phase ≡ p → (x : Logger) → IsLane t logger lane x
      → IsMeasured p b.length (length (text_of (body_between t logger b.mark lane.taken b.until)))
  measured_at p is x h = subst (λ (q : Phase). IsMeasured q b.length (length (text_of (body_between t logger b.mark lane.taken b.until)))) is (batched x h).measured

  pub text_synced : b.phase ≡ phase.TextWritten → call ≡ Sync → CallsLane t logger lane call (Some (next phase.TextSynced b.length))
  text_synced is sync = is_called phase.TextWritten is (next phase.TextSynced b.length)
      (λ x h. sync_is_done x.file.disk call sync)
      (λ x h. next_lane phase.TextSynced b.length (measured_at phase.TextWritten is x h) x h)
      (next_within phase.TextSynced b.length)

  pub text_not_synced : b.phase ≡ phase.TextWritten → (call ≡ Sync → ⊥) → CallsLane t logger lane call None
  text_not_synced is not = not_called phase.TextWritten is (λ x h may. not (sync_was_done x.file.disk call may))

  -- the gate in front of it is opened
  pub gate_opened : b.phase ≡ phase.TextSynced → IsWriteOf lane.end (1 ∷ []) call → CallsLane t logger lane call (Some (next phase.GateOpened b.length))
  gate_opened is write = is_called phase.TextSynced is (next phase.GateOpened b.length)
      (λ x h. write_is_done x.file.disk x.file.end (1 ∷ []) call (subst (λ (n : ℕ). IsWriteOf n (1 ∷ []) call) (sym h.end) write))
      (λ x h. next_lane phase.GateOpened b.length (measured_at phase.TextSynced is x h) x h)
      (next_within phase.GateOpened b.length)

  pub gate_not_opened : b.phase ≡ phase.TextSynced → (IsWriteOf lane.end (1 ∷ []) call → ⊥) → CallsLane t logger lane call None
  gate_not_opened is not = not_called phase.TextSynced is (λ x h may.
      not (subst (λ (n : ℕ). IsWriteOf n (1 ∷ []) call) h.end (write_was_done x.file.disk x.file.end (1 ∷ []) call may)))

  -- that is synced, and the file has the batch
  pub gate_synced : b.phase ≡ phase.GateOpened → call ≡ Sync → (end : ℕ) → end ≡ lane.end + b.length
      → CallsLane t logger lane call (Some (record lane {
        calls = lane.calls + 1;
        end = end;
        mark = b.mark;
        taken = b.until;
        batched = None;
      }))
  gate_synced is sync end end_is = is_called phase.GateOpened is
      (record lane { calls = lane.calls + 1; end = end; mark = b.mark; taken = b.until; batched = None })
      (λ x h. sync_is_done x.file.disk call sync)
      (λ x h. let g = batched x h in record {
        calls = grown x.file.disk call ∙ ap (λ (n : ℕ). n + 1) h.calls;
        end = ap (λ (n : ℕ). n + length (text_of (body_of_batch g.batch))) h.end
            ∙ ap (λ (n : ℕ). lane.end + n) (ap (λ (y : BodyView). length (text_of y)) (body x h) ∙ sym (measured_at phase.GateOpened is x h))
            ∙ sym end_is;
        scale = h.scale;
        mark = g.mark;
        count = ap (λ l. x.file.count + length l) g.entries ∙ stream_count t logger lane.taken b.until x.file.count g.rises h.count;
        flight = refl;
        local = h.local;
        loaded = h.loaded;
        least = h.least;
      })
      (λ committed within. record { taken = until committed within; until = tt })

  pub gate_not_synced : b.phase ≡ phase.GateOpened → (call ≡ Sync → ⊥) → CallsLane t logger lane call None
  gate_not_synced is not = not_called phase.GateOpened is (λ x h may. not (sync_was_done x.file.disk call may))
