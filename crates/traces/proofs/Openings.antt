-- The values at the opening of a life.
use Rattle.std.proofs.Common.{◌≡◌, ℕ, ◌+◌, ◌<◌, ◌≤◌, List, length, refl, sym, ap, ◌∙◌, subst, arith}
use Rattle.std.specs.Prelude.{slice_index_or}
use Rattle.logfile.specs.Standing.{LogFileView}
use Rattle.recover_crashes.specs.World.{Life, DiskView, opening}
use Rattle.traces.specs.declared.follower.Follower.{Follower}
use Rattle.traces.specs.declared.lane.Lane.{Lane}
use Rattle.traces.specs.declared.step.Start.{Start}
use Rattle.traces.specs.Told.{TraceView, AreStarts}
use Rattle.traces.specs.Shown.{lane_at, IsLane, IsWithinHistory, ShowsWorld}

pub opening_shown : (base : ℕ) (starts : List Start) (f : Follower) → f.epoch ≡ base + 1 → f.found ≡ base + 1 → f.durable ≡ base → f.committed ≡ 0
    → length f.lanes.items ≡ length starts
    → ((l : ℕ) → l < length starts → (d : Lane) → (start : Start) → slice_index_or f.lanes.items l d ≡ lane_at base (slice_index_or starts l start))
    → (life : Life) (t : TraceView) (files : ℕ → LogFileView DiskView) → life.plan.base ≡ base → length t.disks ≡ length starts
    → AreStarts life t starts files → ShowsWorld t f (opening life.plan files)
opening_shown base starts f epoch found durable committed count each life t files at disks are = record {
  epoch = ap (λ (n : ℕ). n + 1) at ∙ sym epoch;
  found = ap (λ (n : ℕ). n + 1) at ∙ sym found;
  durable = at ∙ sym durable;
  history = ap (λ (n : ℕ). Rattle.std.proofs.Common.take n t.history) (sym committed);
  within = omega (arith, committed);
  count = count ∙ sym disks;
  lanes = λ l lt d. let is = are l lt none in
      subst (λ (lane : Lane). IsLane t l lane ((opening life.plan files).logger l)) (sym (each l (omega (arith, lt, disks)) d none)) (record {
        calls = is.calls;
        end = is.end;
        scale = is.scale;
        mark = is.mark ∙ at;
        count = is.count;
        flight = refl;
        local = at;
        loaded = refl;
        least = refl;
      });
  behind = λ l lt d.
      subst (IsWithinHistory f.committed) (sym (each l (omega (arith, lt, disks)) d none)) (record { taken = omega (arith, committed); until = tt });
}
  where
    none : Start
    none = record { calls = 0; end = 0 }
