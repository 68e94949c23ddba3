-- Values of which one logger's change.
use Rattle.std.proofs.Common.{◌≡◌, ◌≢◌, ℕ, ◌<◌, length, sym, subst, arith, get_or-set_same, get_or-set_other}
use Rattle.std.specs.Prelude.{slice_index_or, slice_set}
use Rattle.recover_crashes.specs.World.{Logger, World}
use Rattle.recover_crashes.specs.Events.{with_logger}
use Rattle.recover_crashes.proofs.Lists.{each_set}
use Rattle.std.proofs.lemmas.Bool.{cases_eq}
use Rattle.std.proofs.Common.{⊎_elim}
use Rattle.traces.specs.declared.follower.Follower.{Follower}
use Rattle.traces.specs.declared.lane.Lane.{Lane}
use Rattle.traces.specs.Told.{TraceView}
use Rattle.traces.specs.Shown.{IsLane, IsWithinHistory, ShowsWorld}

module _ (t : TraceView) (f : Follower) (w : World) (h : ShowsWorld t f w) (k : ℕ) (below : k < length t.disks) (lane : Lane) where
  there : k < length f.lanes.items
  there = omega (arith, below, h.count)

  pub lanes_set : (v : World) (x : Logger) → ((l : ℕ) → v.logger l ≡ w.logger l) → IsLane t k lane x
      → (l : ℕ) → l < length t.disks → (d : Lane) → IsLane t l (slice_index_or (slice_set f.lanes.items k lane) l d) ((with_logger v k x).logger l)
  lanes_set v x same is =
      each_set (λ l y. l < length t.disks → (d : Lane) → IsLane t l (slice_index_or (slice_set f.lanes.items k lane) l d) y)
      v.logger k x
      (λ lt d. subst (λ (y : Lane). IsLane t k y x) (sym (get_or-set_same f.lanes.items k lane d there)) is)
      (λ l other lt d. subst (λ (y : Logger). IsLane t l (slice_index_or (slice_set f.lanes.items k lane) l d) y) (sym (same l))
      (subst (λ (y : Lane). IsLane t l y (w.logger l)) (sym (get_or-set_other f.lanes.items k l lane d other)) (h.lanes l lt d)))

  pub within_set : IsWithinHistory f.committed lane
      → (l : ℕ) → l < length t.disks → (d : Lane) → IsWithinHistory f.committed (slice_index_or (slice_set f.lanes.items k lane) l d)
  within_set is l lt d = ⊎_elim
      (λ (e : l ≡ k). subst (λ (j : ℕ). IsWithinHistory f.committed (slice_index_or (slice_set f.lanes.items k lane) j d)) (sym e)
      (subst (IsWithinHistory f.committed) (sym (get_or-set_same f.lanes.items k lane d there)) is))
      (λ (other : l ≢ k). subst (IsWithinHistory f.committed) (sym (get_or-set_other f.lanes.items k l lane d other)) (h.behind l lt d))
      (cases_eq l k)
