-- Steps that may be taken, as a list of events.
use Rattle.std.proofs.Common.{◌≡◌, ℕ, zero, suc, Some, None, Option, List, [], ◌∷◌, take, refl, sym, ap, ◌∙◌, subst}
use Rattle.std.specs.Prelude.{MatchOption}
use Rattle.std.specs.Option.{option_map_or}
use Rattle.recover_crashes.specs.World.{Life, World}
use Rattle.recover_crashes.specs.Events.{Event, MayHappen, MayHappenInTurn, world_after, world_after_all}
use Rattle.traces.specs.declared.step.Step.{Step}
use Rattle.traces.specs.Told.{TraceView, event_told, MayBeTakenInTurn, world_told}
use Rattle.traces.specs.Moments.{AreEvents}

pub events_of : (life : Life) (t : TraceView) (w : World) (steps : List Step) → MayBeTakenInTurn life t w steps → (n : ℕ)
    → AreEvents life t w (take n steps)
events_of life t w steps may zero = record { events = []; one_each = refl; happen = tt; lead = refl }
events_of life t w [] may (suc n) = record { events = []; one_each = refl; happen = tt; lead = refl }
events_of life t w (s ∷ steps) may (suc n) = by (event_told t w s) refl may.0 (events_of life t (world_told t w s) steps may.1 n)
  where
    by : (o : Option Event) → event_told t w s ≡ o → MatchOption o ⊥ (MayHappen life w) → AreEvents life t (world_told t w s) (take n steps)
        → AreEvents life t w (s ∷ take n steps)
    by None told never rest = absurd never
    by (Some e) told here rest =
        let to : world_told t w s ≡ world_after w e = ap (λ (o : Option Event). option_map_or (world_after w) o w) told in record {
          events = e ∷ rest.events;
          one_each = ap suc rest.one_each;
          happen = (here, subst (λ (v : World). MayHappenInTurn life v rest.events) to rest.happen);
          lead = ap (λ (v : World). world_after_all v rest.events) (sym to) ∙ rest.lead;
        }
