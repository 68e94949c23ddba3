-- Every run is serial.
use Rattle.std.proofs.Common.{◌≡◌, ℕ, ◌<◌, ◌≤◌, Option, Some, List, [], ◌∷◌, length, refl, sym, ap, subst, inl, ⊎_elim, le_trans, le_refl}
use Rattle.std.proofs.lemmas.Bool.{cases_lt}
use Rattle.std.proofs.lemmas.List.{get_or_past}
use Rattle.commit.specs.Machine.{Machine, Worker, IsOpening, IsIdle, idle_worker, note_at, worker}
use Rattle.commit.specs.Events.{AreEnabled, after_event}
use Rattle.commit.specs.Turns.{Place, Run, decided, turns_after, run, run_on}
use Rattle.commit.specs.Turns.Place.{Waiting, Decided}
use Rattle.commit.specs.Serial.{IsSerial, HaveLawfulTids, NeverFall, opening_versions, IsSerialRun}
use Rattle.commit.specs.declared.worker.Version.{Version}
use Rattle.commit.specs.declared.event.Event.{Event}
use Rattle.commit.proofs.Held.{never_both}
use Rattle.commit.proofs.Invariant.{AreGood, Falling}
use Rattle.commit.proofs.Stores.{pending_held, nothing_idle}
use Rattle.commit.proofs.Order.{idle}
use Rattle.commit.proofs.Events.{Holds, step}

-- every worker is idle where a run opens
opens_idle : (opening : Machine) → IsOpening opening → (w : ℕ) → IsIdle (worker opening w)
opens_idle opening opens w = ⊎_elim
    (λ (here : w < length opening.workers). opens.idle w here)
    (λ (past : length opening.workers ≤ w). subst (λ (x : Worker). IsIdle x) (sym (get_or_past opening.workers w idle_worker past)) (refl, inl refl))
    (cases_lt w (length opening.workers))

opens_sound : (opening : Machine) → IsOpening opening → Holds (opening_versions opening) opening []
opens_sound opening opens = record {
  locks = record {
    locked = λ w r value e. absurd (no_lock w r value e);
    single = λ w k r value other e f. absurd (no_lock w r value e);
    fresh = λ w r v e. absurd (never_both (nothing_idle (worker opening w) r (opens_idle opening opens w)) e);
  };
  order = record { places = λ w e. absurd (idle (worker opening w) (opens_idle opening opens w) e); good = tt; epochs = tt };
  stores = record {
    to_come = λ w r value e. absurd (no_lock w r value (pending_held (worker opening w).phase (note_at (worker opening w).locks r) value e));
    settled = λ r _. refl;
  };
}
  where
    no_lock : (w r : ℕ) (value : Option (List ℕ)) → note_at (worker opening w).locks r ≡ Some value → ⊥
    no_lock w r value e = never_both (ap (λ l. note_at l r) (opens_idle opening opens w).0) e

sound_on : (first : ℕ → Version) (r : Run) (events : List Event) → Holds first r.machine r.turns → AreEnabled r.machine events
    → Holds first (run_on r events).machine (run_on r events).turns
sound_on first r [] h enabled = h
sound_on first r (event ∷ events) h enabled =
    sound_on first (record { machine = after_event r.machine event; turns = turns_after r.machine event r.turns }) events
    (step first r.machine r.turns event enabled.0 h) enabled.1

-- what a reader of the theorem sees of the invariant
are_serial : (first : ℕ → Version) (ws : ℕ → Worker) (turns : List Place) → AreGood first ws turns → IsSerial first (decided turns)
are_serial first ws [] h = tt
are_serial first ws (Waiting w e ∷ turns) h = are_serial first ws turns h.1
are_serial first ws (Decided t ∷ turns) h = (h.0.reads.found, are_serial first ws turns h.1)

are_stamped : (first : ℕ → Version) (ws : ℕ → Worker) (turns : List Place) → AreGood first ws turns → HaveLawfulTids first (decided turns)
are_stamped first ws [] h = tt
are_stamped first ws (Waiting w e ∷ turns) h = are_stamped first ws turns h.1
are_stamped first ws (Decided t ∷ turns) h = (h.0.stamp, are_stamped first ws turns h.1)

never_fall : (turns : List Place) (e f : ℕ) → e ≤ f → Falling e turns → NeverFall f (decided turns)
never_fall [] e f le h = tt
never_fall (Waiting w g ∷ turns) e f le h = never_fall turns g f (le_trans h.0 le) h.1
never_fall (Decided t ∷ turns) e f le h = (le_trans h.0 le, never_fall turns t.epoch t.epoch (le_refl t.epoch) h.1)

serial_run : (opening : Machine) (end : Run) → Holds (opening_versions opening) end.machine end.turns → IsSerialRun opening end
serial_run opening end h = record {
  serial = are_serial (opening_versions opening) (worker end.machine) end.turns h.order.good;
  stamped = are_stamped (opening_versions opening) (worker end.machine) end.turns h.order.good;
  epochs = never_fall end.turns end.machine.epoch end.machine.epoch (le_refl end.machine.epoch) h.order.epochs;
  waiting = h.order.places;
  settled = λ r. record { installed = h.stores.settled r; to_come = λ w value e. (h.stores.to_come w r value e).0 };
}

pub every_run : (opening : Machine) (events : List Event) → IsOpening opening → AreEnabled opening events → IsSerialRun opening (run opening events)
every_run opening events opens enabled =
    serial_run opening (run opening events)
    (sound_on (opening_versions opening) (record { machine = opening; turns = [] }) events (opens_sound opening opens) enabled)
