-- A worker's own events with what others do between them, outside the lock under which they commit (Silo, section 4.4:
-- a worker reads without any lock, and the epoch goes on at any time).
use Rattle.std.specs.Prelude.{◌≡◌, ◌≢◌, ℕ, Option, Some, None, List, [], ◌∷◌, length}
use Rattle.std.specs.List.{All}
use Rattle.commit.specs.Machine.{Machine, worker}
use Rattle.commit.specs.Events.{IsEnabled, AreEnabled, after_event, after_all}
use Rattle.commit.specs.declared.event.Event.{Event}
use Rattle.commit.specs.declared.event.Event.TheVariants.{Begin, Read, Lock, ReadEpoch, Validate, ChooseTid, Install}
use Rattle.commit.specs.declared.event.Event.TheVariants.{Unlock, AdvanceEpoch}

-- whose event it is; the epoch is nobody's
abbrev pub actor : Event → Option ℕ
actor (Begin w) = Some w
actor (Read w r) = Some w
actor (Lock w r value) = Some w
actor (ReadEpoch w) = Some w
actor (Validate w r) = Some w
actor (ChooseTid w) = Some w
actor (Install w r) = Some w
actor (Unlock w r) = Some w
actor AdvanceEpoch = None

-- each event is worker w's
abbrev pub AreOwn : ℕ → List Event → Type 0
AreOwn w events = All (λ event. actor event ≡ Some w) events

-- what others may do between: they begin and read, and the epoch goes on
abbrev pub IsOfOthers : ℕ → Event → Type 0
IsOfOthers w (Begin k) = k ≢ w
IsOfOthers w (Read k r) = k ≢ w
IsOfOthers w AdvanceEpoch = Unit {0}
IsOfOthers w _ = ⊥

-- the machine's epoch is this one where an event reads it
abbrev pub ReadsEpoch : ℕ → Machine → Event → Type 0
ReadsEpoch epoch m (ReadEpoch w) = m.epoch ≡ epoch
ReadsEpoch epoch m _ = Unit {0}

-- to worker w the two machines look the same: the records, itself, and which workers there are
pub record LooksSame (w : ℕ) (a b : Machine) : Type 0 where
  pub records : b.records ≡ a.records
  pub own : worker b w ≡ worker a w
  pub workers : length b.workers ≡ length a.workers

-- from machine m on, the events are worker w's own, in their order, and between them what others may do, each where it
-- may happen; w reads this epoch
pub data IsWoven (w epoch : ℕ) : Machine → List Event → List Event → Type 0 where
  over : {m : Machine} → IsWoven w epoch m [] []
  mine : {m : Machine} {event : Event} {own events : List Event} → ReadsEpoch epoch m event
      → IsWoven w epoch (after_event m event) own events → IsWoven w epoch m (event ∷ own) (event ∷ events)
  between : {m : Machine} {event : Event} {own events : List Event} → IsOfOthers w event → IsEnabled m event
      → IsWoven w epoch (after_event m event) own events → IsWoven w epoch m own (event ∷ events)

-- worker w's own events of a run from machine m may stand with what others do between them, from any machine that looks
-- the same to w and in which w reads the same epoch: each may still happen, and the end looks the same to w
abbrev pub MayBeWoven : Machine → ℕ → List Event → Type 0
MayBeWoven m w own = (b : Machine) (events : List Event) → LooksSame w m b → IsWoven w m.epoch b own events
    → AreEnabled b events × LooksSame w (after_all m own) (after_all b events)
