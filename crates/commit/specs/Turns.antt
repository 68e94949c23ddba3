-- The order of the transactions of a run: a transaction's turn is its epoch read (Silo, section 4.4: the serialization
-- point).
use Rattle.std.specs.Prelude.{◌≡◌, ◌⊎◌, ℕ, ◌==◌, if◌then◌else◌, Option, List, [], ◌∷◌}
use Rattle.commit.specs.Machine.{Machine, Worker, worker}
use Rattle.commit.specs.Events.{after_event}
use Rattle.commit.specs.declared.worker.Phase.{Phase}
use Rattle.commit.specs.declared.worker.Phase.TheVariants.{Chosen, Failed}
use Rattle.commit.specs.declared.worker.Version.{Version}
use Rattle.commit.specs.declared.event.Event.{Event}
use Rattle.commit.specs.declared.event.Event.TheVariants.{ReadEpoch, Validate, ChooseTid}

-- a transaction that has its TID: its worker's number, what it read and what it writes by record, the epoch that it
-- read, and the TID
pub record Transaction : Type 0 where
  pub worker : ℕ
  pub reads : List (ℕ × Version)
  pub writes : List (ℕ × Option (List ℕ))
  pub epoch : ℕ
  pub tid : ℕ

-- a turn: of a worker that has read this epoch and hasn't decided yet, or of a transaction
pub data Place : Type 0 where
  Waiting : (worker epoch : ℕ) → Place
  Decided : (transaction : Transaction) → Place

-- worker w's transaction, once it has chosen its TID
abbrev pub transaction_of : ℕ → Worker → Transaction
transaction_of w x = record { worker = w; reads = x.validated; writes = x.locks; epoch = x.epoch; tid = x.last }

-- the turns, newest first, once worker w has decided on this transaction: it stands where w waited
abbrev pub decide : ℕ → Transaction → List Place → List Place
decide w t [] = []
decide w t (Waiting k e ∷ turns) = if k == w then Decided t ∷ turns else Waiting k e ∷ decide w t turns
decide w t (Decided u ∷ turns) = Decided u ∷ decide w t turns

-- and once it has failed: it waits no more
abbrev pub give_up : ℕ → List Place → List Place
give_up w [] = []
give_up w (Waiting k e ∷ turns) = if k == w then give_up w turns else Waiting k e ∷ give_up w turns
give_up w (Decided u ∷ turns) = Decided u ∷ give_up w turns

-- the turns once worker w stands as x, in this phase
abbrev pub settle : Phase → ℕ → Worker → List Place → List Place
settle Chosen w x turns = decide w (transaction_of w x) turns
settle Failed w x turns = give_up w turns
settle _ w x turns = turns

-- the turns after_event an event, newest first: a turn begins where a worker reads the epoch, and is settled where it
-- fails or chooses its TID
abbrev pub turns_after : Machine → Event → List Place → List Place
turns_after m (ReadEpoch w) turns = Waiting w m.epoch ∷ turns
turns_after m (Validate w r) turns = settle (worker (after_event m (Validate w r)) w).phase w
    (worker (after_event m (Validate w r)) w) turns
turns_after m (ChooseTid w) turns = settle (worker (after_event m (ChooseTid w)) w).phase w
    (worker (after_event m (ChooseTid w)) w) turns
turns_after m _ turns = turns

-- the transactions among the turns, newest first
abbrev pub decided : List Place → List Transaction
decided [] = []
decided (Waiting w e ∷ turns) = decided turns
decided (Decided t ∷ turns) = t ∷ decided turns

-- worker w is among those that wait
abbrev pub IsWaiting : ℕ → List Place → Type 0
IsWaiting w [] = ⊥
IsWaiting w (Waiting k e ∷ turns) = (k ≡ w) ⊎ IsWaiting w turns
IsWaiting w (Decided t ∷ turns) = IsWaiting w turns

-- a run: where the machine stands, and the turns so far
pub record Run : Type 0 where
  pub machine : Machine
  pub turns : List Place

-- the run after_event these events, oldest first
abbrev pub run_on : Run → List Event → Run
run_on r [] = r
run_on r (event ∷ events) =
    run_on (record { machine = after_event r.machine event; turns = turns_after r.machine event r.turns }) events

abbrev pub run : Machine → List Event → Run
run opening events = run_on (record { machine = opening; turns = [] }) events
