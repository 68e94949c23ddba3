-- The machine as a struct that steps: how it is made, and what a step answers.
use Rattle.std.specs.Prelude.{◌≡◌, ◌⊎◌, ℕ, Some, replicate, Result, MatchResult}
use Rattle.money.specs.Payload.{no_payload}
use Rattle.money.specs.declared.refusal.Refusal.{Refusal}
use Rattle.money.specs.declared.refusal.Refusal.TheVariants.{OutOfMemory, BadInput}
use Rattle.commit.specs.Machine.{Machine, idle_worker}
use Rattle.commit.specs.Events.{IsEnabled, after_event}
use Rattle.commit.specs.declared.event.Event.{Event}

-- the machine that is made of so many records and workers: each record is the population's and holds words 0, the
-- workers are idle, and the epoch is 1
abbrev pub fresh : ℕ → ℕ → Machine
fresh records workers = record {
  records = replicate records (record { word = 2; value = Some no_payload });
  workers = replicate workers idle_worker;
  epoch = 1;
  finished = 0;
}

-- a refused event changes nothing: it may not happen here, or it may and there was no memory for it
abbrev pub IsRefusedEvent : Machine → Event → Refusal → Machine → Type 0
IsRefusedEvent m event refusal n = (n ≡ m)
    × (((refusal ≡ BadInput) × (¬ (IsEnabled m event))) ⊎ ((refusal ≡ OutOfMemory) × IsEnabled m event))

-- what a step from m to n answers: Ok exactly where the event may happen and there is memory for it, and then n is the
-- machine after_event it
abbrev pub IsStep : Machine → Event → Result (Unit {0}) Refusal → Machine → Type 0
IsStep m event result n = MatchResult result (λ _. IsEnabled m event × (n ≡ after_event m event))
    (λ refusal. IsRefusedEvent m event refusal n)
