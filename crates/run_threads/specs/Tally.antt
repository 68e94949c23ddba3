-- What came of inputs, counted.
use Rattle.std.specs.Prelude.{◌≡◌, ℕ, ◌+◌, List, length, All, Result, Ok, Err}
use Rattle.std.specs.List.{sum_by}
use Rattle.money.specs.declared.refusal.Refusal.{Refusal}
use Rattle.money.specs.declared.refusal.Refusal.TheVariants.{ItemNotValid, GaveUp}
use Rattle.run_threads.specs.declared.tally.Tally.{Tally}
use Rattle.run_threads.specs.declared.counts.Counts.{Counts}

-- how many of a terminal's inputs have committed, were rolled back, given up, and refused; and all of them
abbrev pub commits_in : Tally → ℕ
commits_in t = t.commits

abbrev pub rollbacks_in : Tally → ℕ
rollbacks_in t = t.rollbacks

abbrev pub give_ups_in : Tally → ℕ
give_ups_in t = t.gave_up

abbrev pub refusals_in : Tally → ℕ
refusals_in t = t.refused

abbrev pub inputs_in : Tally → ℕ
inputs_in t = t.commits + t.rollbacks + t.gave_up + t.refused

-- before the first
abbrev pub nothing_done : Tally
nothing_done = record { commits = 0; rollbacks = 0; gave_up = 0; refused = 0 }

-- the counts after one outcome more
abbrev pub with_outcome : Result ℕ Refusal → Tally → Tally
with_outcome (Ok number) t = record t { commits = t.commits + 1 }
with_outcome (Err (ItemNotValid item)) t = record t { rollbacks = t.rollbacks + 1 }
with_outcome (Err GaveUp) t = record t { gave_up = t.gave_up + 1 }
with_outcome (Err _) t = record t { refused = t.refused + 1 }

-- the counts are the sums over terminals of which so much came
pub record AreTallySums (tallies : List Tally) (c : Counts) : Type 0 where
  pub committed_are : c.commits ≡ sum_by commits_in tallies
  pub rolled_back_are : c.rollbacks ≡ sum_by rollbacks_in tallies
  pub given_up_are : c.gave_up ≡ sum_by give_ups_in tallies
  pub refused_are : c.refused ≡ sum_by refusals_in tallies

-- what came of so many inputs at each of so many terminals, and the sums of that
pub record IsCounted (terminals inputs : ℕ) (tallies : List Tally) (c : Counts) : Type 0 where
  pub terminals_are : length tallies ≡ terminals
  pub all_inputs : All (λ t. inputs_in t ≡ inputs) tallies
  pub sums : AreTallySums tallies c
