-- What came of a run's inputs, by the run's own numbers and by those that were asked for.
use Rattle.std.proofs.Common.{◌≡◌, ℕ, List, length, subst}
use Rattle.tables.specs.Database.{Database}
use Rattle.book.specs.declared.entry.Entry.{Entry}
use Rattle.run_threads.specs.History.{IsMadeBy}
use Rattle.run_threads.specs.Tally.{IsCounted}
use Rattle.run_threads.specs.declared.tally.Tally.{Tally}
use Rattle.program_run.specs.Told.{AreCounts}
use Rattle.run_threads.specs.declared.counts.Counts.{Counts}

pub counts_are : (t0 : Database) (parts terminals past inputs : ℕ) (history : List Entry) (tallies : List Tally) (c : Counts)
    → parts ≡ terminals → IsMadeBy parts past t0 history → c.commits ≡ length history
    → IsCounted parts inputs tallies c → AreCounts past t0 terminals inputs history tallies c
counts_are t0 parts terminals past inputs history tallies c same made commits counted = record {
  made = subst (λ (n : ℕ). IsMadeBy n past t0 history) same made;
  commits = commits;
  counted = subst (λ (n : ℕ). IsCounted n inputs tallies c) same counted;
}
