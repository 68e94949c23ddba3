-- What is told of a run.
use Rattle.std.specs.Prelude.{◌≡◌, ◌≢◌, ◌⊎◌, ◌++◌, ◌-◌, ◌<◌, ◌≤◌, ℕ, List, [], Option, None, IfSome, codes, length}
use Rattle.std.specs.Fmt.{decimal}
use Rattle.std.specs.Io.KnownBytes.{Appends}
use Rattle.money.specs.declared.refusal.Refusal.{Refusal}
use Rattle.money.specs.declared.refusal.Refusal.TheVariants.{OutOfMemory, Device, EpochFull}
use Rattle.tables.specs.Database.{Database}
use Rattle.conditions.specs.Report.{IsReportOf, IsGood}
use Rattle.conditions.specs.declared.report.Report.{Report}
use Rattle.program_script_text.specs.Report.{verdicts}
use Rattle.book.specs.History.{replay}
use Rattle.book.specs.declared.entry.Entry.{Entry}
use Rattle.run_threads.specs.History.{IsMadeBy}
use Rattle.run_threads.specs.Tally.{IsCounted}
use Rattle.run_threads.specs.declared.tally.Tally.{Tally}
use Rattle.run_threads.specs.declared.counts.Counts.{Counts}
use Rattle.program_run.specs.declared.driving.Driven.{Driven}
use Rattle.program_run.specs.declared.driving.Broken.{Broken}
use Rattle.program_run.specs.declared.driving.Broken.TheVariants.{Unrun, Untold}

-- the lines of what came of the inputs
abbrev pub inputs_lines : Counts → List ℕ
inputs_lines c = codes "commits " ++ (decimal c.commits ++ (codes "\nrollbacks " ++ (decimal c.rollbacks
    ++ (codes "\ngaveup " ++ (decimal c.gave_up ++ (codes "\nrefused " ++ (decimal c.refused ++ codes "\n")))))))

-- the lines of what is durable, and of the replies that were released for that
abbrev pub replies_lines : Counts → List ℕ
replies_lines c = codes "durable " ++ (decimal c.durable ++ (codes "\nacknowledged " ++ (decimal c.acknowledged
    ++ codes "\n")))

-- the text of a run: those lines, and the condition lines of a report
abbrev pub run_text : Counts → Report → List ℕ
run_text c report = (inputs_lines c ++ replies_lines c) ++ verdicts report

-- this is the report of these committed tables, all conditions hold, and the text with these counts was written
pub record IsTold (committed : Database) (c : Counts) (old new : Option (List ℕ)) (report : Report) : Type 0 where
  pub exact : IsReportOf committed report
  pub good : IsGood report
  pub wrote : Appends old new (run_text c report)

-- nothing was written for want of memory, or a beginning of such a text
pub data IsCutShort (committed : Database) (c : Counts) (old new : Option (List ℕ)) (refusal : Refusal) : Type 0 where
  unreported : refusal ≡ OutOfMemory → Appends old new [] → IsCutShort committed c old new refusal
  begun : (report : Report) (front rest : List ℕ) → IsReportOf committed report → front ++ rest ≡ run_text c report
      → Appends old new front → (refusal ≡ OutOfMemory) ⊎ (refusal ≡ Device) → IsCutShort committed c old new refusal

-- of so many inputs at each of so many terminals, so much came of each terminal's, and these are the counts of that and
-- of the history that they have made from these tables on, which so many past commits have made
pub record AreCounts (past : ℕ) (t0 : Database) (terminals inputs : ℕ) (history : List Entry) (tallies : List Tally)
    (c : Counts) : Type 0 where
  pub made : IsMadeBy terminals past t0 history
  pub commits : c.commits ≡ length history
  pub counted : IsCounted terminals inputs tallies c

-- so many inputs ran at each of so many terminals from these tables on, which so many past commits have made, and what
-- came of them was told
pub record IsRan (past : ℕ) (t0 : Database) (terminals inputs : ℕ) (old new : Option (List ℕ)) (report : Report)
    : Type 0 where
  pub history : List Entry
  pub tallies : List Tally
  pub counts : Counts
  pub counted : AreCounts past t0 terminals inputs history tallies counts
  pub told : IsTold (replay t0 history) counts old new report

-- and each commit was acknowledged
abbrev pub IsRanDurably : ℕ → Database → ℕ → ℕ → Option (List ℕ) → Option (List ℕ) → Report → Type 0
IsRanDurably past t0 terminals inputs old new report =
    (ran : IsRan past t0 terminals inputs old new report) × (ran.counts.commits ≤ ran.counts.acknowledged)

-- why a run of these counts falls short, and how many of its commits weren't acknowledged: a logger's device failed; or
-- some weren't, and a logger had no memory for its last batch, or the last epoch is behind no mark
pub record IsShortBy (c : Counts) (refusal : Refusal) (lost : ℕ) : Type 0 where
  pub why : (refusal ≡ Device) ⊎ ((c.acknowledged < c.commits) × ((refusal ≡ OutOfMemory) ⊎ (refusal ≡ EpochFull)))
  pub lost_is : lost ≡ c.commits - c.acknowledged

-- so many inputs ran, and what came of them was told; each commit was acknowledged, unless something fell short
pub record IsDriven (past : ℕ) (t0 : Database) (terminals inputs : ℕ) (old new : Option (List ℕ)) (driven : Driven)
    : Type 0 where
  pub ran : IsRan past t0 terminals inputs old new driven.report
  pub acknowledged : driven.shortfall ≡ None → ran.counts.commits ≤ ran.counts.acknowledged
  pub short : IfSome driven.shortfall (λ shortfall. IsShortBy ran.counts shortfall.refusal shortfall.lost)

-- it was refused, for want of memory or by a device: nothing was written; or all inputs ran, and a beginning of the text
-- was written
pub data IsBroken (past : ℕ) (t0 : Database) (terminals inputs : ℕ) (old new : Option (List ℕ)) (refusal : Refusal)
    : Type 0 where
  unrun : ((refusal ≢ OutOfMemory) → refusal ≡ Device) → Appends old new []
      → IsBroken past t0 terminals inputs old new refusal
  untold : (history : List Entry) (tallies : List Tally) (c : Counts)
      → AreCounts past t0 terminals inputs history tallies c
      → IsCutShort (replay t0 history) c old new refusal → IsBroken past t0 terminals inputs old new refusal

-- by what it was refused
abbrev pub refusal_in : Broken → Refusal
refusal_in (Unrun refusal) = refusal
refusal_in (Untold refusal) = refusal

-- it was refused: before any input ran, or when what came of all inputs was to be told
pub record IsBrokenBy (past : ℕ) (t0 : Database) (terminals inputs : ℕ) (old new : Option (List ℕ)) (broken : Broken)
    : Type 0 where
  pub is : IsBroken past t0 terminals inputs old new (refusal_in broken)
  pub unrun : (refusal : Refusal) → broken ≡ Unrun refusal → Appends old new []
