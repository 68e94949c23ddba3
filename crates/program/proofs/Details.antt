-- What may be told behind a refusal's line.
use Rattle.std.proofs.Common.{List, ℕ, [], ◌++◌, Option, Some, None, codes, refl}
use Rattle.std.specs.declared.io.Error.{Error}
use Rattle.money.specs.declared.refusal.Refusal.{Refusal}
use Rattle.money.specs.declared.refusal.Refusal.TheVariants.{OutOfMemory, Device, EpochFull, Damaged, Gap, BadScale}
use Rattle.tables.specs.Sizes.{Sizes}
use Rattle.log_flaws.specs.Texts.{flaw_line}
use Rattle.program_options.specs.declared.asked.Subcommand.{Subcommand}
use Rattle.program_recovery.specs.Flaws.{misnumbered_text}
use Rattle.program.specs.Info.{IsPlainDetail}
use Rattle.program.specs.Memory.{memory_line}
use Rattle.program_files.specs.Causes.{CauseView, Unusable, Flawed, Older, Amiss, Unsound, Unlogged, InLastEpoch, reason_of, trouble_of}
use Rattle.program.specs.Detail.{IsCauseLine, IsDetail, IsReasonTold, older_line, scale_line, unsound_text}

some_line : (what : List ℕ) (reason : Option Error) → (line : List ℕ) × IsReasonTold what reason line
some_line what (Some error) = (what ++ (codes ": " ++ ([] ++ codes "\n")), ([], refl))
some_line what None = (what ++ codes "\n", refl)

some_cause : (known : Option CauseView) → (line : List ℕ) × IsCauseLine known line
some_cause (Some (Unusable path trouble)) = some_line (path ++ (codes ": " ++ trouble_of trouble)) (reason_of trouble)
some_cause (Some (Flawed path flaw)) = (flaw_line path flaw ++ codes "\n", refl)
some_cause (Some (Older path version)) = (older_line path version, refl)
some_cause (Some (Amiss gap)) = (misnumbered_text gap ++ codes "\n", refl)
some_cause (Some (Unsound beyond)) = (unsound_text beyond ++ codes "\n", refl)
some_cause (Some (Unlogged path commits)) = (_, refl)
some_cause (Some (InLastEpoch path commits)) = (_, refl)
some_cause None = ([], refl)

-- for each refusal there is something to be told
pub some_detail : (c : Subcommand) (s : Sizes) (known : Option CauseView) (input output : Option Error) (refusal : Refusal)
    → (detail : List ℕ) × IsDetail c s known input output refusal detail
some_detail c s known input output BadScale = (scale_line s, refl)
some_detail c s known (Some error) output Device = some_line (codes "standard input") (Some error)
some_detail c s known None (Some error) Device = some_line (codes "standard output") (Some error)
some_detail c s known None None Device = some_cause known
some_detail c s known input output EpochFull = some_cause known
some_detail c s known input output Damaged = some_cause known
some_detail c s known input output Gap = some_cause known
some_detail c s (Some cause) input output OutOfMemory = some_cause (Some cause)
some_detail c s None input output OutOfMemory = (memory_line c s, λ lawful. refl)
some_detail c s known input output _ = ([], refl)

-- and where no scale was asked for
pub some_plain_detail : (known : Option CauseView) (input output : Option Error) (refusal : Refusal)
    → (detail : List ℕ) × IsPlainDetail known input output refusal detail
some_plain_detail known (Some error) output Device = some_line (codes "standard input") (Some error)
some_plain_detail known None (Some error) Device = some_line (codes "standard output") (Some error)
some_plain_detail known None None Device = some_cause known
some_plain_detail known input output Damaged = some_cause known
some_plain_detail known input output _ = ([], refl)
