-- What a run of the program comes to: from its words and its input to its output, its errors and its exit status.
use Rattle.std.specs.Prelude.{◌≡◌, ◌≢◌, ◌⊎◌, ◌++◌, ℕ, Bool, false, List, [], Option, None, MatchBool}
use Rattle.std.specs.Io.KnownBytes.{Appends}
use Rattle.std.specs.declared.io.Error.{Error as IoError}
use Rattle.clap.specs.Values.{kind_of}
use Rattle.clap.specs.declared.error.Error.{Error}
use Rattle.clap.specs.declared.error.kind.ErrorKind.TheVariants.{DisplayVersion}
use Rattle.money.specs.declared.refusal.Refusal.{Refusal}
use Rattle.money.specs.declared.refusal.Refusal.TheVariants.{OutOfMemory, BadInput, Device, BadScale}
use Rattle.tables.specs.Sizes.{Sizes, IsScale, sizes}
use Rattle.tables.specs.Database.{Database}
use Rattle.conditions.specs.Report.{IsGood}
use Rattle.conditions.specs.declared.report.Report.{Report}
use Rattle.book.specs.Done.{Done}
use Rattle.program_script.specs.Written.{HasTooManyLines, IsWhole, IsBeginning}
use Rattle.program_options.specs.CommandLine.{IsAskedBy, IsInfoAskedBy, IsOptionsRefusal, IsVersionAskedBy}
use Rattle.program_options.specs.declared.asked.InfoOptions.{InfoOptions}
use Rattle.program_options.specs.declared.asked.Options.{Options}
use Rattle.program_options.specs.declared.asked.RunOptions.{RunOptions}
use Rattle.program_options.specs.declared.asked.Subcommand.{Subcommand}
use Rattle.program_options.specs.declared.asked.Subcommand.TheVariants.{Script, Run, Recover, Check}
use Rattle.program_run.specs.Told.{IsRanDurably}
use Rattle.program_recovery.specs.Told.{Shows, Reports}
use Rattle.program.specs.Status.{IsRefusedStatus, refusal_line, WritesBeginning}
use Rattle.program_files.specs.Causes.{CauseView}
use Rattle.program.specs.Detail.{IsDetail}
use Rattle.program.specs.Info.{IsInfoTold, IsPlainDetail, IsUntold, first_path, version_line}
use Rattle.program_files.specs.Logs.{IsShownWith, IsCheckedWith, IsRefusedWith}
use Rattle.program_live.specs.Population.{IsPopulation}
use Rattle.program_live.specs.Live.{IsUnfinishedRun}
use Rattle.program_live.specs.Resumed.{IsResumedDurably, IsUnfinishedResumedRun}

-- the scale that options ask for
abbrev pub scale_of : Options → Sizes
scale_of o = sizes o.warehouses o.districts o.customers o.items o.orders o.commits

-- the script of these bytes was answered to its end from these tables on, and this is its report
pub record IsAnswered (t0 : Database) (bytes : List ℕ) (old new : Option (List ℕ)) (report : Report) : Type 0 where
  pub text : List ℕ
  pub dones : List Done
  pub wrote : Appends old new text
  pub whole : IsWhole t0 bytes text report dones

-- or it was refused, when a beginning of its text was written: for want of memory, for having more lines than a script
-- may have, or where a device failed
pub record IsBrokenOff (t0 : Database) (bytes : List ℕ) (old new : Option (List ℕ)) (refusal : Refusal) : Type 0 where
  pub front : List ℕ
  pub cause : (refusal ≡ OutOfMemory) ⊎ ((refusal ≡ BadInput) × HasTooManyLines bytes) ⊎ (refusal ≡ Device)
  pub wrote : Appends old new front
  pub beginning : IsBeginning t0 bytes front

-- terminals ran, from these first tables on, or from what log files hold that were there, and each commit was acknowledged
abbrev pub IsRunAsAsked : Database → ℕ → RunOptions → Option (List ℕ) → Option (List ℕ) → Report → Type 0
IsRunAsAsked t0 seed r old new report =
    MatchBool r.resume (IsResumedDurably r t0 seed old new report) (IsRanDurably 0 t0 r.terminals r.count old new report)

-- or that was refused, of which this is known
abbrev pub IsUnfinishedAsAsked : Database → ℕ → RunOptions → Option (List ℕ) → Option (List ℕ) → Refusal → Option CauseView
    → Type 0
IsUnfinishedAsAsked t0 seed r old new refusal known = MatchBool r.resume (IsUnfinishedResumedRun r t0 seed old new refusal known)
    (IsUnfinishedRun r t0 old new refusal known)

-- a subcommand was done, over a population of these tables and this seed, and it ends with this report
abbrev pub IsDone : Database → ℕ → Subcommand → List ℕ → Option (List ℕ) → Option (List ℕ) → Report → Type 0
IsDone t0 seed (Script s) bytes old new report = IsAnswered t0 bytes old new report
IsDone t0 seed (Run r) bytes old new report = IsRunAsAsked t0 seed r old new report
IsDone t0 seed (Recover r) bytes old new report = IsShownWith t0 seed old new report
IsDone t0 seed (Check r) bytes old new report = IsCheckedWith t0 seed old new report

-- or it was refused, of which this is known
abbrev pub IsFailed : Database → ℕ → Subcommand → List ℕ → Option (List ℕ) → Option (List ℕ) → Refusal
    → Option CauseView → Type 0
IsFailed t0 seed (Script s) bytes old new refusal known = IsBrokenOff t0 bytes old new refusal × (known ≡ None)
IsFailed t0 seed (Run r) bytes old new refusal known = IsUnfinishedAsAsked t0 seed r old new refusal known
IsFailed t0 seed (Recover r) bytes old new refusal known =
    IsRefusedWith r.files Shows t0 seed old new refusal known
IsFailed t0 seed (Check r) bytes old new refusal known =
    IsRefusedWith r.files Reports t0 seed old new refusal known

-- some text more was written, where this was asked for, and else none
abbrev pub IsHintedAsAsked : Bool → Option (List ℕ) → Option (List ℕ) → Type 0
IsHintedAsAsked asked old new = (text : List ℕ) × (asked ≡ false → text ≡ []) × Appends old new text

-- what is told beside the answers of a subcommand: of a script's refused lines alone, where that is asked for
abbrev pub IsToldBeside : Subcommand → Option (List ℕ) → Option (List ℕ) → Type 0
IsToldBeside (Script s) old new = IsHintedAsAsked s.explain old new
IsToldBeside (Run r) old new = Appends old new []
IsToldBeside (Recover r) old new = Appends old new []
IsToldBeside (Check r) old new = Appends old new []

-- what was asked for was done, over the population and at the scale that were asked for
pub record IsWholeRun (o : Options) (bytes : List ℕ) (old new : Option (List ℕ)) (report : Report) : Type 0 where
  pub lawful : IsScale (scale_of o)
  pub tables : Database
  pub population : IsPopulation o.population (scale_of o) tables
  pub done : IsDone tables o.population o.subcommand bytes old new report

-- it was refused: for its scale; for want of memory for the population; or later
pub data IsRefusedRun (o : Options) (bytes : List ℕ) (old new : Option (List ℕ)) (refusal : Refusal)
    (known : Option CauseView) : Type 0 where
  scale : ¬ IsScale (scale_of o) → refusal ≡ BadScale → known ≡ None → Appends old new []
      → IsRefusedRun o bytes old new refusal known
  memory : refusal ≡ OutOfMemory → known ≡ None → Appends old new []
      → IsRefusedRun o bytes old new refusal known
  begun : IsScale (scale_of o) → (tables : Database) → IsPopulation o.population (scale_of o) tables
      → IsFailed tables o.population o.subcommand bytes old new refusal known
      → IsRefusedRun o bytes old new refusal known

-- a run of the program, after which the last calls on its input and its output have these errors, where they failed:
-- its words' fault, or the help that they ask for, goes to the errors alone; what a subcommand writes goes to the
-- output, and so does the version, and a refusal's line to the errors, with a line behind it on what was wrong, and
-- what is told beside the answers in front of it
pub data IsRun (words : List (List ℕ)) (bytes : List ℕ) (output written errors told : Option (List ℕ))
    (in_error out_error : Option IoError) (status : ℕ) : Type 0 where
  version : IsVersionAskedBy words → Appends output written version_line → Appends errors told [] → status ≡ 0
      → IsRun words bytes output written errors told in_error out_error status
  unversioned : (detail : List ℕ) → IsVersionAskedBy words → WritesBeginning version_line output written
      → IsPlainDetail None in_error out_error Device detail → WritesBeginning (refusal_line Device ++ detail) errors told
      → status ≡ 1 → IsRun words bytes output written errors told in_error out_error status
  informed : (i : InfoOptions) → IsInfoAskedBy words i → IsInfoTold output written → Appends errors told [] → status ≡ 0
      → IsRun words bytes output written errors told in_error out_error status
  uninformed : (i : InfoOptions) (refusal : Refusal) (known : Option CauseView) (detail : List ℕ) → IsInfoAskedBy words i
      → IsUntold (first_path i) output written refusal known → IsPlainDetail known in_error out_error refusal detail
      → WritesBeginning (refusal_line refusal ++ detail) errors told → IsRefusedStatus refusal status
      → IsRun words bytes output written errors told in_error out_error status
  fault : (error : Error) (text : List ℕ) → IsOptionsRefusal words error → kind_of error ≢ DisplayVersion
      → Appends output written []
      → Appends errors told text → status ≡ 2
      → IsRun words bytes output written errors told in_error out_error status
  answered : (o : Options) (report : Report) → IsAskedBy words o → IsWholeRun o bytes output written report
      → IsToldBeside o.subcommand errors told → (IsGood report → status ≡ 0) → ((IsGood report → ⊥) → status ≡ 1)
      → IsRun words bytes output written errors told in_error out_error status
  refused : (o : Options) (refusal : Refusal) (known : Option CauseView) (detail : List ℕ) (between : Option (List ℕ))
      → IsAskedBy words o → IsRefusedRun o bytes output written refusal known
      → IsToldBeside o.subcommand errors between
      → IsDetail o.subcommand (scale_of o) known in_error out_error refusal detail
      → WritesBeginning (refusal_line refusal ++ detail) between told → IsRefusedStatus refusal status
      → IsRun words bytes output written errors told in_error out_error status
