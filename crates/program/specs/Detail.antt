-- What was wrong, in a line behind a refusal's.
use Rattle.std.specs.Prelude.{◌≡◌, ◌++◌, ◌&&◌, ℕ, Bool, List, [], Option, Some, None, codes, nat_le, if◌then◌else◌}
use Rattle.std.specs.Fmt.{decimal}
use Rattle.std.specs.declared.io.Error.{Error}
use Rattle.money.specs.declared.refusal.Refusal.{Refusal}
use Rattle.money.specs.declared.refusal.Refusal.TheVariants.{OutOfMemory, Device, EpochFull, Damaged, Gap, BadScale}
use Rattle.tables.specs.declared.limits.TheConstants.{MAX_WAREHOUSES, MAX_DISTRICTS, MIN_CUSTOMERS, MAX_CUSTOMERS}
use Rattle.tables.specs.declared.limits.TheConstants.{MIN_ITEMS, MAX_ITEMS, MAX_ORDERS, MAX_COMMITS}
use Rattle.tables.specs.Sizes.{Sizes, IsScale}
use Rattle.log_flaws.specs.Texts.{flaw_line}
use Rattle.program_options.specs.declared.asked.Subcommand.{Subcommand}
use Rattle.program_recovery.specs.Far.{beyond_text}
use Rattle.program_recovery.specs.Flaws.{misnumbered_text}
use Rattle.program_recovery.specs.declared.far.Beyond.{Beyond}
use Rattle.program_files.specs.Causes.{CauseView, Unusable, Flawed, Older, Amiss, Unsound, Unlogged, InLastEpoch}
use Rattle.program_files.specs.Causes.{reason_of, trouble_of}
use Rattle.program.specs.Memory.{memory_line}

-- `--orders is 9: it is to be from 10 (the customers) to 100000`, with a line feed. The note says whose number the
-- lower limit is
abbrev pub limit_line : List ℕ → ℕ → ℕ → List ℕ → ℕ → List ℕ
limit_line option number low note high =
    codes "--" ++ (option ++ (codes " is " ++ (decimal number ++ (codes ": it is to be from "
    ++ (decimal low ++ (note ++ (codes " to " ++ (decimal high ++ codes "\n"))))))))

-- a number is within its limits
abbrev pub is_in_limits : ℕ → ℕ → ℕ → Bool
is_in_limits low high n = nat_le low n && nat_le n high

-- the line on a number that is outside its limits, or else what comes later
abbrev pub limited : List ℕ → ℕ → ℕ → List ℕ → ℕ → List ℕ → List ℕ
limited option number low note high later =
    if is_in_limits low high number then later else limit_line option number low note high

-- the line on the first number of a scale that is outside its limits; none is of a lawful scale
abbrev pub scale_line : Sizes → List ℕ
scale_line s =
    limited (codes "warehouses") s.warehouses 1 [] MAX_WAREHOUSES
    (limited (codes "districts") s.districts 1 [] MAX_DISTRICTS
    (limited (codes "customers") s.customers MIN_CUSTOMERS [] MAX_CUSTOMERS
    (limited (codes "items") s.items MIN_ITEMS [] MAX_ITEMS
    (limited (codes "orders") s.orders s.customers (codes " (the customers)") MAX_ORDERS
    (limited (codes "commits") s.commits 1 [] MAX_COMMITS [])))))

-- what couldn't be done, and why, where that is the system's to say
abbrev pub IsReasonTold : List ℕ → Option Error → List ℕ → Type 0
IsReasonTold what (Some error) line = (reason : List ℕ) × (line ≡ what ++ (codes ": " ++ (reason ++ codes "\n")))
IsReasonTold what None line = line ≡ what ++ codes "\n"

-- what is told of the file of this path that is of an older version
abbrev pub older_line : List ℕ → ℕ → List ℕ
older_line path version = path ++ (codes ": it is of version "
    ++ (decimal version ++ codes ", which can be recovered and checked, not gone on with\n"))

-- and of files that recover to what no commits can have made
abbrev pub unsound_text : Option Beyond → List ℕ
unsound_text (Some beyond) = beyond_text beyond
unsound_text None = codes "what the log files recover to no commits can have made: `tpcc check` tells more"

-- what is told of commits that aren't durable, since the logger of the file of this path had no memory for its last batch,
-- or since it can have no mark behind the last epoch
abbrev pub unlogged_line : List ℕ → ℕ → List ℕ
unlogged_line path commits = path ++ (codes ": no memory was left for its last batch: "
    ++ (decimal commits ++ codes " commits aren't durable\n"))

abbrev pub last_epoch_line : List ℕ → ℕ → List ℕ
last_epoch_line path commits = path ++ (codes ": epoch 4294967295 is the last one, and is never durable: "
    ++ (decimal commits ++ codes " commits of it are lost\n"))

-- the line on it, if it is known
abbrev pub IsCauseLine : Option CauseView → List ℕ → Type 0
IsCauseLine (Some (Unusable path trouble)) line = IsReasonTold (path ++ (codes ": " ++ trouble_of trouble)) (reason_of trouble) line
IsCauseLine (Some (Flawed path flaw)) line = line ≡ flaw_line path flaw ++ codes "\n"
IsCauseLine (Some (Older path version)) line = line ≡ older_line path version
IsCauseLine (Some (Amiss gap)) line = line ≡ misnumbered_text gap ++ codes "\n"
IsCauseLine (Some (Unsound beyond)) line = line ≡ unsound_text beyond ++ codes "\n"
IsCauseLine (Some (Unlogged path commits)) line = line ≡ unlogged_line path commits
IsCauseLine (Some (InLastEpoch path commits)) line = line ≡ last_epoch_line path commits
IsCauseLine None line = line ≡ []

-- the line on the stream on which the last call failed, by the errors of the last calls on the input and on the output,
-- or else on what is known
abbrev pub IsDeviceLine : Option CauseView → Option Error → Option Error → List ℕ → Type 0
IsDeviceLine _ (Some error) _ line = IsReasonTold (codes "standard input") (Some error) line
IsDeviceLine _ None (Some error) line = IsReasonTold (codes "standard output") (Some error) line
IsDeviceLine known None None line = IsCauseLine known line

-- the line on want of memory: what is known of why, or else, at a lawful scale, how much a subcommand takes
abbrev pub IsMemoryDetail : Subcommand → Sizes → Option CauseView → List ℕ → Type 0
IsMemoryDetail c s (Some cause) line = IsCauseLine (Some cause) line
IsMemoryDetail c s None line = IsScale s → line ≡ memory_line c s

-- what is told behind a refusal's line, of this subcommand over this scale
abbrev pub IsDetail : Subcommand → Sizes → Option CauseView → Option Error → Option Error → Refusal → List ℕ → Type 0
IsDetail c s known input output BadScale line = line ≡ scale_line s
IsDetail c s known input output Device line = IsDeviceLine known input output line
IsDetail c s known input output EpochFull line = IsCauseLine known line
IsDetail c s known input output Damaged line = IsCauseLine known line
IsDetail c s known input output Gap line = IsCauseLine known line
IsDetail c s known input output OutOfMemory line = IsMemoryDetail c s known line
IsDetail c s known input output _ line = line ≡ []
