-- What the words of a command line ask for, as clap reads them for the program's command.
use Rattle.std.specs.Prelude.{◌≡◌, ◌<◌, ◌≤◌, ◌^◌, ℕ, pos, true, List, [], ◌∷◌, Option, false, Some, None, codes}
use Rattle.std.specs.Prelude.{Bool, MatchBool, drop, fold, string_bytes}
use Rattle.std.specs.Option.{option_or}
use Rattle.std.specs.Str.Parse.{IsNumeral, digits_value, without_leading_plus}
use Rattle.clap.specs.Walk.{Row, Rule, Text, first_of, nothing_held, one_of, settled, stop_after, walk}
use Rattle.clap.specs.Simple.{App, app_of, built, built_leaf, inherited, names_of, new_app, new_rule}
use Rattle.clap.specs.Simple.{with_rule, with_subcommand}
use Rattle.clap.specs.Kinds.{HasKind, IsAmong}
use Rattle.clap.specs.Faults.{fault_of}
use Rattle.clap.specs.declared.builder.action.ArgAction.TheVariants.{SetTrue}
use Rattle.clap.specs.declared.builder.command.Command.{Command}
use Rattle.clap.specs.declared.builder.command.Command.TheViews.{out-Command}
use Rattle.clap.specs.declared.builder.value_parser.ValueParser.{ValueParser}
use Rattle.clap.specs.declared.builder.value_parser.ValueParser.TheVariants.{NonEmptyString, Signed, Unsigned}
use Rattle.clap.specs.declared.error.Error.{Error}
use Rattle.clap.specs.declared.error.kind.ErrorKind.TheVariants.{DisplayVersion, InvalidValue}
use Rattle.tables.specs.declared.limits.TheConstants.{MAX_LOGGERS, MAX_TERMINALS}
use Rattle.program_options.specs.declared.asked.TheConstants.{MAX_INPUTS, MAX_RECOVERY_THREADS}
use Rattle.program_options.specs.declared.asked.Asked.{Asked}
use Rattle.program_options.specs.declared.asked.Asked.TheVariants.{OnTables, Info}
use Rattle.program_options.specs.declared.asked.InfoOptions.{InfoOptions}
use Rattle.program_options.specs.declared.asked.LogFiles.{LogFiles}
use Rattle.program_options.specs.declared.asked.Options.{Options}
use Rattle.program_options.specs.declared.asked.RecoverOptions.{RecoverOptions}
use Rattle.program_options.specs.declared.asked.RunOptions.{RunOptions}
use Rattle.program_options.specs.declared.asked.ScriptOptions.{ScriptOptions}
use Rattle.program_options.specs.declared.asked.Subcommand.{Subcommand}
use Rattle.program_options.specs.declared.asked.Subcommand.TheVariants.{Script, Run, Recover, Check}

-- `--NAME VALUE`, with the default that stands for it and the parser that its value passes
abbrev pub option : Text → Text → ValueParser → Rule
option name default parser = record (new_rule name) {
  long = Some name;
  value_names = 1;
  defaults = default ∷ [];
  parser = Some parser;
}

-- none of the command's arguments is global
abbrev pub IsLocal : Command → Type 0
IsLocal command = (out-Command command).has_globals ≡ false

-- clap reads the command as this one, and none of its arguments is global
abbrev pub HasApp : App → Command → Type 0
HasApp app command = (app_of command ≡ app) × IsLocal command

-- an option whose value is a `u32`
abbrev pub number_option : Text → Text → Rule
number_option name default = option name default (Signed (pos 0) (pos 4294967295))

-- an option whose value is a `u64`
abbrev pub seed_option : Text → Text → Rule
seed_option name default = option name default (Unsigned 0 18446744073709551615)

-- the options of the tables that a run begins with: their scale and their population
abbrev pub table_options : List Rule
table_options = number_option (codes "warehouses") (codes "1")
    ∷ number_option (codes "districts") (codes "10")
    ∷ number_option (codes "customers") (codes "100")
    ∷ number_option (codes "items") (codes "1000")
    ∷ number_option (codes "orders") (codes "3000")
    ∷ number_option (codes "commits") (codes "100000")
    ∷ seed_option (codes "population") (codes "0")
    ∷ []

-- a command with them
abbrev pub with_tables : App → App
with_tables app = fold with_rule app table_options

-- the folder of log files, which must be given, and not empty
abbrev pub folder_option : Rule
folder_option = record (new_rule (codes "logs")) {
  long = Some (codes "logs");
  value_names = 1;
  required = true;
  parser = Some NonEmptyString;
}

-- `--NAME VALUE`, whose value is a `u32` within these limits
abbrev pub limited_option : Text → ℕ → ℕ → Rule
limited_option name low high = record (new_rule name) {
  long = Some name;
  value_names = 1;
  parser = Some (Signed (pos low) (pos high));
}

-- `--NAME`, which stands or doesn't
abbrev pub flag_option : Text → Rule
flag_option name = record (new_rule name) { long = Some name; action = Some SetTrue }

-- the number of their loggers
abbrev pub loggers_option : Rule
loggers_option = limited_option (codes "loggers") 1 MAX_LOGGERS

-- the number of threads that read them
abbrev pub threads_option : Rule
threads_option = limited_option (codes "threads") 1 MAX_RECOVERY_THREADS

-- the options of log files that are there, of which folder and loggers must be given
abbrev pub log_options : List Rule
log_options = folder_option
    ∷ record loggers_option { required = true }
    ∷ record threads_option { defaults = codes "1" ∷ [] }
    ∷ []

-- a command with them
abbrev pub with_logs : App → App
with_logs app = fold with_rule app log_options

-- the options of a run: its log files, its terminals, their inputs, and whether it goes on from files that are there
abbrev pub run_options : List Rule
run_options = folder_option
    ∷ record loggers_option { defaults = codes "2" ∷ [] }
    ∷ record (limited_option (codes "terminals") 1 MAX_TERMINALS) { defaults = codes "4" ∷ [] }
    ∷ record (limited_option (codes "count") 0 MAX_INPUTS) { defaults = codes "100" ∷ [] }
    ∷ seed_option (codes "seed") (codes "1")
    ∷ flag_option (codes "resume")
    ∷ []

-- a command with them
abbrev pub with_run : App → App
with_run app = fold with_rule app run_options

-- the subcommand `script`
abbrev pub script_app : App
script_app = with_tables (with_rule (new_app (codes "script")) (flag_option (codes "explain")))

-- the subcommand `run`
abbrev pub run_app : App
run_app = with_tables (with_run (new_app (codes "run")))

-- a subcommand of this name that reads log files, as `recover` and `check`
abbrev pub on_logs_app : Text → App
on_logs_app name = with_tables (with_logs (new_app name))

-- the subcommand `info`
abbrev pub info_app : App
info_app = with_rule (new_app (codes "info")) folder_option

-- `tpcc` before its subcommand is added
abbrev pub bare_app : App
bare_app = record (new_app (codes "tpcc")) {
  top = record (new_app (codes "tpcc")).top {
    has_version = true;
    subcommand_required = true;
    arg_required_else_help = true;
  };
}

-- what a subcommand is called
abbrev pub subcommand_name : Subcommand → Text
subcommand_name (Script options) = codes "script"
subcommand_name (Run options) = codes "run"
subcommand_name (Recover options) = codes "recover"
subcommand_name (Check options) = codes "check"

-- its command
abbrev pub app_for : Subcommand → App
app_for (Script options) = script_app
app_for (Run options) = run_app
app_for (Recover options) = on_logs_app (codes "recover")
app_for (Check options) = on_logs_app (codes "check")

-- with the subcommands that execute transactions
abbrev pub executing_app : App
executing_app = with_subcommand (with_subcommand bare_app script_app.top) run_app.top

-- the program's command, as clap reads it
abbrev pub program_app : App
program_app = with_subcommand (with_subcommand (with_subcommand executing_app (on_logs_app (codes "recover")).top)
    (on_logs_app (codes "check")).top) info_app.top

-- the subcommand that the words of the program name, and the words after it
abbrev pub subcommand_words : List Text → Option (Text × List Text)
subcommand_words words =
    stop_after (built program_app).top.rules (names_of (built program_app)) (drop 1 words)

-- a subcommand's arguments as clap builds them, the last of which is `--help`
abbrev pub rules_in : App → List Rule
rules_in app = (built_leaf (inherited program_app.top app.top)).rules

abbrev pub rules_for : Subcommand → List Rule
rules_for s = rules_in (app_for s)

-- what the words after a subcommand give for its arguments, before any default
abbrev pub given_rows : List Rule → List Text → List Row
given_rows rules words = (settled rules (walk rules [] nothing_held words).held).rows

-- the text that stands for an option of this name and default: the one that the words give, or the
-- default
abbrev pub text_for : List Row → Text → Text → Option Text
text_for rows name default = option_or (one_of name rows) (Some default)

-- the text that stands for it in the matches of a subcommand, which hold the defaults
abbrev pub text_in : List Row → Text → Text → Option Text
text_in rows name default = one_of name rows

-- a text is there, and writes the number, which has so many bits
abbrev pub WritesNumber : ℕ → Option Text → ℕ → Type 0
WritesNumber bits None n = ⊥
WritesNumber bits (Some text) n = IsNumeral 10 (without_leading_plus text)
    × (n ≡ digits_value 10 (without_leading_plus text)) × (n < 2 ^ bits)

-- a text is there, and is the word `true` where a flag stands, else `false`
abbrev pub WritesFlag : Option Text → Bool → Type 0
WritesFlag None flag = ⊥
WritesFlag (Some text) flag = MatchBool flag (text ≡ codes "true") (text ≡ codes "false")

-- and the number is within these limits
abbrev pub WritesWithin : ℕ → ℕ → Option Text → ℕ → Type 0
WritesWithin low high text n = WritesNumber 32 text n × (low ≤ n) × (n ≤ high)

-- each option is the number that its text writes
pub record AreOptionsWritten (text : Text → Text → Option Text) (o : Options) : Type 0 where
  pub warehouses : WritesNumber 32 (text (codes "warehouses") (codes "1")) o.warehouses
  pub districts : WritesNumber 32 (text (codes "districts") (codes "10")) o.districts
  pub customers : WritesNumber 32 (text (codes "customers") (codes "100")) o.customers
  pub items : WritesNumber 32 (text (codes "items") (codes "1000")) o.items
  pub orders : WritesNumber 32 (text (codes "orders") (codes "3000")) o.orders
  pub commits : WritesNumber 32 (text (codes "commits") (codes "100000")) o.commits
  pub population : WritesNumber 64 (text (codes "population") (codes "0")) o.population

-- the folder is the text that is given for it, and the loggers are the number that theirs writes
pub record AreLogFiles (rows : List Row) (files : LogFiles) : Type 0 where
  pub folder : first_of (codes "logs") rows ≡ Some (string_bytes files.folder)
  pub loggers : WritesNumber 32 (one_of (codes "loggers") rows) files.loggers

-- the same of the log files of a run; each other option of its own is the number, or the flag, that its text writes
pub record AreRunOptions (text : Text → Text → Option Text) (rows : List Row) (r : RunOptions) : Type 0 where
  pub folder : first_of (codes "logs") rows ≡ Some (string_bytes r.files.folder)
  pub loggers : WritesWithin 1 MAX_LOGGERS (text (codes "loggers") (codes "2")) r.files.loggers
  pub terminals : WritesWithin 1 MAX_TERMINALS (text (codes "terminals") (codes "4")) r.terminals
  pub count : WritesWithin 0 MAX_INPUTS (text (codes "count") (codes "100")) r.count
  pub seed : WritesNumber 64 (text (codes "seed") (codes "1")) r.seed
  pub resume : WritesFlag (text (codes "resume") (codes "false")) r.resume

-- the log files to be read are those that are given, and the threads that read them are the number that its text writes
pub record AreRecoverOptions (text : Text → Text → Option Text) (rows : List Row) (r : RecoverOptions) : Type 0 where
  pub files : AreLogFiles rows r.files
  pub threads : WritesWithin 1 MAX_RECOVERY_THREADS (text (codes "threads") (codes "1")) r.threads

-- a script's own option is the flag that its text writes
abbrev pub AreScriptOptions : (Text → Text → Option Text) → ScriptOptions → Type 0
AreScriptOptions text s = WritesFlag (text (codes "explain") (codes "false")) s.explain

-- so it is of a subcommand's own options, beside those of the tables
abbrev pub HasOwnOptions : (Text → Text → Option Text) → List Row → Subcommand → Type 0
HasOwnOptions text rows (Script s) = AreScriptOptions text s
HasOwnOptions text rows (Run r) = AreRunOptions text rows r
HasOwnOptions text rows (Recover r) = AreRecoverOptions text rows r
HasOwnOptions text rows (Check r) = AreRecoverOptions text rows r

-- clap finds no fault with the words, they name the subcommand, and those after it write these options
pub record IsAskedBy (words : List Text) (o : Options) : Type 0 where
  pub faultless : fault_of program_app words ≡ []
  pub after : List Text
  pub subcommand : subcommand_words words ≡ Some (subcommand_name o.subcommand, after)
  pub tables : AreOptionsWritten (text_for (given_rows (rules_for o.subcommand) after)) o
  pub own : HasOwnOptions (text_for (given_rows (rules_for o.subcommand) after)) (given_rows (rules_for o.subcommand) after)
      o.subcommand

-- clap finds no fault with the words, they name `info`, and those after it give the folder
pub record IsInfoAskedBy (words : List Text) (i : InfoOptions) : Type 0 where
  pub faultless : fault_of program_app words ≡ []
  pub after : List Text
  pub subcommand : subcommand_words words ≡ Some (codes "info", after)
  pub folder : first_of (codes "logs") (given_rows (rules_in info_app) after) ≡ Some (string_bytes i.folder)

-- the words ask for this
abbrev pub AsksFor : List Text → Asked → Type 0
AsksFor words (OnTables o) = IsAskedBy words o
AsksFor words (Info i) = IsInfoAskedBy words i

-- the matches of the subcommand of this name, which hold the defaults, give this
abbrev pub AreGiven : Text → List Row → Asked → Type 0
AreGiven name rows (OnTables o) =
    (name ≡ subcommand_name o.subcommand) × AreOptionsWritten (text_in rows) o × HasOwnOptions (text_in rows) rows o.subcommand
AreGiven name rows (Info i) = (name ≡ codes "info") × (first_of (codes "logs") rows ≡ Some (string_bytes i.folder))

-- the words ask for the program's version
abbrev pub IsVersionAskedBy : List Text → Type 0
IsVersionAskedBy words = IsAmong DisplayVersion (fault_of program_app words)

-- memory ran out, or the error's kind is one of clap's faults with the words, or that of a value
-- that can't be read
abbrev pub IsOptionsRefusal : List Text → Error → Type 0
IsOptionsRefusal words error = HasKind (InvalidValue ∷ fault_of program_app words) error
