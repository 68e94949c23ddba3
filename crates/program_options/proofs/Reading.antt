-- From the matches of the program's command to what its words ask for.
use Rattle.std.proofs.Common.{◌≡◌, ◌∙◌, ◌<◌, ◌^◌, ◌||◌, List, [], ◌∷◌, ℕ, ap, ap₂, sym, subst, refl, Bool, cond, false, not, true, Option, Some, None, codes}
use Rattle.std.proofs.Common.{true≢false}
use Rattle.std.proofs.Math.Bool.{or-false}
use Rattle.std.specs.Box.{box_value}
use Rattle.std.specs.Prelude.{Box, MatchBool, Result, find, fold, option_and_then, option_map, slice_get, string_bytes, unwrap_or}
use Rattle.std.specs.List.{list_all, list_any}
use Rattle.std.specs.Str.{bytes_eq}
use Rattle.std.specs.Str.Parse.{IsNumeral, digits_value, without_leading_plus}
use Rattle.std.proofs.lemmas.Slice.Eq.{bytes_eq-Decides}
use Rattle.clap.specs.Words.{App, HasMatchesOf, app_of, Row, Rule, Shape, Text, first_of, is_simple, one_of, one_text, rows_of, subcommand_name_of}
use Rattle.clap.specs.Words.{subcommand_of}
use Rattle.clap.specs.Words.{subcommand_rows, subcommand_rows_of}
use Rattle.clap.specs.Walk.{answers_to, row_text, rows_after, with_default}
use Rattle.clap.specs.Simple.{built, built_leaf, inherited, label_of, rows_at}
use Rattle.clap.specs.Faults.{fault_of, is_simple_and_free}
use Rattle.clap.specs.Kinds.{FailsBy}
use Rattle.clap.specs.declared.error.Error.{Error}
use Rattle.clap.specs.declared.builder.command.Command.{Command}
use Rattle.clap.specs.declared.parser.matches.ArgMatches.{ArgMatches}
use Rattle.clap.specs.declared.parser.matches.ArgMatches.TheViews.{out-ArgMatches, out-SubCommand}
use Rattle.clap.specs.declared.parser.matches.Found.{Found}
use Rattle.clap.specs.declared.parser.matches.SubCommand.{SubCommand}
use Rattle.clap.proofs.WalkLemmas.{both, one_text-rows}
use Rattle.clap.proofs.OnLiterals.{clap_on_literals}
use Rattle.program_options.specs.declared.asked.Asked.{Asked}
use Rattle.program_options.specs.declared.asked.Asked.TheVariants.{OnTables, Info}
use Rattle.program_options.specs.declared.asked.Options.{Options}
use Rattle.program_options.specs.declared.asked.LogFiles.{LogFiles}
use Rattle.program_options.specs.declared.asked.RecoverOptions.{RecoverOptions}
use Rattle.program_options.specs.declared.asked.RunOptions.{RunOptions}
use Rattle.program_options.specs.declared.asked.Subcommand.{Subcommand}
use Rattle.program_options.specs.declared.asked.Subcommand.TheVariants.{Script, Run, Recover, Check}
use Rattle.program_options.specs.CommandLine.{AreGiven, AreLogFiles, AreOptionsWritten, AreRecoverOptions, AreRunOptions, AsksFor, HasOwnOptions}
use Rattle.program_options.specs.CommandLine.{WritesFlag, WritesNumber, app_for, given_rows, info_app, subcommand_name, program_app, rules_for, rules_in}
use Rattle.program_options.specs.CommandLine.{subcommand_words, text_for, text_in}
use Rattle.program_options.proofs.Defaults.{HasDefault, default_given, flag_given, within_given, has_any, has_default, no_default}

pub program_is_simple : is_simple program_app ≡ true
unfolding clap_on_literals
program_is_simple = refl

pub program_is_free : is_simple_and_free program_app ≡ true
unfolding clap_on_literals
program_is_free = refl

-- how a parse of the program's command fails
pub fails_by : (command : Command) (words : List Text) (result : Result ArgMatches Error) → app_of command ≡ program_app
    → (is_simple_and_free (app_of command) ≡ true → FailsBy (fault_of (app_of command) words) result)
    → FailsBy (fault_of program_app words) result
fails_by command words result app fails =
    subst (λ (a : App). FailsBy (fault_of a words) result) app (fails (ap is_simple_and_free app ∙ program_is_free))

-- of some subcommands without aliases the one of this name was met by this word
met_by : (shapes : List Shape) (name word : Text) (after : List Text) (rows : List Row) → list_all (λ s. not (has_any s.aliases)) shapes ≡ true
    → option_map (λ x. rows_at x after) (find (λ x. answers_to word (label_of x)) shapes) ≡ Some (name, rows)
    → (word ≡ name) × ((s : Shape) → find (λ x. bytes_eq x.name name) shapes ≡ Some s → rows_after s.rules [] after ≡ rows)
met_by [] name word after rows plain is = cc
met_by (s ∷ shapes) name word after rows plain is =
    go (bytes_eq s.name word) refl (met_by shapes name word after rows parts.1)
    (subst (λ (b : Bool). option_map (λ x. rows_at x after) (cond b (Some s) (find (λ x. answers_to word (label_of x)) shapes)) ≡ Some (name, rows))
    alone is)
  where
    parts : (not (has_any s.aliases) ≡ true) × (list_all (λ x. not (has_any x.aliases)) shapes ≡ true)
    parts = both _ _ plain

    by_name : (aliases : List Text) → not (has_any aliases) ≡ true → (bytes_eq s.name word || list_any (λ alias. bytes_eq alias word) aliases) ≡ bytes_eq s.name word
    by_name [] none = or-false (bytes_eq s.name word)
    by_name (x ∷ xs) none = absurd (true≢false (sym none))

    alone : answers_to word (label_of s) ≡ bytes_eq s.name word
    alone = by_name s.aliases parts.0

    go : (b : Bool) → bytes_eq s.name word ≡ b
        → (option_map (λ x. rows_at x after) (find (λ x. answers_to word (label_of x)) shapes) ≡ Some (name, rows)
        → (word ≡ name) × ((x : Shape) → find (λ y. bytes_eq y.name name) shapes ≡ Some x → rows_after x.rules [] after ≡ rows))
        → option_map (λ x. rows_at x after) (cond b (Some s) (find (λ x. answers_to word (label_of x)) shapes)) ≡ Some (name, rows)
        → (word ≡ name) × ((x : Shape) → cond (bytes_eq s.name name) (Some s) (find (λ y. bytes_eq y.name name) shapes) ≡ Some x
        → rows_after x.rules [] after ≡ rows)
    go true met rest e =
        let word_is : s.name ≡ word = (bytes_eq-Decides s.name word).0 met in
        let name_is : s.name ≡ name = ap (λ (o : Option (Text × List Row)). (unwrap_or o (name, [])).0) e in
        let rows_are : rows_after s.rules [] after ≡ rows = ap (λ (o : Option (Text × List Row)). (unwrap_or o (name, [])).1) e in
        let same : word ≡ name = sym word_is ∙ name_is in
        let hit : bytes_eq s.name name ≡ true = ap (bytes_eq s.name) (sym same) ∙ met in (
          same,
          λ x found.
              let is_s : s ≡ x = ap (λ (o : Option Shape). unwrap_or o s)
              (subst (λ (b : Bool). cond b (Some s) (find (λ y. bytes_eq y.name name) shapes) ≡ Some x) hit found) in
              ap (λ (y : Shape). rows_after y.rules [] after) (sym is_s) ∙ rows_are,
        )
    go false met rest e =
        let had = rest e in
        let miss : bytes_eq s.name name ≡ false = ap (bytes_eq s.name) (sym had.0) ∙ met in (
          had.0,
          λ x found. had.1 x
              (subst (λ (b : Bool). cond b (Some s) (find (λ y. bytes_eq y.name name) shapes) ≡ Some x) miss found),
        )

-- of some subcommands without aliases the one of this name was entered
entered_one : (shapes : List Shape) (name : Text) (rows : List Row) (stop : Option (Text × List Text)) (s : Shape) → list_all (λ s. not (has_any s.aliases)) shapes ≡ true
    → option_and_then (λ p. option_map (λ x. rows_at x p.1) (find (λ x. answers_to p.0 (label_of x)) shapes)) stop ≡ Some (name, rows)
    → find (λ x. bytes_eq x.name name) shapes ≡ Some s
    → (after : List Text) × (stop ≡ Some (name, after)) × (rows_after s.rules [] after ≡ rows)
entered_one shapes name rows None s plain is found = cc
entered_one shapes name rows (Some p) s plain is found =
    let met = met_by shapes name p.0 p.1 rows plain is in
    (p.1, ap (λ (t : Text). Some (t, p.1)) met.0, met.1 s found)

-- what a getter read is what the rows write
pub written : (bits : ℕ) (f : Found) (name text : Text) (n : ℕ) → one_text f name ≡ Some text
    → (IsNumeral 10 (without_leading_plus text) × (digits_value 10 (without_leading_plus text) < 2 ^ bits)) × (n ≡ digits_value 10 (without_leading_plus text))
    → WritesNumber bits (one_of name (rows_of f)) n
written bits f name text n is parsed =
    let rows : one_of name (rows_of f) ≡ Some text = sym (one_text-rows f name) ∙ is in
    let fits : n < 2 ^ bits = subst (λ (k : ℕ). k < 2 ^ bits) (sym parsed.1) parsed.0.1 in
    subst (λ (o : Option Text). WritesNumber bits o n) (sym rows) (parsed.0.0, parsed.1, fits)

-- and the flag that one read
pub flag_written : (f : Found) (name text : Text) (flag : Bool) → one_text f name ≡ Some text
    → MatchBool flag (text ≡ codes "true") (text ≡ codes "false") → WritesFlag (one_of name (rows_of f)) flag
flag_written f name text flag is parsed =
    let rows : one_of name (rows_of f) ≡ Some text = sym (one_text-rows f name) ∙ is in
    subst (λ (o : Option Text). WritesFlag o flag) (sym rows) parsed

-- the numbers that the rows with defaults write are those that the given rows or the defaults write, where each of the rules
-- is found by its name, with its default
pub record HasTables (rules : List Rule) : Type 0 where
  pub warehouses : HasDefault rules (codes "warehouses") (codes "1")
  pub districts : HasDefault rules (codes "districts") (codes "10")
  pub customers : HasDefault rules (codes "customers") (codes "100")
  pub items : HasDefault rules (codes "items") (codes "1000")
  pub orders : HasDefault rules (codes "orders") (codes "3000")
  pub commits : HasDefault rules (codes "commits") (codes "100000")
  pub population : HasDefault rules (codes "population") (codes "0")

tables_given : (rules : List Rule) (rows : List Row) (o : Options) → HasTables rules → AreOptionsWritten (text_in (fold with_default rows rules)) o
    → AreOptionsWritten (text_for rows) o
tables_given rules rows o has had = record {
  warehouses = default_given (codes "warehouses") (codes "1") rows rules has.warehouses 32 o.warehouses had.warehouses;
  districts = default_given (codes "districts") (codes "10") rows rules has.districts 32 o.districts had.districts;
  customers = default_given (codes "customers") (codes "100") rows rules has.customers 32 o.customers had.customers;
  items = default_given (codes "items") (codes "1000") rows rules has.items 32 o.items had.items;
  orders = default_given (codes "orders") (codes "3000") rows rules has.orders 32 o.orders had.orders;
  commits = default_given (codes "commits") (codes "100000") rows rules has.commits 32 o.commits had.commits;
  population = default_given (codes "population") (codes "0") rows rules has.population 64 o.population had.population;
}

have_tables : (s : Subcommand) → HasTables (rules_for s)
have_tables (Script options) = record {
  warehouses = (_, refl, refl, refl);
  districts = (_, refl, refl, refl);
  customers = (_, refl, refl, refl);
  items = (_, refl, refl, refl);
  orders = (_, refl, refl, refl);
  commits = (_, refl, refl, refl);
  population = (_, refl, refl, refl);
}
have_tables (Run options) = record {
  warehouses = (_, refl, refl, refl);
  districts = (_, refl, refl, refl);
  customers = (_, refl, refl, refl);
  items = (_, refl, refl, refl);
  orders = (_, refl, refl, refl);
  commits = (_, refl, refl, refl);
  population = (_, refl, refl, refl);
}
have_tables (Recover options) = record {
  warehouses = (_, refl, refl, refl);
  districts = (_, refl, refl, refl);
  customers = (_, refl, refl, refl);
  items = (_, refl, refl, refl);
  orders = (_, refl, refl, refl);
  commits = (_, refl, refl, refl);
  population = (_, refl, refl, refl);
}
have_tables (Check options) = record {
  warehouses = (_, refl, refl, refl);
  districts = (_, refl, refl, refl);
  customers = (_, refl, refl, refl);
  items = (_, refl, refl, refl);
  orders = (_, refl, refl, refl);
  commits = (_, refl, refl, refl);
  population = (_, refl, refl, refl);
}

logs_given : (rules : List Rule) (rows : List Row) (files : LogFiles) → has_default (codes "logs") rules ≡ false → has_default (codes "loggers") rules ≡ false
    → AreLogFiles (fold with_default rows rules) files → AreLogFiles rows files
logs_given rules rows files no_folder no_loggers had = record {
  folder = ap (option_and_then (λ (r : Row). slice_get r.values 0)) (sym (no_default (codes "logs") rows rules no_folder)) ∙ had.folder;
  loggers = subst (λ (o : Option Text). WritesNumber 32 o files.loggers)
      (ap (option_and_then row_text) (no_default (codes "loggers") rows rules no_loggers)) had.loggers;
}

-- where the rule of the threads is found by its name, with its default, so it is of what a recovery is asked for
recovery_given : (rules : List Rule) (rows : List Row) (r : RecoverOptions) → has_default (codes "logs") rules ≡ false → has_default (codes "loggers") rules ≡ false
    → HasDefault rules (codes "threads") (codes "1") → AreRecoverOptions (text_in (fold with_default rows rules)) (fold with_default rows rules) r
    → AreRecoverOptions (text_for rows) rows r
recovery_given rules rows r no_folder no_loggers has had = record {
  files = logs_given rules rows r.files no_folder no_loggers had.files;
  threads = within_given (codes "threads") (codes "1") rows rules has 1 8 r.threads had.threads;
}

-- where each of a run's own rules is found by its name, with its default, so it is of a run's options
pub record HasRun (rules : List Rule) : Type 0 where
  pub loggers : HasDefault rules (codes "loggers") (codes "2")
  pub terminals : HasDefault rules (codes "terminals") (codes "4")
  pub count : HasDefault rules (codes "count") (codes "100")
  pub seed : HasDefault rules (codes "seed") (codes "1")
  pub resume : HasDefault rules (codes "resume") (codes "false")

has_run : (r : RunOptions) → HasRun (rules_for (Run r))
has_run r = record {
  loggers = (_, refl, refl, refl);
  terminals = (_, refl, refl, refl);
  count = (_, refl, refl, refl);
  seed = (_, refl, refl, refl);
  resume = (_, refl, refl, refl);
}

run_given : (rules : List Rule) (rows : List Row) (r : RunOptions) → has_default (codes "logs") rules ≡ false → HasRun rules
    → AreRunOptions (text_in (fold with_default rows rules)) (fold with_default rows rules) r → AreRunOptions (text_for rows) rows r
run_given rules rows r no_folder has had = record {
  folder = ap (option_and_then (λ (r : Row). slice_get r.values 0)) (sym (no_default (codes "logs") rows rules no_folder)) ∙ had.folder;
  loggers = within_given (codes "loggers") (codes "2") rows rules has.loggers 1 8 r.files.loggers had.loggers;
  terminals = within_given (codes "terminals") (codes "4") rows rules has.terminals 1 16 r.terminals had.terminals;
  count = within_given (codes "count") (codes "100") rows rules has.count 0 1000000 r.count had.count;
  seed = default_given (codes "seed") (codes "1") rows rules has.seed 64 r.seed had.seed;
  resume = flag_given (codes "resume") (codes "false") rows rules has.resume r.resume had.resume;
}

has_own : (s : Subcommand) (rows : List Row) → HasOwnOptions (text_in (fold with_default rows (rules_for s))) (fold with_default rows (rules_for s)) s
    → HasOwnOptions (text_for rows) rows s
has_own (Script s) rows had = flag_given (codes "explain") (codes "false") rows (rules_for (Script s)) (_, refl, refl, refl) s.explain had
has_own (Run r) rows had = run_given (rules_for (Run r)) rows r refl (has_run r) had
has_own (Recover r) rows had = recovery_given (rules_for (Recover r)) rows r refl refl (_, refl, refl, refl) had
has_own (Check r) rows had = recovery_given (rules_for (Check r)) rows r refl refl (_, refl, refl, refl) had

-- a subcommand's shape, as clap builds it
abbrev shape_in : App → Shape
shape_in app = built_leaf (inherited program_app.top app.top)

abbrev shape_for : Subcommand → Shape
shape_for s = shape_in (app_for s)

-- the program's subcommands are these, and `help`
by_its_name : (s : Subcommand) → find (λ x. bytes_eq x.name (subcommand_name s)) (built program_app).subs ≡ Some (shape_for s)
by_its_name (Script options) = refl
by_its_name (Run options) = refl
by_its_name (Recover options) = refl
by_its_name (Check options) = refl

module _ {Z : Type 0} where
  names_of_rows : (o : Option (Box SubCommand Z)) → option_map (λ b. (out-SubCommand (box_value b)).name.now) o ≡ option_map (λ p. p.0) (subcommand_rows o)
  names_of_rows None = refl
  names_of_rows (Some b) = refl

both_parts : (o : Option (Text × List Row)) (name : Text) (rows : List Row) → option_map (λ p. p.0) o ≡ Some name → option_map (λ p. p.1) o ≡ Some rows
    → o ≡ Some (name, rows)
both_parts None name rows first second = cc
both_parts (Some p) name rows first second =
    let name_is : p.0 ≡ name = cc in
    let rows_are : p.1 ≡ rows = cc in
    ap₂ (λ (t : Text) (rs : List Row). Some (t, rs)) name_is rows_are

-- the program's subcommand of this name was entered, and its rows are these
entered_by : (command : Command) (m : ArgMatches) (words : List Text) (name own : Text) (rows : List Row) (s : Shape) → app_of command ≡ program_app
    → HasMatchesOf (app_of command) words m → subcommand_name_of m ≡ Some name → option_map (λ p. p.1) (subcommand_rows_of m) ≡ Some rows
    → name ≡ own → find (λ x. bytes_eq x.name own) (built program_app).subs ≡ Some s
    → (after : List Text) × (subcommand_words words ≡ Some (own, after)) × (rows_after s.rules [] after ≡ rows)
entered_by command m words name own rows s app matches named inner is found =
    let same = (matches (ap is_simple app ∙ program_is_simple)).1 ∙ ap (λ (a : App). subcommand_of a words) app in
    let parts = both_parts (subcommand_rows_of m) own rows
    (sym (names_of_rows (out-ArgMatches m).subcommand) ∙ (named ∙ ap (λ (t : Text). Some t) is)) inner in
    entered_one (built program_app).subs own rows (subcommand_words words) s refl (sym same ∙ parts) found

-- the matches of the program's command give what the words ask for
pub asked : (command : Command) (m : ArgMatches) (words : List Text) (name : Text) (rows : List Row) (a : Asked) → app_of command ≡ program_app
    → fault_of program_app words ≡ []
    → HasMatchesOf (app_of command) words m → subcommand_name_of m ≡ Some name → option_map (λ p. p.1) (subcommand_rows_of m) ≡ Some rows
    → AreGiven name rows a → AsksFor words a
asked command m words name rows (OnTables o) app faultless matches named inner given =
    let entered = entered_by command m words name (subcommand_name o.subcommand) rows (shape_for o.subcommand) app matches named inner given.0
    (by_its_name o.subcommand) in
    let rules = rules_for o.subcommand in
    record {
      faultless = faultless;
      after = entered.0;
      subcommand = entered.1;
      tables = tables_given rules (given_rows rules entered.0) o (have_tables o.subcommand)
          (subst (λ (rs : List Row). AreOptionsWritten (text_in rs) o) (sym entered.2) given.1);
      own = has_own o.subcommand (given_rows rules entered.0)
          (subst (λ (rs : List Row). HasOwnOptions (text_in rs) rs o.subcommand) (sym entered.2) given.2);
    }
asked command m words name rows (Info i) app faultless matches named inner given =
    let entered = entered_by command m words name (codes "info") rows (shape_in info_app) app matches named inner given.0 refl in
    let given_here = given_rows (rules_in info_app) entered.0 in
    record {
      faultless = faultless;
      after = entered.0;
      subcommand = entered.1;
      folder = ap (option_and_then (λ (r : Row). slice_get r.values 0)) (sym (no_default (codes "logs") given_here (rules_in info_app) refl))
          ∙ subst (λ (rs : List Row). first_of (codes "logs") rs ≡ Some (string_bytes i.folder)) (sym entered.2) given.1;
    }
