use Rattle.std.proofs.Common.{map, string_bytes, sym, rules, inl, inr, Ok, Err}
use Rattle.std.proofs.lemmas.Result.{IfOk-weaker}
use Rattle.clap.specs.Faults.{fault_of}
use Rattle.clap.specs.Kinds.{HasKind}
use Rattle.clap.specs.Words.{found_of, rows_of}
use Rattle.program_options.specs.CommandLine.{IsOptionsRefusal, program_app}
use Rattle.program_options.proofs.Reading.{asked, fails_by}
use Rattle.program_options.proofs.words.read_words.Goals as goal

pub returns-in_err-matches-clause-refused : goal.returns-in_err-matches-clause-refused
returns-in_err-matches-clause-refused c =
    let app = c.in_ok-command.ensures.app.0 in
    let words = map string_bytes c.args.words.now in
    let error = c.in_err-matches.field-0.0 in
    let kinds : HasKind (fault_of program_app words) error = fails_by c.in_ok-command.command words (Err error) app c.in_err-matches.ensures.kinds in
    let wider : IsOptionsRefusal words error = elim kinds [ inl memory ↦ inl memory | inr among ↦ inr (inr among) ] in
    search rules

pub returns-in-Some-clause-asked : goal.returns-in-Some-clause-asked
returns-in-Some-clause-asked c =
    let app = c.in_ok-command.ensures.app.0 in
    let words = map string_bytes c.args.words.now in
    let matches = c.in_ok-matches.matches in
    let entered = c.in-Some.ensures in
    IfOk-weaker c.asked_given.result _ _ (λ a is. asked c.in_ok-command.command matches words c.in-Some.name.now (rows_of (found_of c.in-Some.given.now)) a
    app (fails_by c.in_ok-command.command words (Ok matches) app c.in_ok-matches.ensures.kinds) c.in_ok-matches.ensures.matches (sym entered.name)
    (sym entered.rows) is)
    c.asked_given.ensures.given
