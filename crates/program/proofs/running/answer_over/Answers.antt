use Rattle.std.proofs.Common.{subst, sym}
use Rattle.std.proofs.lemmas.Result.{IfOk-weaker, IfErr-weaker}
use Rattle.population.specs.Initial.{initial, seed_of}
use Rattle.program_options.specs.declared.asked.Subcommand.{Subcommand}
use Rattle.program_files.specs.Causes.{cause_of}
use Rattle.program.specs.Run.{IsDone, IsFailed, IsToldBeside}
use Rattle.program.proofs.running.answer_over.Goals as goal

pub returns-in-Script-clause-done : goal.returns-in-Script-clause-done
returns-in-Script-clause-done g c =
    let tables = initial c.args.population in
    let seed = seed_of c.args.population in
    IfOk-weaker c.answer_script.result _ _ (λ report done bytes left.
    subst (λ (asked : Subcommand). IsDone tables seed asked bytes (g.W.Write.contents c.args.output.now) (g.W.Write.contents c.answer_script.new.output) report)
    (sym c.in-Script.is) (done bytes left)) c.answer_script.ensures.answered

pub returns-in-Script-clause-failed : goal.returns-in-Script-clause-failed
returns-in-Script-clause-failed g c =
    let tables = initial c.args.population in
    let seed = seed_of c.args.population in
    IfErr-weaker c.answer_script.result _ _ (λ fault failed bytes left.
    subst (λ (asked : Subcommand). IsFailed tables seed asked bytes (g.W.Write.contents c.args.output.now) (g.W.Write.contents c.answer_script.new.output)
    fault.refusal (cause_of fault)) (sym c.in-Script.is) (failed bytes left)) c.answer_script.ensures.broken_off

pub returns-in-Script-clause-beside : goal.returns-in-Script-clause-beside
returns-in-Script-clause-beside g c =
    subst (λ (asked : Subcommand). IsToldBeside asked (g.E.Write.contents c.args.errors.now.errors) (g.E.Write.contents c.answer_script.new.errors.errors))
    (sym c.in-Script.is) c.answer_script.ensures.beside
