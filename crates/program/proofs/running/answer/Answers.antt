use Rattle.std.proofs.Common.{ℕ, subst}
use Rattle.std.proofs.lemmas.Result.{IfOk-weaker, IfErr-weaker}
use Rattle.tables.specs.Sizes.{Sizes}
use Rattle.population.specs.Initial.{initial}
use Rattle.program_files.specs.Causes.{cause_of}
use Rattle.program.specs.Run.{IsDone, IsFailed, begun}
use Rattle.program_live.specs.Population.{IsPopulation}
use Rattle.program.proofs.running.answer.Goals as goal

pub returns-clause-whole : goal.returns-clause-whole
returns-clause-whole g c =
    let options = c.args.options.now in
    let tables = initial c.in-Ok-population_of.population in
    let limits = c.in-Ok.ensures.limits in
    IfOk-weaker c.answer_over.result _ _ (λ report done bytes left. record {
      lawful = limits.1;
      tables = tables;
      population = subst (λ (s : Sizes). IsPopulation options.population s tables) limits.0 c.in-Ok-population_of.ensures.rows;
      done = subst (λ (seed : ℕ). IsDone tables seed options.subcommand bytes (g.W.Write.contents c.args.output.now) (g.W.Write.contents c.answer_over.new.output)
          report) c.in-Ok-population_of.ensures.seed (done bytes left);
    }) c.answer_over.ensures.done

pub returns-clause-refused : goal.returns-clause-refused
returns-clause-refused g c =
    let options = c.args.options.now in
    let tables = initial c.in-Ok-population_of.population in
    let limits = c.in-Ok.ensures.limits in
    IfErr-weaker c.answer_over.result _ _ (λ fault failed bytes left.
    begun limits.1 tables (subst (λ (s : Sizes). IsPopulation options.population s tables) limits.0 c.in-Ok-population_of.ensures.rows)
    (subst (λ (seed : ℕ). IsFailed tables seed options.subcommand bytes (g.W.Write.contents c.args.output.now) (g.W.Write.contents c.answer_over.new.output)
    fault.refusal (cause_of fault)) c.in-Ok-population_of.ensures.seed (failed bytes left))) c.answer_over.ensures.failed
