use Rattle.std.proofs.Common.{[], subst}
use Rattle.std.proofs.KnownBytes.{Appends-nil}
use Rattle.population.specs.Initial.{initial}
use Rattle.program_script.specs.Written.{IsBeginning}
use Rattle.program_script.proofs.Progress.{on_err, on_err_more, begun_none}
use Rattle.program_script.proofs.running.hinted_script.Goals as goal

pub returns-in_err-parts-clause-beginning : goal.returns-in_err-parts-clause-beginning
returns-in_err-parts-clause-beginning g c =
    on_err _ c.from_residual.result (λ bytes left. ([], Appends-nil (g.W.Write.contents c.args.writer.now), begun_none (initial c.args.population) bytes))

pub returns-clause-beginning : goal.returns-clause-beginning
returns-clause-beginning g c = on_err_more _ _ c.run.result (λ front bytes left.
    let b = front bytes left in
    (b.0, b.1, subst (λ t. IsBeginning t bytes b.0) c.in_ok-parts.ensures.parts.first_is b.2)) c.run.ensures.beginning
