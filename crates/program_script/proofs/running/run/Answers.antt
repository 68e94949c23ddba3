use Rattle.std.proofs.Common.{[]}
use Rattle.std.proofs.KnownBytes.{Appends-nil}
use Rattle.program_script.proofs.Progress.{on_err, begun_none}
use Rattle.program_script.proofs.running.run.Goals as goal

pub returns-in_err-desk-clause-beginning : goal.returns-in_err-desk-clause-beginning
returns-in_err-desk-clause-beginning g c =
    on_err _ c.from_residual.result (λ bytes left. ([], Appends-nil (g.W.Write.contents c.args.writer.now), begun_none g.K.Run.run.first bytes))
