use Rattle.std.proofs.Common.{◌≡◌, [], Some, refl, rules}
use Rattle.program_script.proofs.DeskLemmas.{none_answered}
use Rattle.program_script.proofs.running.Desk.new.Goals as goal

pub returns-clause-start : goal.returns-clause-start
returns-clause-start g c = none_answered g.K.Run.run.first _ c.open.ensures c.in_ok-new.ensures.ok refl (search rules)
