use Rattle.recover_restart.proofs.Happening.{restart_leads}
use Rattle.recover_restart.proofs.Stopping.{refused_leads}
use Rattle.recover_restart.proofs.laws.restart_goes_on.Goals as goal

pub returns-clause-goes_on : goal.returns-clause-goes_on
returns-clause-goes_on g c = restart_leads

pub returns-clause-refused : goal.returns-clause-refused
returns-clause-refused g c = λ modelled t0 seed terminals old new known history released disk refusal is gives.
    refused_leads _ _ _ modelled t0 seed terminals old new known history released disk is gives
