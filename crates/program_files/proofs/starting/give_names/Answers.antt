use Rattle.std.proofs.Common.{◌≡◌, ◌≢◌}
use Rattle.std.proofs.lemmas.Result.{IfErr-weaker}
use Rattle.program_files.specs.declared.fault.Purpose.TheVariants.{Create, Read}
use Rattle.program_files.proofs.starting.give_names.Goals as goal

writes : Create ≢ Read
writes is = absurd cc

pub returns-in-Err : goal.returns-in-Err
returns-in-Err g c = record { unready = c.in-Err.ensures Create writes }

pub returns : goal.returns
returns g c = record { unready = IfErr-weaker c.sync_names-2.result _ _ (λ fault is. is Create writes) c.sync_names-2.ensures }
