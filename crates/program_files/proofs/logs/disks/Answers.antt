use Rattle.std.proofs.Common.{true≢false}
use Rattle.program_files.proofs.logs.disks.Goals as goal

pub returns-in-Err-sync_names-clause-unready : goal.returns-in-Err-sync_names-clause-unready
returns-in-Err-sync_names-clause-unready g c =
    c.in-Err-sync_names.ensures c.args.purpose (λ reads. true≢false (rw reads at c.if-eq-2.ensures))
