use Rattle.std.proofs.Common.{[], map, slice_index_or, refl, sym, subst}
use Rattle.log_header.specs.declared.header.TheConstants.{VERSION}
use Rattle.program_recovery.specs.Flaws.{IsAskedVersion}
use Rattle.program_recovery.specs.declared.damage.AskedVersion.{AskedVersion}
use Rattle.program_recovery.proofs.damage.version_asked.Goals as goal

pub returns-in-Today-clause-asked : goal.returns-in-Today-clause-asked
returns-in-Today-clause-asked g c = (
  slice_index_or (map g.D.Disk.seen c.args.disks.now) 0 [],
  λ _. refl,
  subst (λ (asked : AskedVersion). IsAskedVersion asked (slice_index_or (map g.D.Disk.seen c.args.disks.now) 0 []) VERSION)
      (sym c.in-Today.is) refl,
)
