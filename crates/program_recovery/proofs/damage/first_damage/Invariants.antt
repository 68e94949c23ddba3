use Rattle.std.proofs.Common.{◌≡◌, length}
use Rattle.population.specs.Initial.{initial, seed_of}
use Rattle.program_recovery.proofs.Walking.{IsWalked}
use Rattle.program_recovery.proofs.damage.first_damage.Given as goal

abbrev pub invariant-loop-logger : goal.invariant-loop-logger
invariant-loop-logger g l = record {
  loggers : l.loggers ≡ length l.fn.disks;
  walked : IsWalked g.D.Disk.is_modelled g.D.Disk.seen g.D.Disk.story l.version (initial l.population).scale (seed_of l.population)
      l.fn.disks l.logger l.disks;
}
