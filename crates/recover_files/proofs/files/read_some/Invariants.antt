use Rattle.population.specs.Initial.{initial, seed_of}
use Rattle.recover_files.specs.Files.{headers_from}
use Rattle.recover_files.proofs.DiskByDisk.{IsReadSoFar}
use Rattle.recover_files.proofs.files.read_some.Given as goal

abbrev pub invariant-loop-n : goal.invariant-loop-n
invariant-loop-n g l =
    IsReadSoFar g.D.Disk.is_modelled g.D.Disk.seen g.D.Disk.story g.D.Disk.failed
    (headers_from l.first l.loggers (initial l.population).scale (seed_of l.population)) l.fn.disks l.n l.disks
    l.files
