use Rattle.recover_restart.proofs.Fronts.{AreDeclaredTo}
use Rattle.recover_restart.proofs.declaring.declare_all.Given as goal

abbrev pub invariant-loop-n : goal.invariant-loop-n
invariant-loop-n g l = AreDeclaredTo g.D.Disk.is_modelled g.D.Disk.seen g.D.Disk.story g.D.Disk.failed l.low l.high l.n l.fn.files l.files
