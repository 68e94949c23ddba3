use Rattle.std.proofs.Common.{◌+◌, ◌*◌}
use Rattle.recover_files.proofs.reading.+parts.Given as goal

abbrev pub decreases-read_with : goal.decreases-read_with
decreases-read_with g l = 3 * l.threads

abbrev pub decreases-read_halves : goal.decreases-read_halves
decreases-read_halves g l = 3 * l.others + 2

abbrev pub decreases-read_halves-left : goal.decreases-read_halves-left
decreases-read_halves-left g l = 3 * l.half + 1

abbrev pub decreases-read_halves-right : goal.decreases-read_halves-right
decreases-read_halves-right g l = 3 * l.others + 1
