use Rattle.std.proofs.Common.{◌+◌, ◌*◌}
use Rattle.recover_files.proofs.merging.+merges.Given as goal

abbrev pub decreases-merged_with : goal.decreases-merged_with
decreases-merged_with g l = 2 * l.threads

abbrev pub decreases-front : goal.decreases-front
decreases-front g l = 2 * l.half + 1

abbrev pub decreases-back : goal.decreases-back
decreases-back g l = 2 * l.others + 1
