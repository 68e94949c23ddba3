use Rattle.log_scan.proofs.SameFile.{in_front, in_front_to, in_whole, in_whole_to}
use Rattle.log_scan.proofs.laws.same_file.Goals as goal

pub returns-clause-file : goal.returns-clause-file
returns-clause-file c bytes file h bodies small holds = (in_whole bytes file h bodies holds, in_front bytes file h bodies small holds)

pub returns-clause-place : goal.returns-clause-place
returns-clause-place c bytes file h bodies last end small holds =
    (in_whole_to bytes file h bodies last end holds, in_front_to bytes file h bodies last end small holds)
