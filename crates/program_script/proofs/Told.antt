-- What is told of refused lines, one text behind another.
use Rattle.std.proofs.Common.{List, ℕ, Option, [], ◌++◌}
use Rattle.std.proofs.KnownBytes.{Appends-nil, Appends-trans}
use Rattle.program_script.specs.Hints.{TellsMore}

pub told_none : (a : Option (List ℕ)) → TellsMore a a
told_none a = ([], Appends-nil a)

pub told_on : (a b c : Option (List ℕ)) → TellsMore a b → TellsMore b c → TellsMore a c
told_on a b c one two = (one.0 ++ two.0, Appends-trans a b c one.0 two.0 one.1 two.1)
