use Rattle.recover_sound.proofs.Capped.{commits_within_cap}
use Rattle.recover_sound.proofs.laws.recovered_commits_are_within_the_cap.Goals as goal

pub returns : goal.returns
returns c = λ s seed strings files are gap. commits_within_cap s seed strings files are gap
