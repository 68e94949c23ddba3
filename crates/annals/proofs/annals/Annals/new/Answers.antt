use Rattle.annals.proofs.Moves.{opens}
use Rattle.annals.proofs.annals.Annals.new.Goals as goal

pub of_words-requires : goal.of_words-requires
of_words-requires g c = opens _ _
