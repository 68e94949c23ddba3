use Rattle.board.proofs.Dealing.{opens}
use Rattle.board.proofs.opening.words_of.Goals as goal

pub of_words-requires : goal.of_words-requires
of_words-requires c = opens c.args.plan c.requires.loggers c.requires.base
