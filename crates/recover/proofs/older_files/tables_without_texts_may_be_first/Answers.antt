use Rattle.recover.proofs.WithoutTexts.{first_without}
use Rattle.recover.proofs.older_files.tables_without_texts_may_be_first.Goals as goal

pub returns : goal.returns
returns c = first_without
