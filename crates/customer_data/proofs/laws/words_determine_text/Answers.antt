use Rattle.customer_data.proofs.Texts.{text_back}
use Rattle.customer_data.proofs.laws.words_determine_text.Goals as goal

pub returns : goal.returns
returns c = text_back
