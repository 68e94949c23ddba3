use Rattle.customer_data.proofs.Printable.{kept}
use Rattle.customer_data.proofs.laws.payments_keep_texts.Goals as goal

pub returns : goal.returns
returns c = kept
