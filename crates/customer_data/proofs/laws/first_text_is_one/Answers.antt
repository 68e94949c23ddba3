use Rattle.customer_data.proofs.Printable.{first_is}
use Rattle.customer_data.proofs.laws.first_text_is_one.Goals as goal

pub returns : goal.returns
returns c = first_is
