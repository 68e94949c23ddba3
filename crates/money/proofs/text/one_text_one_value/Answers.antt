use Rattle.money.proofs.MoneyText.{money_text-injective}
use Rattle.money.proofs.text.one_text_one_value.Goals as goal

pub returns : goal.returns
returns c = money_text-injective
