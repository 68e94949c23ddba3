use Rattle.book.proofs.RunNames.{run_named_by, ledger_named_by}
use Rattle.tests_refusals.proofs.payments.pay_all.Given as goal

abbrev pub ghosts-pay_on-K-Run : goal.ghosts-pay_on-K-Run
ghosts-pay_on-K-Run g a = run_named_by a.parts

abbrev pub ghosts-pay_on-K-Ledger : goal.ghosts-pay_on-K-Ledger
ghosts-pay_on-K-Ledger g a = ledger_named_by a.parts
