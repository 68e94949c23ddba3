use Rattle.commit.specs.Turns.{run}
use Rattle.book_decided.proofs.Legal.{leads_to}
use Rattle.book_decided.proofs.every_decided_run_is_legal.Goals as goal

pub returns : goal.returns
returns c = λ t0 opening events works well_formed consistent room opens holds enabled are few.
    let is = c.every_interleaving.ensures opening events opens enabled in
    leads_to t0 opening (run opening events).machine.epoch works _ well_formed consistent room holds are few is.serial is.stamped is.epochs
