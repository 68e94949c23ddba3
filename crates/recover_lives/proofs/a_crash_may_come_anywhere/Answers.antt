use Rattle.recover_lives.proofs.Ends.{may_crash, always, after_crash}
use Rattle.recover_lives.proofs.a_crash_may_come_anywhere.Goals as goal

pub returns-clause-comes : goal.returns-clause-comes
returns-clause-comes c = may_crash

pub returns-clause-always : goal.returns-clause-always
returns-clause-always c = always

pub returns-clause-leaves : goal.returns-clause-leaves
returns-clause-leaves c = after_crash
