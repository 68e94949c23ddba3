use Rattle.recover_files.proofs.HalvesOfFiles.{whole, both_lawful}
use Rattle.recover_files.proofs.merging.halved.Goals as goal

pub returns-clause-whole : goal.returns-clause-whole
returns-clause-whole c =
    whole _ c.args.files.items c.split_off.new.self.items c.in_ok-high.high.items c.in_ok-high.ensures.items
    c.in_ok-high.ensures.tail

pub returns-clause-lawful : goal.returns-clause-lawful
returns-clause-lawful c = λ s lawful.
    both_lawful s c.args.files.items c.split_off.new.self.items c.in_ok-high.high.items
    (whole _ c.args.files.items c.split_off.new.self.items c.in_ok-high.high.items c.in_ok-high.ensures.items
    c.in_ok-high.ensures.tail) lawful
