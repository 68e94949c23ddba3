use Rattle.logfile.proofs.Moments.{wrote_left, put_left, wrote_may, synced_may}
use Rattle.logfile.proofs.storing.put.Goals as goal

pub returns-in_err-write_at-clause-moments : goal.returns-in_err-write_at-clause-moments
returns-in_err-write_at-clause-moments g c = λ modelled.
    wrote_left _ _ _ _ _ _ (c.requires.settled modelled) (c.write_at.ensures.story modelled)

pub returns-clause-moments : goal.returns-clause-moments
returns-clause-moments g c = λ modelled.
    let wrote = c.write_at.ensures in
    let synced = c.sync.ensures in
    put_left _ _ _ _ _ _ _ _ _ (c.requires.settled modelled) (wrote.outside modelled) (wrote.story modelled) (synced.story modelled)

pub returns-in_err-write_at-clause-may_stay : goal.returns-in_err-write_at-clause-may_stay
returns-in_err-write_at-clause-may_stay g c = λ modelled err.
    wrote_may _ _ _ _ _ _ (g.met.D.Disk.read_gives c.args.disk.now modelled) (c.write_at.ensures.story modelled)

pub returns-clause-may_stay : goal.returns-clause-may_stay
returns-clause-may_stay g c = λ modelled err.
    let may = wrote_may _ _ _ _ _ _ (g.met.D.Disk.read_gives c.args.disk.now modelled) (c.write_at.ensures.story modelled) in
    synced_may _ _ _ _ _ may (c.sync.ensures.story modelled) err
