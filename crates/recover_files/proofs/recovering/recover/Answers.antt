use Rattle.std.proofs.Common.{rules, Err}
use Rattle.population.specs.Initial.{initial, seed_of}
use Rattle.recover_files.specs.Answers.{IsAnswerOn}
use Rattle.recover_files.proofs.AllRead.{found_all}
use Rattle.recover_files.proofs.Answering.{unread, settled_answer}
use Rattle.recover_files.proofs.recovering.recover.Goals as goal

pub recover_bodies-requires : goal.recover_bodies-requires
recover_bodies-requires g c =
    let read = found_all (search rules) c.in_ok-files.ensures in
    (c.in_ok-files.files.version, read.0, read.3)

pub returns-in_err-files : goal.returns-in_err-files
returns-in_err-files g c =
    let answer : IsAnswerOn g.D.Disk.is_modelled g.D.Disk.seen g.D.Disk.story g.D.Disk.failed (initial c.args.population.now)
    (seed_of c.args.population.now) c.args.disks.now c.read_some.new.disks (Err c.in_err-files.field-0.0)
    = unread {t0 = initial c.args.population.now} (search rules) c.in_err-files.ensures in
    search rules

pub returns : goal.returns
returns g c =
    settled_answer (search rules) c.in_ok-files.ensures c.recover_bodies.result c.recover_bodies.ensures.recovered c.recover_bodies.ensures.gap
    c.recover_bodies.ensures.others
