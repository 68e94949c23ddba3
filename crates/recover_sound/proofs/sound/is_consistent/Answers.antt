use Rattle.recover_sound.proofs.Good.{good_is_consistent}
use Rattle.tables.specs.Database.{database}
use Rattle.recover_sound.proofs.sound.is_consistent.Goals as goal

pub returns-in-Ok : goal.returns-in-Ok
returns-in-Ok c =
    let t = database c.args.tables.now in (
      λ holds. good_is_consistent t c.in-Ok.report c.in-Ok.ensures.ok (c.is_good.ensures.0 holds),
      λ consistent. c.is_good.ensures.1 (c.in-Ok.ensures.good consistent),
    )
