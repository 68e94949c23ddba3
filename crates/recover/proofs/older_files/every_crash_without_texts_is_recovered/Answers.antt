use Rattle.std.proofs.Common.{sym, subst}
use Rattle.recover_laws.specs.Recovered.{IsFirstDatabase}
use Rattle.recover_lives.specs.World.{Origin, Lives, origin_of, first_world}
use Rattle.recover_lives.specs.Events.{lives_after_all}
use Rattle.recover.proofs.Crashed.{is_beginning_without}
use Rattle.recover.proofs.WithoutTexts.{first_without}
use Rattle.recover.proofs.older_files.every_crash_without_texts_is_recovered.Goals as goal

pub returns : goal.returns
returns c = λ t0 life files events by_logger first begins created happened crash strings turn r is.
    let o : Origin = origin_of life in
    let w : Lives = lives_after_all o (first_world life files) events in
    let may : IsFirstDatabase life.first = subst IsFirstDatabase (sym first) (first_without t0 begins) in
    is_beginning_without o w by_logger (c.every_crash_is_survived.ensures life files events by_logger may created happened crash) strings turn t0 first
    r is
