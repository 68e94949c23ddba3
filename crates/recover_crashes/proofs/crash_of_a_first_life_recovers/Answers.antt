use Rattle.std.proofs.Common.{List, [], subst, append-nil}
use Rattle.book.specs.declared.entry.Entry.{Entry}
use Rattle.recover_crashes.specs.World.{World, opening}
use Rattle.recover_crashes.specs.Events.{world_after_all}
use Rattle.recover_crashes.specs.Recovering.{Recovers}
use Rattle.recover_crashes.proofs.Opened.{first_base}
use Rattle.recover_crashes.proofs.crash_of_a_first_life_recovers.Goals as goal

pub returns : goal.returns
returns c = λ life files events strings first happened crash.
    let w : World = world_after_all (opening life.plan files) events in
    subst (λ (released : List Entry). Recovers life.first life w.history released w.durable strings) (append-nil w.released)
    (c.every_life_recovers.ensures life.first life (λ l. []) [] [] files events strings (first_base life files first) first.created happened crash)
