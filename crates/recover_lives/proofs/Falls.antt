-- D never falls, over many lives; and a first life is the case of one.
use Rattle.std.proofs.Common.{◌≡◌, ◌≤◌, List, [], ◌∷◌, map, refl, arith}
use Rattle.book.specs.declared.entry.Entry.{Entry}
use Rattle.recover_crashes.specs.World.{Life, World}
use Rattle.recover_crashes.specs.Events.{Event, Commit, Take, LoadEpoch, Advance, CallDevice, Confirm, LoadMark, RaiseDurable, Release}
use Rattle.recover_crashes.specs.Events.{world_after, MayHappenInTurn, world_after_all}
use Rattle.recover_laws.specs.Recovered.{IsFirstDatabase}
use Rattle.recover_lives.specs.World.{Origin, Lives, Down, Restarting, Running, durable_at}
use Rattle.recover_lives.specs.Events.{LivesEvent, Within, Stop, Crash, SyncDisk, Read, Declare, CallVoid, Open}
use Rattle.recover_lives.specs.Events.{MayOccur, lives_after, MayOccurInTurn, lives_after_all}
use Rattle.recover_lives.proofs.Worlds.{IsReplayLaw, Holds, holds_after, read_no_less, top_no_less}

raised_within : (w : World) (event : Event) → w.durable ≤ (world_after w event).durable
raised_within w (Commit entry) = omega arith
raised_within w (Take logger batch) = omega arith
raised_within w (LoadEpoch epoch) = omega arith
raised_within w Advance = omega arith
raised_within w (CallDevice logger result disk) = omega arith
raised_within w (Confirm logger) = omega arith
raised_within w (LoadMark logger) = omega arith
raised_within w (RaiseDurable logger least) = omega arith
raised_within w (Release entry) = omega arith

no_fall : (o : Origin) (w : Lives) (event : LivesEvent) → Holds o w → MayOccur o w event → durable_at w ≤ durable_at (lives_after o w event)
no_fall o (Running life past earlier now) (Within event) h may = raised_within now event
no_fall o (Running life past earlier now) Stop h may = omega arith
no_fall o (Restarting old durable top files steps history released) Stop h may = omega arith
no_fall o w (Crash strings) h may = omega arith
no_fall o (Down disks durable history released) (SyncDisk logger disk) h may = omega arith
no_fall o (Down disks durable history released) (Read old found top files) h may = read_no_less o disks durable history released h old found top files may
no_fall o (Restarting old durable top files steps history released) (Declare logger) h may = omega arith
no_fall o (Restarting old durable top files steps history released) (CallVoid logger result disk) h may = omega arith
no_fall o (Restarting old durable top files steps history released) (Open life) h may =
    omega (arith, top_no_less o old durable top files steps history released h, may.base)
no_fall o w event h may = absurd may

pub never_falls : (o : Origin) → IsFirstDatabase o.first → IsReplayLaw → (w : Lives) (events : List LivesEvent) → Holds o w → MayOccurInTurn o w events
    → durable_at w ≤ durable_at (lives_after_all o w events)
never_falls o begins law w [] h may = omega arith
never_falls o begins law w (event ∷ events) h may =
    omega (
      arith,
      no_fall o w event h may.0,
      never_falls o begins law (lives_after o w event) events (holds_after o begins law w event h may.0) may.1,
    )

-- ---- one life
pub all_within : (o : Origin) (life : Life) (past earlier : List Entry) (now : World) (events : List Event) → MayHappenInTurn life now events
    → MayOccurInTurn o (Running life past earlier now) (map Within events)
all_within o life past earlier now [] may = tt
all_within o life past earlier now (event ∷ events) may = (may.0, all_within o life past earlier (world_after now event) events may.1)

pub after_within : (o : Origin) (life : Life) (past earlier : List Entry) (now : World) (events : List Event)
    → lives_after_all o (Running life past earlier now) (map Within events) ≡ Running life past earlier (world_after_all now events)
after_within o life past earlier now [] = refl
after_within o life past earlier now (event ∷ events) = after_within o life past earlier (world_after now event) events
