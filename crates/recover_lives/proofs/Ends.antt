-- The end of a process and a crash, whichever world they come to.
use Rattle.std.proofs.Common.{◌≡◌, ℕ, List, [], ◌∷◌, refl, arith}
use Rattle.log_disk.specs.Calls.{Call, Wrote, Synced}
use Rattle.log_disk.specs.Crashes.{MayLeave}
use Rattle.recover_lives.specs.World.{Origin, Lives, Down, Restarting, Running, joined_history, released_by, durable_at, disk_at}
use Rattle.recover_lives.specs.Events.{Stop, Crash, MayStrike, MayOccur, struck, lives_after}

pub after_stop : (o : Origin) (w : Lives) → lives_after o w Stop ≡ Down (disk_at w) (durable_at w) (joined_history w) (released_by w)
after_stop o (Down disks durable history released) = refl
after_stop o (Restarting old durable top files steps history released) = refl
after_stop o (Running life past earlier now) = refl

pub may_crash : (o : Origin) (w : Lives) (strings : ℕ → List ℕ) → MayStrike o w strings → MayOccur o w (Crash strings)
may_crash o (Down disks durable history released) strings may = may
may_crash o (Restarting old durable top files steps history released) strings may = may
may_crash o (Running life past earlier now) strings may = may

-- with what was synced last a crash leaves every disk
abbrev sure : List Call → List ℕ
sure [] = []
sure (Wrote at n ∷ story) = sure story
sure (Synced seen ∷ story) = seen

may_be_sure : (story : List Call) → MayLeave story (sure story)
may_be_sure [] = refl
may_be_sure (Wrote at n ∷ story) =
    (sure story, may_be_sure story, record { no_shorter = omega arith; before = λ i lt front. refl; after = λ i lt behind. refl })
may_be_sure (Synced seen ∷ story) = refl

pub always : (o : Origin) (w : Lives) → (strings : ℕ → List ℕ) × MayOccur o w (Crash strings)
always o w = ((λ l. sure (disk_at w l).story), may_crash o w (λ l. sure (disk_at w l).story) (λ l lt. may_be_sure (disk_at w l).story))

pub after_crash : (o : Origin) (w : Lives) (strings : ℕ → List ℕ)
    → lives_after o w (Crash strings) ≡ Down (struck strings) (durable_at w) (joined_history w) (released_by w)
after_crash o (Down disks durable history released) strings = refl
after_crash o (Restarting old durable top files steps history released) strings = refl
after_crash o (Running life past earlier now) strings = refl
