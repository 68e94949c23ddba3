use Rattle.std.proofs.Common.{drop}
use Rattle.recover_crashes.specs.World.{Life, World}
use Rattle.traces.specs.Told.{IsTraceOf}
use Rattle.traces.specs.Shown.{ShowsWorld}
use Rattle.traces.proofs.Turns.{Leads}
use Rattle.traces.proofs.accepting.follow_all.Given as goal

-- the values show a world from which the steps that are left may be taken exactly where all may be
abbrev pub invariant-loop-step : goal.invariant-loop-step
invariant-loop-step l = (life : Life) (w : World) → IsTraceOf life l.trace → ShowsWorld l.trace l.fn.follower w
    → Leads l.trace life w l.steps l.follower (drop l.step-index l.steps)
