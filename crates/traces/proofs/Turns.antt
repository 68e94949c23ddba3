-- Steps that are followed one after another.
use Rattle.std.proofs.Common.{◌≡◌, ℕ, ◌+◌, ◌<◌, Bool, true, false, Result, Ok, Err, List, [], ◌∷◌, get_or, drop, length, refl, sym, ap, ◌∙◌, subst, IsTrue}
use Rattle.std.specs.Prelude.{◌↔◌, IfOk}
use Rattle.std.proofs.lemmas.List.{drop_more}
use Rattle.logfile.specs.Standing.{LogFileView}
use Rattle.traces.specs.declared.step.Start.{Start}
use Rattle.recover_crashes.specs.World.{Life, DiskView, World, opening}
use Rattle.traces.specs.declared.follower.Follower.{Follower}
use Rattle.traces.specs.declared.step.Step.{Step}
use Rattle.traces.specs.Told.{TraceView, IsTraceOf, AreStarts, MayBeTakenInTurn, world_told}
use Rattle.traces.specs.Shown.{ShowsWorld, FollowsStep}

-- the values are those of a world from which the rest may be taken exactly where all may be
pub record Leads (t : TraceView) (life : Life) (w : World) (all : List Step) (f : Follower) (rest : List Step) : Type 0 where
  pub now : World
  pub shown : ShowsWorld t f now
  pub same : MayBeTakenInTurn life t now rest ↔ MayBeTakenInTurn life t w all

pub begins : (t : TraceView) (life : Life) (w : World) (all : List Step) (f : Follower) → ShowsWorld t f w → Leads t life w all f all
begins t life w all f h = record { now = w; shown = h; same = (λ may. may, λ may. may) }

-- a step is followed
pub goes_on : (t : TraceView) (life : Life) (w : World) (all : List Step) (f new : Follower) (s : Step) (rest : List Step)
    → IsTraceOf life t → FollowsStep t s f new true → Leads t life w all f (s ∷ rest) → Leads t life w all new rest
goes_on t life w all f new s rest of is leads = record {
  now = world_told t leads.now s;
  shown = is.shown leads.now leads.shown refl;
  same = (
    λ may. leads.same.0 ((is.exact life leads.now of leads.shown).0 refl, may),
    λ may. (leads.same.1 may).1,
  );
}

-- or it isn't
pub stops : (t : TraceView) (life : Life) (w : World) (all : List Step) (f new : Follower) (s : Step) (rest : List Step)
    → IsTraceOf life t → FollowsStep t s f new false → Leads t life w all f (s ∷ rest) → IsTrue false ↔ MayBeTakenInTurn life t w all
stops t life w all f new s rest of is leads = (
  λ yes. absurd cc,
  λ may. (is.exact life leads.now of leads.shown).1 (leads.same.1 may).0,
)

pub ends : (t : TraceView) (life : Life) (w : World) (all : List Step) (f : Follower) → Leads t life w all f []
    → IsTrue true ↔ MayBeTakenInTurn life t w all
ends t life w all f leads = (λ yes. leads.same.0 tt, λ may. refl)

-- the same, by the place of the step
cut : (all : List Step) (i : ℕ) (s d : Step) → i < length all → s ≡ get_or all i d → drop i all ≡ s ∷ drop (i + 1) all
cut all i s d lt is = drop_more all i d lt ∙ ap (λ (x : Step). x ∷ drop (i + 1) all) (sym is)

pub goes_on_at : (t : TraceView) (life : Life) (w : World) (all : List Step) (f new : Follower) (s : Step) (i : ℕ) (d : Step) (b : Bool)
    → IsTraceOf life t → FollowsStep t s f new b → b ≡ true → i < length all → s ≡ get_or all i d → Leads t life w all f (drop i all)
    → Leads t life w all new (drop (i + 1) all)
goes_on_at t life w all f new s i d b of is followed lt there leads =
    goes_on t life w all f new s (drop (i + 1) all) of (subst (FollowsStep t s f new) followed is) (subst (Leads t life w all f) (cut all i s d lt there) leads)

pub stops_at : (t : TraceView) (life : Life) (w : World) (all : List Step) (f new : Follower) (s : Step) (i : ℕ) (d : Step) (b : Bool)
    → IsTraceOf life t → FollowsStep t s f new b → b ≡ false → i < length all → s ≡ get_or all i d → Leads t life w all f (drop i all)
    → IsTrue false ↔ MayBeTakenInTurn life t w all
stops_at t life w all f new s i d b of is refused lt there leads =
    stops t life w all f new s (drop (i + 1) all) of (subst (FollowsStep t s f new) refused is) (subst (Leads t life w all f) (cut all i s d lt there) leads)

-- from the opening of a life on
pub from_opening : {E : Type 0} (t : TraceView) (base : ℕ) (starts : List Start) (steps : List Step) (f : Follower) (r : Result Bool E)
    → length t.disks ≡ length starts
    → ((life : Life) (t : TraceView) (files : ℕ → LogFileView DiskView) → life.plan.base ≡ base → length t.disks ≡ length starts
    → AreStarts life t starts files → ShowsWorld t f (opening life.plan files))
    → IfOk r (λ accepted. (life : Life) (w : World) → IsTraceOf life t → ShowsWorld t f w → IsTrue accepted ↔ MayBeTakenInTurn life t w steps)
    → IfOk r (λ accepted. (life : Life) (files : ℕ → LogFileView DiskView) → IsTraceOf life t → life.plan.base ≡ base → AreStarts life t starts files
    → IsTrue accepted ↔ MayBeTakenInTurn life t (opening life.plan files) steps)
from_opening t base starts steps f (Ok b) count shown h = λ life files of at are. h life (opening life.plan files) of (shown life t files at count are)
from_opening t base starts steps f (Err e) count shown h = tt
