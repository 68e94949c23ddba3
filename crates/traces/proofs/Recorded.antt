-- What the world has at each moment, by what was recorded.
use Rattle.std.proofs.Common.{◌≡◌, ◌≢◌, ℕ, zero, suc, ◌+◌, ◌<◌, ◌≤◌, ◌==◌, Bool, true, false, cond, Option, Some, None, Ok, List, [], ◌∷◌, ◌++◌, length, take}
use Rattle.std.proofs.Common.{refl, sym, ap, ◌∙◌, subst, arith, ⊎_elim, length-take-le, filter}
use Rattle.std.specs.Prelude.{MatchOption, fold, slice_index_or}
use Rattle.std.specs.List.{Contains, slice_get}
use Rattle.std.specs.Option.{option_map, option_map_or}
use Rattle.std.proofs.lemmas.Bool.Decides.{eqb_tells}
use Rattle.std.proofs.lemmas.List.Elements.{Contains-append_right}
use Rattle.std.proofs.lemmas.Option.{slice_get_within}
use Rattle.log_disk.specs.Memory.{Replay, nothing, after_call}
use Rattle.log_disk.specs.declared.memory_call.MemoryCall.{MemoryCall}
use Rattle.log_disk.specs.declared.memory_call.MemoryCall.TheVariants.{Write, Sync}
use Rattle.book.specs.declared.entry.Entry.{Entry}
use Rattle.logfile.specs.Standing.{LogFileView}
use Rattle.recover_crashes.specs.World.{Life, DiskView, BatchTaken, TextWritten, TextSynced, GateOpened, DeviceFailed, Flight, Idle, Flying, Logger, World}
use Rattle.recover_crashes.specs.Events.{Event, Commit, CallDevice, Release}
use Rattle.recover_crashes.specs.Events.{MayHappen, MayCall, called, on_disk, world_after}
use Rattle.recover_crashes.proofs.Lists.{each_set}
use Rattle.traces.specs.declared.step.Step.{Step}
use Rattle.traces.specs.declared.step.Step.TheVariants as step
use Rattle.traces.specs.Told.{TraceView, calls_of, disk_after, MayBeTaken, MayBeTakenInTurn, world_told, world_told_by}
use Rattle.traces.specs.First.{disk_by}
use Rattle.traces.specs.Moments.{is_commit, is_call_of}
use Rattle.traces.proofs.Beginnings.{next_taken, get_taken}

-- ---- calls of a disk
fold_more : {X Y : Type 0} (f : Y → X → Y) (z : Y) (xs : List X) (x : X) → fold f z (xs ++ x ∷ []) ≡ f (fold f z xs) x
fold_more f z [] x = refl
fold_more f z (y ∷ xs) x = fold_more f (f z y) xs x

counted : (r : Replay) (calls : List MemoryCall) → length (fold after_call r calls).story ≡ length r.story + length calls
counted r [] = omega arith
counted r (Write at bytes ∷ calls) = omega (arith, counted (after_call r (Write at bytes)) calls)
counted r (Sync ∷ calls) = omega (arith, counted (after_call r Sync) calls)

abbrev view_of : Replay → DiskView
view_of r = record { seen = r.bytes; story = r.story }

one_call_more : (calls : List MemoryCall) (k : ℕ) (call : MemoryCall) → slice_get calls k ≡ Some call
    → disk_after (disk_by (take k calls)) call ≡ disk_by (take (k + 1) calls)
one_call_more calls k call at =
    ap view_of (sym (fold_more after_call nothing (take k calls) call)) ∙ ap disk_by (next_taken calls k call at)

-- a call that may come leaves the disk so
called_disk : (f : Flight) (file : LogFileView DiskView) (d : DiskView) (x : Logger) → MayCall f file (Ok tt) d
    → (called f (Ok tt) (on_disk file d) x).file.disk ≡ d
called_disk Idle file d x may = absurd may
called_disk (Flying BatchTaken batch) file d x may = refl
called_disk (Flying TextWritten batch) file d x may = refl
called_disk (Flying TextSynced batch) file d x may = refl
called_disk (Flying GateOpened batch) file d x may = refl
called_disk (Flying DeviceFailed batch) file d x may = absurd may

-- ---- the world has so much of the history, and each disk so many calls
pub record Has (t : TraceView) (c : ℕ) (k : ℕ → ℕ) (w : World) : Type 0 where
  pub history : w.history ≡ take c t.history
  pub within : c ≤ length t.history
  pub disks : (l : ℕ) → l < length t.disks → (w.logger l).file.disk ≡ disk_by (take (k l) (calls_of t l))
  pub calls : (l : ℕ) → l < length t.disks → k l ≤ length (calls_of t l)

same_counts : (t : TraceView) (c d : ℕ) (k m : ℕ → ℕ) (w : World) → c ≡ d → ((l : ℕ) → k l ≡ m l) → Has t c k w → Has t d m w
same_counts t c d k m w commits each has = record {
  history = has.history ∙ ap (λ (n : ℕ). take n t.history) commits;
  within = omega (arith, has.within, commits);
  disks = λ l lt. has.disks l lt ∙ ap (λ (n : ℕ). disk_by (take n (calls_of t l))) (each l);
  calls = λ l lt. omega (arith, has.calls l lt, each l);
}

-- a logger whose disk stays
stays : (t : TraceView) (c : ℕ) (k : ℕ → ℕ) (w v : World) → v.history ≡ w.history → ((l : ℕ) → (v.logger l).file.disk ≡ (w.logger l).file.disk)
    → Has t c k w → Has t c k v
stays t c k w v history disks has = record {
  history = history ∙ has.history;
  within = has.within;
  disks = λ l lt. disks l ∙ has.disks l lt;
  calls = has.calls;
}

other_logger : (w : World) (k : ℕ) (x : Logger) → x.file.disk ≡ (w.logger k).file.disk → (l : ℕ)
    → (cond (l == k) x (w.logger l)).file.disk ≡ (w.logger l).file.disk
other_logger w k x same = each_set (λ l y. y.file.disk ≡ (w.logger l).file.disk) w.logger k x same (λ l other. refl)

committed : (life : Life) (t : TraceView) (c : ℕ) (k : ℕ → ℕ) (w : World) → MayBeTaken life t w step.Commit → Has t c k w
    → Has t (c + 1) k (world_told t w step.Commit)
committed life t c k w may has = by (slice_get t.history (length w.history)) refl may
  where
    by : (o : Option Entry) → slice_get t.history (length w.history) ≡ o → MatchOption (option_map Commit o) ⊥ (MayHappen life w)
        → Has t (c + 1) k (option_map_or (world_after w) (option_map Commit o) w)
    by None none never = absurd never
    by (Some e) some here =
        let at : slice_get t.history c ≡ Some e
        = ap (slice_get t.history) (sym (ap length has.history ∙ length-take-le c t.history has.within)) ∙ some in record {
          history = ap (λ (l : List Entry). l ++ e ∷ []) has.history ∙ next_taken t.history c e at;
          within = omega (arith, slice_get_within t.history c e at);
          disks = has.disks;
          calls = has.calls;
        }

-- one call more of a disk
abbrev more_at : (ℕ → ℕ) → ℕ → ℕ → ℕ
more_at k own l = k l + cond (own == l) 1 0

own_call : (life : Life) (t : TraceView) (c : ℕ) (k : ℕ → ℕ) (w : World) (own : ℕ) → length t.disks ≡ life.plan.loggers
    → MayBeTaken life t w (step.Call own) → Has t c k w → Has t c (more_at k own) (world_told t w (step.Call own))
own_call life t c k w own loggers may has = by (slice_get (calls_of t own) (length (w.logger own).file.disk.story)) refl may
  where
    event : MemoryCall → Event
    event call = CallDevice own (Ok tt) (disk_after (w.logger own).file.disk call)

    by : (o : Option MemoryCall) → slice_get (calls_of t own) (length (w.logger own).file.disk.story) ≡ o
        → MatchOption (option_map (λ call. CallDevice own (Ok tt) (disk_after (w.logger own).file.disk call)) o) ⊥ (MayHappen life w)
        → Has t c (λ l. k l + cond (own == l) 1 0)
        (option_map_or (world_after w) (option_map (λ call. CallDevice own (Ok tt) (disk_after (w.logger own).file.disk call)) o) w)
    by None none never = absurd never
    by (Some call) some here =
        let lt : own < length t.disks = omega (arith, here.0, loggers) in
        let disk = has.disks own lt in
        let count : length (w.logger own).file.disk.story ≡ k own
        = ap (λ (d : DiskView). length d.story) disk ∙ counted nothing (take (k own) (calls_of t own))
        ∙ zero_first (length-take-le (k own) (calls_of t own) (has.calls own lt)) in
        let at : slice_get (calls_of t own) (k own) ≡ Some call = ap (slice_get (calls_of t own)) (sym count) ∙ some in
        let d = disk_after (w.logger own).file.disk call in
        let new : Logger = called (w.logger own).flight (Ok tt) (on_disk (w.logger own).file d) (w.logger own) in
        let left : new.file.disk ≡ disk_by (take (k own + 1) (calls_of t own))
        = called_disk (w.logger own).flight (w.logger own).file d (w.logger own) here.1
        ∙ ap (λ (e : DiskView). disk_after e call) disk ∙ one_call_more (calls_of t own) (k own) call at in record {
          history = has.history;
          within = has.within;
          disks = each_set (λ l y. l < length t.disks → y.file.disk ≡ disk_by (take (k l + cond (own == l) 1 0) (calls_of t l))) w.logger own new
              (λ here. left ∙ ap (λ (n : ℕ). disk_by (take n (calls_of t own))) (sym (at_own (k own))))
              (λ l other less. has.disks l less ∙ ap (λ (n : ℕ). disk_by (take n (calls_of t l))) (sym (at_other l (k l) other)));
          calls = λ l less. ⊎_elim
              (λ yes. omega (arith, ap (λ (b : Bool). k l + cond b 1 0) yes.0, bound l yes.1 (slice_get_within (calls_of t own) (k own) call at)))
              (λ no. omega (arith, ap (λ (b : Bool). k l + cond b 1 0) no.0, has.calls l less))
              (eqb_tells own l);
        }
      where
        zero_first : {a b : ℕ} → a ≡ b → 0 + a ≡ b
        zero_first e = omega (arith, e)

        at_own : (n : ℕ) → n + cond (own == own) 1 0 ≡ n + 1
        at_own n = ⊎_elim (λ yes. ap (λ (b : Bool). n + cond b 1 0) yes.0) (λ no. absurd (no.1 refl)) (eqb_tells own own)

        at_other : (l n : ℕ) → l ≢ own → n + cond (own == l) 1 0 ≡ n
        at_other l n other = ⊎_elim
            (λ yes. absurd (other (sym yes.1)))
            (λ no. omega (arith, ap (λ (b : Bool). n + cond b 1 0) no.0))
            (eqb_tells own l)

        bound : (l : ℕ) → own ≡ l → k own < length (calls_of t own) → k l < length (calls_of t l)
        bound l e lt = subst (λ (j : ℕ). k j < length (calls_of t j)) e lt

-- ---- all steps
pub has_all : (life : Life) (t : TraceView) (c : ℕ) (k : ℕ → ℕ) (w : World) (steps : List Step) → length t.disks ≡ life.plan.loggers
    → MayBeTakenInTurn life t w steps → Has t c k w
    → Has t (c + length (filter is_commit steps)) (λ l. k l + length (filter (is_call_of l) steps)) (world_told_by t w steps)
has_all life t c k w [] loggers may has = same_counts t c (c + 0) k (λ l. k l + 0) w (omega arith) (λ l. omega arith) has
has_all life t c k w (step.Commit ∷ steps) loggers may has =
    same_counts t _ _ _ _ _ (omega arith) (λ l. refl)
    (has_all life t (c + 1) k (world_told t w step.Commit) steps loggers may.1 (committed life t c k w may.0 has))
has_all life t c k w (step.Take logger mark ∷ steps) loggers may has =
    has_all life t c k (world_told t w (step.Take logger mark)) steps loggers may.1
    (stays t c k w (world_told t w (step.Take logger mark)) refl (other_logger w logger _ refl) has)
has_all life t c k w (step.Advance ∷ steps) loggers may has =
    has_all life t c k (world_told t w step.Advance) steps loggers may.1 (stays t c k w (world_told t w step.Advance) refl (λ l. refl) has)
has_all life t c k w (step.Call own ∷ steps) loggers may has =
    same_counts t _ _ _ _ _ refl (λ l. one_more l (own == l))
    (has_all life t c (more_at k own) (world_told t w (step.Call own)) steps loggers may.1 (own_call life t c k w own loggers may.0 has))
  where
    one_more : (l : ℕ) (b : Bool)
        → k l + cond b 1 0 + length (filter (is_call_of l) steps) ≡ k l + length (cond b (step.Call own ∷ filter (is_call_of l) steps) (filter (is_call_of l) steps))
    one_more l true = omega arith
    one_more l false = omega arith
has_all life t c k w (step.Confirm logger ∷ steps) loggers may has =
    has_all life t c k (world_told t w (step.Confirm logger)) steps loggers may.1
    (stays t c k w (world_told t w (step.Confirm logger)) refl (other_logger w logger _ refl) has)
has_all life t c k w (step.LoadMark logger ∷ steps) loggers may has =
    has_all life t c k (world_told t w (step.LoadMark logger)) steps loggers may.1
    (stays t c k w (world_told t w (step.LoadMark logger)) refl (other_logger w logger _ refl) has)
has_all life t c k w (step.RaiseDurable logger ∷ steps) loggers may has =
    has_all life t c k (world_told t w (step.RaiseDurable logger)) steps loggers may.1
    (stays t c k w (world_told t w (step.RaiseDurable logger)) refl (other_logger w logger _ refl) has)
has_all life t c k w (step.Release place ∷ steps) loggers may has =
    has_all life t c k (world_told t w (step.Release place)) steps loggers may.1
    (stays t c k w (world_told t w (step.Release place)) (by (slice_get w.history place)) (λ l. by_logger l (slice_get w.history place)) has)
  where
    by : (o : Option Entry) → (option_map_or (world_after w) (option_map Release o) w).history ≡ w.history
    by None = refl
    by (Some e) = refl

    by_logger : (l : ℕ) (o : Option Entry) → ((option_map_or (world_after w) (option_map Release o) w).logger l).file.disk ≡ (w.logger l).file.disk
    by_logger l None = refl
    by_logger l (Some e) = refl

-- a beginning
pub taken_front : (life : Life) (t : TraceView) (w : World) (steps : List Step) → MayBeTakenInTurn life t w steps → (n : ℕ)
    → MayBeTakenInTurn life t w (take n steps)
taken_front life t w steps may zero = tt
taken_front life t w [] may (suc n) = tt
taken_front life t w (s ∷ steps) may (suc n) = (may.0, taken_front life t (world_told t w s) steps may.1 n)

-- ---- released replies stay
still_released : (t : TraceView) (w : World) (s : Step) (e : Entry) → Contains w.released e → Contains (world_told t w s).released e
still_released t w step.Commit e there = by (slice_get t.history (length w.history))
  where
    by : (o : Option Entry) → Contains (option_map_or (world_after w) (option_map Commit o) w).released e
    by None = there
    by (Some d) = there
still_released t w (step.Take logger mark) e there = there
still_released t w step.Advance e there = there
still_released t w (step.Call own) e there = by (slice_get (calls_of t own) (length (w.logger own).file.disk.story))
  where
    by : (o : Option MemoryCall)
        → Contains (option_map_or (world_after w) (option_map (λ call. CallDevice own (Ok tt) (disk_after (w.logger own).file.disk call)) o) w).released e
    by None = there
    by (Some call) = there
still_released t w (step.Confirm logger) e there = there
still_released t w (step.LoadMark logger) e there = there
still_released t w (step.RaiseDurable logger) e there = there
still_released t w (step.Release place) e there = by (slice_get w.history place)
  where
    by : (o : Option Entry) → Contains (option_map_or (world_after w) (option_map Release o) w).released e
    by None = there
    by (Some d) = Contains-append_right (d ∷ []) w.released e there

still_after : (t : TraceView) (w : World) (steps : List Step) (e : Entry) → Contains w.released e → Contains (world_told_by t w steps).released e
still_after t w [] e there = there
still_after t w (s ∷ steps) e there = still_after t (world_told t w s) steps e (still_released t w s e there)

-- a release is of what has committed
released_here : (life : Life) (t : TraceView) (c : ℕ) (k : ℕ → ℕ) (w : World) (place : ℕ) → MayBeTaken life t w (step.Release place) → Has t c k w
    → (e : Entry) → slice_get t.history place ≡ Some e → Contains (world_told t w (step.Release place)).released e
released_here life t c k w place may has e at = by (slice_get w.history place) refl may
  where
    by : (o : Option Entry) → slice_get w.history place ≡ o → MatchOption (option_map Release o) ⊥ (MayHappen life w)
        → Contains (option_map_or (world_after w) (option_map Release o) w).released e
    by None none never = absurd never
    by (Some d) some here =
        let front : slice_get (take c t.history) place ≡ Some d = ap (λ (l : List Entry). slice_get l place) (sym has.history) ∙ some in
        let early : place < c = omega (arith, slice_get_within (take c t.history) place d front, length-take-le c t.history has.within) in
        let same : Some d ≡ Some e = sym front ∙ get_taken c place t.history early ∙ at in
        let is : d ≡ e = cc in (zero, omega arith, is)

pub released_all : (life : Life) (t : TraceView) (c : ℕ) (k : ℕ → ℕ) (w : World) (steps : List Step) → length t.disks ≡ life.plan.loggers
    → MayBeTakenInTurn life t w steps → Has t c k w → (place : ℕ) → Contains steps (step.Release place) → (e : Entry) → slice_get t.history place ≡ Some e
    → Contains (world_told_by t w steps).released e
released_all life t c k w [] loggers may has place there e at = absurd (omega (arith, there.1))
released_all life t c k w (s ∷ steps) loggers may has place there e at =
    by there.0 there.1 there.2
    (λ later. released_all life t (c + length (filter is_commit (s ∷ []))) (λ l. k l + length (filter (is_call_of l) (s ∷ []))) (world_told t w s) steps loggers may.1 (has_all life t c k w (s ∷ []) loggers (may.0, tt) has) place later e at)
  where
    by : (i : ℕ) → i < length (s ∷ steps) → slice_index_or (s ∷ steps) i (step.Release place) ≡ step.Release place
        → (Contains steps (step.Release place) → Contains (world_told_by t (world_told t w s) steps).released e)
        → Contains (world_told_by t (world_told t w s) steps).released e
    by zero lt is later = still_after t (world_told t w s) steps e
        (subst (λ (x : Step). Contains (world_told t w x).released e) (sym is)
        (released_here life t c k w place (subst (MayBeTaken life t w) is may.0) has e at))
    by (suc i) lt is later = later (i, omega (arith, lt), is)
