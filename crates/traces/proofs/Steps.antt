-- Steps, by the values of the world.
use Rattle.std.proofs.Common.{◌≡◌, ℕ, ◌+◌, ◌<◌, ◌≤◌, min, max, true, false, Some, None, Option, Ok, List, [], ◌∷◌, ◌++◌, length, take, drop}
use Rattle.std.proofs.Common.{refl, sym, ap, ◌∙◌, subst, arith, length-take-le, length-set}
use Rattle.std.specs.Prelude.{MatchOption, slice_index_or, slice_set}
use Rattle.std.specs.List.{All, Contains, slice_get}
use Rattle.std.specs.Option.{option_map, option_map_or}
use Rattle.std.proofs.Common.{⊎_elim}
use Rattle.std.proofs.Math.Dec.{leb}
use Rattle.std.proofs.lemmas.Bool.Decides.{leb_tells}
use Rattle.std.proofs.lemmas.List.{take-append-drop}
use Rattle.std.proofs.lemmas.Option.{slice_get_within, slice_get_past, get_or_from_slice_get}
use Rattle.tidword.specs.TidWord.{epoch_of}
use Rattle.board.specs.Words.{last_epoch}
use Rattle.log_disk.specs.declared.memory_call.MemoryCall.{MemoryCall}
use Rattle.book.specs.History.{Replays}
use Rattle.book.specs.Loggable.{IsLoggable}
use Rattle.book.specs.Stamps.{AreStamped}
use Rattle.book.specs.Streams.{stream}
use Rattle.book.specs.declared.entry.Entry.{Entry}
use Rattle.log_entries.specs.Logged.{writes_of}
use Rattle.log_text.specs.Writes.{are_of_version}
use Rattle.recover_crashes.specs.World.{Life, Idle, Flying, BatchTaken, Logger, World}
use Rattle.recover_crashes.specs.Events.{Event, MayHappen, world_after, with_logger, confirmed, with_mark, published, text_of}
use Rattle.recover_crashes.specs.Events.{Commit, CallDevice, Release}
use Rattle.recover_crashes.proofs.Histories.{replays_front, stamped_front}
use Rattle.traces.specs.declared.follower.Follower.{Follower}
use Rattle.traces.specs.declared.lane.Batched.{Batched}
use Rattle.traces.specs.declared.lane.Lane.{Lane}
use Rattle.traces.specs.declared.lane.Phase.TheVariants as phase
use Rattle.traces.specs.declared.step.Step.{Step}
use Rattle.traces.specs.declared.step.Step.TheVariants as step
use Rattle.traces.specs.Told.{TraceView, calls_of, disk_after, batch_at, least_mark, event_told, MayBeTaken, world_told, IsTraceOf}
use Rattle.traces.specs.Shown.{stage_of, stream_between, body_between, IsMeasured, CallsLane, IsFlight, IsLane, ShowsWorld, FollowsStep, IsWithinHistory}
use Rattle.traces.proofs.Beginnings.{next_taken, get_taken, stream_rest, holds_at}
use Rattle.traces.proofs.Marks.{is_least}
use Rattle.traces.proofs.Changes.{lanes_set, within_set}

-- what is told makes the step
told_taken : (life : Life) (t : TraceView) (w : World) (s : Step) (e : Event) → event_told t w s ≡ Some e → MayHappen life w e → MayBeTaken life t w s
told_taken life t w s e told may = subst (λ (o : Option Event). MatchOption o ⊥ (MayHappen life w)) (sym told) may

taken_told : (life : Life) (t : TraceView) (w : World) (s : Step) (e : Event) → event_told t w s ≡ Some e → MayBeTaken life t w s → MayHappen life w e
taken_told life t w s e told may = subst (λ (o : Option Event). MatchOption o ⊥ (MayHappen life w)) told may

none_told : (life : Life) (t : TraceView) (w : World) (s : Step) → event_told t w s ≡ None → MayBeTaken life t w s → ⊥
none_told life t w s told may = subst (λ (o : Option Event). MatchOption o ⊥ (MayHappen life w)) told may

world_of_told : (t : TraceView) (w : World) (s : Step) (e : Event) → event_told t w s ≡ Some e → world_told t w s ≡ world_after w e
world_of_told t w s e told = ap (λ (o : Option Event). option_map_or (world_after w) o w) told

-- a step that is refused, and one that is followed
pub refused : (t : TraceView) (s : Step) (old new : Follower)
    → ((life : Life) (w : World) → IsTraceOf life t → ShowsWorld t old w → MayBeTaken life t w s → ⊥) → FollowsStep t s old new false
refused t s old new not = record {
  exact = λ life w of h. (λ yes. absurd cc, λ may. absurd (not life w of h may));
  shown = λ w h yes. absurd cc;
}

pub followed : (t : TraceView) (s : Step) (old new : Follower)
    → ((life : Life) (w : World) → IsTraceOf life t → ShowsWorld t old w → MayBeTaken life t w s)
    → ((w : World) → ShowsWorld t old w → ShowsWorld t new (world_told t w s)) → FollowsStep t s old new true
followed t s old new may shown = record {
  exact = λ life w of h. (λ yes. may life w of h, λ may. refl);
  shown = λ w h yes. shown w h;
}

-- how much has committed
committed_is : (t : TraceView) (f : Follower) (w : World) → ShowsWorld t f w → length w.history ≡ f.committed
committed_is t f w h = ap length h.history ∙ length-take-le f.committed t.history h.within

-- the lane of a logger
lane_of : (t : TraceView) (f : Follower) (w : World) → ShowsWorld t f w → (k : ℕ) (lane : Lane) → slice_get f.lanes.items k ≡ Some lane
    → (k < length t.disks) × IsLane t k lane (w.logger k) × IsWithinHistory f.committed lane
lane_of t f w h k lane at =
    let lt : k < length t.disks = omega (arith, slice_get_within f.lanes.items k lane at, h.count) in
    let is = get_or_from_slice_get f.lanes.items k lane lane at in (
      lt,
      subst (λ (y : Lane). IsLane t k y (w.logger k)) is (h.lanes k lt lane),
      subst (IsWithinHistory f.committed) is (h.behind k lt lane),
    )

-- ---- a commit
module _ (t : TraceView) (f : Follower) where
  commit_told : (w : World) → ShowsWorld t f w → (e : Entry) → slice_get t.history f.committed ≡ Some e → event_told t w step.Commit ≡ Some (Commit e)
  commit_told w h e at = ap (λ (n : ℕ). option_map Commit (slice_get t.history n)) (committed_is t f w h) ∙ ap (option_map Commit) at

  pub commit_is_none : (new : Follower) → length t.history ≤ f.committed → FollowsStep t step.Commit f new false
  commit_is_none new past = refused t step.Commit f new (λ life w of h. none_told life t w step.Commit
      (ap (λ (n : ℕ). option_map Commit (slice_get t.history n)) (committed_is t f w h)
      ∙ ap (option_map Commit) (slice_get_past t.history f.committed past)))

  pub commit_is_refused : (new : Follower) (e : Entry) → slice_get t.history f.committed ≡ Some e
      → (f.found ≤ epoch_of e.tid → epoch_of e.tid ≤ f.epoch → e.number ≤ t.scale.commits → ⊥) → FollowsStep t step.Commit f new false
  commit_is_refused new e at not = refused t step.Commit f new (λ life w of h may.
      let is = taken_told life t w step.Commit (Commit e) (commit_told w h e at) may in
      not (omega (arith, is.later, h.found)) (omega (arith, is.loaded, h.epoch))
      (subst (λ s. e.number ≤ s.commits) (sym of.scale) is.cap))

  pub commit_is_followed : (e : Entry) → slice_get t.history f.committed ≡ Some e → f.found ≤ epoch_of e.tid → epoch_of e.tid ≤ f.epoch
      → e.number ≤ t.scale.commits → (found committed : ℕ) → found ≡ epoch_of e.tid → committed ≡ f.committed + 1
      → FollowsStep t step.Commit f (record f { found = found; committed = committed }) true
  commit_is_followed e at later loaded cap found committed found_is committed_is' =
      followed t step.Commit f (record f { found = found; committed = committed })
      (λ life w of h. told_taken life t w step.Commit (Commit e) (commit_told w h e at)
      (let one = ap (λ (l : List Entry). l ++ e ∷ []) h.history ∙ next_taken t.history f.committed e at in
      let whole = sym (take-append-drop (f.committed + 1) t.history) in record {
        replays = subst (Replays (life.past + 1) life.first) (sym one)
            (replays_front (life.past + 1) life.first (take (f.committed + 1) t.history) (drop (f.committed + 1) t.history)
            (subst (Replays (life.past + 1) life.first) whole of.replays));
        stamped = subst AreStamped (sym one)
            (stamped_front (take (f.committed + 1) t.history) (drop (f.committed + 1) t.history) (subst AreStamped whole of.stamped));
        cap = subst (λ s. e.number ≤ s.commits) of.scale cap;
        asked = holds_at (λ (d : Entry). d.terminal < Rattle.tables.specs.declared.limits.TheConstants.MAX_TERMINALS) t.history f.committed e of.asked at;
        loggable = holds_at (IsLoggable life.first.scale) t.history f.committed e of.loggable at;
        of_version = ap (λ (n : ℕ). are_of_version n (writes_of life.first.scale e.writes)) of.version;
        later = omega (arith, later, h.found);
        loaded = omega (arith, loaded, h.epoch);
      }))
      (λ w h. subst (ShowsWorld t (record f { found = found; committed = committed })) (sym (world_of_told t w step.Commit (Commit e) (commit_told w h e at))) (record {
        epoch = h.epoch;
        found = sym found_is;
        durable = h.durable;
        history = ap (λ (l : List Entry). l ++ e ∷ []) h.history ∙ next_taken t.history f.committed e at
            ∙ ap (λ (n : ℕ). take n t.history) (sym committed_is');
        within = omega (arith, slice_get_within t.history f.committed e at, committed_is');
        count = h.count;
        lanes = h.lanes;
        behind = λ l lt d. within_more f.committed committed (slice_index_or f.lanes.items l d) (omega (arith, committed_is')) (h.behind l lt d);
      }))
    where
      within_more : (a b : ℕ) (lane : Lane) → a ≤ b → IsWithinHistory a lane → IsWithinHistory b lane
      within_more a b lane no_less is = record {
        taken = omega (arith, no_less, is.taken);
        until = by lane.batched is.until;
      }
        where
          by : (o : Option Batched) → Rattle.std.specs.Prelude.IfSome o (λ c. c.until ≤ a) → Rattle.std.specs.Prelude.IfSome o (λ c. c.until ≤ b)
          by None _ = tt
          by (Some c) low = omega (arith, low, no_less)

-- ---- the clock
module _ (t : TraceView) (f : Follower) where
  pub advance_is_refused : (new : Follower) → last_epoch ≤ f.epoch → FollowsStep t step.Advance f new false
  advance_is_refused new last = refused t step.Advance f new (λ life w of h may. omega (arith, may, h.epoch, last))

  pub advance_is_followed : (epoch : ℕ) → f.epoch < last_epoch → epoch ≡ f.epoch + 1 → FollowsStep t step.Advance f (record f { epoch = epoch }) true
  advance_is_followed epoch lt is = followed t step.Advance f (record f { epoch = epoch })
      (λ life w of h. omega (arith, lt, h.epoch))
      (λ w h. record {
        epoch = ap (λ (n : ℕ). n + 1) h.epoch ∙ sym is;
        found = h.found;
        durable = h.durable;
        history = h.history;
        within = h.within;
        count = h.count;
        lanes = h.lanes;
        behind = h.behind;
      })

-- ---- a release
module _ (t : TraceView) (f : Follower) (place : ℕ) where
  release_told : (w : World) → ShowsWorld t f w → event_told t w (step.Release place) ≡ option_map Release (slice_get (take f.committed t.history) place)
  release_told w h = ap (λ (l : List Entry). option_map Release (slice_get l place)) h.history

  pub release_is_late : (new : Follower) → f.committed ≤ place → FollowsStep t (step.Release place) f new false
  release_is_late new past = refused t (step.Release place) f new (λ life w of h. none_told life t w (step.Release place)
      (release_told w h ∙ ap (option_map Release)
      (slice_get_past (take f.committed t.history) place (omega (arith, length-take-le f.committed t.history h.within, past)))))

  pub release_is_past : (new : Follower) → place < f.committed → length t.history ≤ place → FollowsStep t (step.Release place) f new false
  release_is_past new early past = refused t (step.Release place) f new (λ life w of h may. omega (arith, early, past, h.within))

  module _ (e : Entry) (early : place < f.committed) (at : slice_get t.history place ≡ Some e) where
    released : (w : World) → ShowsWorld t f w → event_told t w (step.Release place) ≡ Some (Release e)
    released w h = release_told w h ∙ ap (option_map Release) (get_taken f.committed place t.history early ∙ at)

    there : (w : World) → ShowsWorld t f w → Contains w.history e
    there w h =
        let of_beginning = get_taken f.committed place t.history early ∙ at in
        subst (λ (l : List Entry). Contains l e) (sym h.history) (
          place,
          slice_get_within (take f.committed t.history) place e of_beginning,
          get_or_from_slice_get (take f.committed t.history) place e e of_beginning,
        )

    pub release_is_refused : (new : Follower) → f.durable < epoch_of e.tid → FollowsStep t (step.Release place) f new false
    release_is_refused new above = refused t (step.Release place) f new (λ life w of h may.
        omega (arith, above, h.durable, (taken_told life t w (step.Release place) (Release e) (released w h) may).1))

    pub release_is_followed : epoch_of e.tid ≤ f.durable → FollowsStep t (step.Release place) f f true
    release_is_followed low = followed t (step.Release place) f f
        (λ life w of h. told_taken life t w (step.Release place) (Release e) (released w h) (there w h, omega (arith, low, h.durable)))
        (λ w h. subst (ShowsWorld t f) (sym (world_of_told t w (step.Release place) (Release e) (released w h))) (record {
          epoch = h.epoch;
          found = h.found;
          durable = h.durable;
          history = h.history;
          within = h.within;
          count = h.count;
          lanes = h.lanes;
          behind = h.behind;
        }))

    pub release_is_judged : (epoch : ℕ) → epoch ≡ epoch_of e.tid → FollowsStep t (step.Release place) f f (leb epoch f.durable)
    release_is_judged epoch is = ⊎_elim
        (λ yes. subst (FollowsStep t (step.Release place) f f) (sym yes.0) (release_is_followed (omega (arith, yes.1, is))))
        (λ no. subst (FollowsStep t (step.Release place) f f) (sym no.0) (release_is_refused f (omega (arith, no.1, is))))
        (leb_tells epoch f.durable)

-- ---- steps of one logger
no_logger : (life : Life) (t : TraceView) (f : Follower) (w : World) → IsTraceOf life t → ShowsWorld t f w → (k : ℕ)
    → length f.lanes.items ≤ k → k < life.plan.loggers → ⊥
no_logger life t f w of h k past lt = omega (arith, past, lt, h.count, of.loggers)

module _ (t : TraceView) (f : Follower) (k : ℕ) where
  pub take_of_none : (new : Follower) (mark : ℕ) → length f.lanes.items ≤ k → FollowsStep t (step.Take k mark) f new false
  take_of_none new mark past = refused t (step.Take k mark) f new (λ life w of h may. no_logger life t f w of h k past may.within)

  pub confirm_of_none : (new : Follower) → length f.lanes.items ≤ k → FollowsStep t (step.Confirm k) f new false
  confirm_of_none new past = refused t (step.Confirm k) f new (λ life w of h may. no_logger life t f w of h k past may)

  pub load_of_none : (new : Follower) → length f.lanes.items ≤ k → FollowsStep t (step.LoadMark k) f new false
  load_of_none new past = refused t (step.LoadMark k) f new (λ life w of h may. no_logger life t f w of h k past may.0)

  pub raise_of_none : (new : Follower) → length f.lanes.items ≤ k → FollowsStep t (step.RaiseDurable k) f new false
  raise_of_none new past = refused t (step.RaiseDurable k) f new (λ life w of h may. no_logger life t f w of h k past may.0)

  pub call_of_none : (new : Follower) → length f.lanes.items ≤ k → FollowsStep t (step.Call k) f new false
  call_of_none new past = refused t (step.Call k) f new (λ life w of h may.
      no_logger life t f w of h k past (called_below life w may))
    where
      called_below : (life : Life) (w : World) → MayBeTaken life t w (step.Call k) → k < life.plan.loggers
      called_below life w = by (slice_get (calls_of t k) (length (w.logger k).file.disk.story))
        where
          by : (o : Option MemoryCall)
              → MatchOption (option_map (λ call. CallDevice k (Ok tt) (disk_after (w.logger k).file.disk call)) o) ⊥ (MayHappen life w)
              → k < life.plan.loggers
          by None never = absurd never
          by (Some call) may = may.0

module _ (t : TraceView) (f : Follower) (k : ℕ) (lane : Lane) (at : slice_get f.lanes.items k ≡ Some lane) where
  -- values of which this logger's lane, found and D change
  set_to : (new : Follower) (changed : Lane) (w v : World) (x : Logger) → ShowsWorld t f w → ((l : ℕ) → v.logger l ≡ w.logger l)
      → new.lanes.items ≡ slice_set f.lanes.items k changed → IsLane t k changed x → IsWithinHistory f.committed changed
      → v.epoch ≡ new.epoch → v.found ≡ new.found → v.durable ≡ new.durable → v.history ≡ w.history → new.committed ≡ f.committed
      → ShowsWorld t new (with_logger v k x)
  set_to new changed w v x h same items is within epoch found durable history committed =
      let own = lane_of t f w h k lane at in record {
        epoch = epoch;
        found = found;
        durable = durable;
        history = history ∙ h.history ∙ ap (λ (n : ℕ). take n t.history) (sym committed);
        within = omega (arith, h.within, committed);
        count = ap length items ∙ length-set f.lanes.items k changed ∙ h.count;
        lanes = λ l lt d. subst (λ (lanes : List Lane). IsLane t l (slice_index_or lanes l d) ((with_logger v k x).logger l)) (sym items)
            (lanes_set t f w h k own.0 changed v x same is l lt d);
        behind = λ l lt d. subst (λ (n : ℕ). IsWithinHistory n (slice_index_or new.lanes.items l d)) (sym committed)
            (subst (λ (lanes : List Lane). IsWithinHistory f.committed (slice_index_or lanes l d)) (sym items)
            (within_set t f w h k own.0 changed within l lt d));
      }

  -- a take
  pub take_is_refused : (new : Follower) (mark : ℕ) → (lane.batched ≡ None → mark < f.epoch → f.found ≤ mark + 1 → ⊥)
      → FollowsStep t (step.Take k mark) f new false
  take_is_refused new mark not = refused t (step.Take k mark) f new (λ life w of h may.
      let own = lane_of t f w h k lane at in
      not (idle (w.logger k) own.1 lane.batched refl may.idle) (omega (arith, may.loaded, h.epoch)) (omega (arith, may.later, h.found)))
    where
      idle : (x : Logger) → IsLane t k lane x → (o : Option Batched) → lane.batched ≡ o → x.flight ≡ Idle → lane.batched ≡ None
      idle x is None none flight = none
      idle x is (Some b) some flight =
          let g = subst (λ o. IsFlight t k lane.taken o x.flight) some is.flight in
          let never : Idle ≡ Flying _ _ = sym flight ∙ g.is in absurd cc

  pub take_is_followed : (new : Follower) (mark : ℕ) (b : Batched) → lane.batched ≡ None → mark < f.epoch → f.found ≤ mark + 1
      → b.phase ≡ phase.BatchTaken → b.mark ≡ mark → b.until ≡ f.committed
      → new.lanes.items ≡ slice_set f.lanes.items k (record lane { batched = Some b })
      → new.epoch ≡ f.epoch → new.found ≡ mark + 1 → new.durable ≡ f.durable → new.committed ≡ f.committed
      → FollowsStep t (step.Take k mark) f new true
  take_is_followed new mark b none loaded later phase_is mark_is until_is items epoch found durable committed =
      followed t (step.Take k mark) f new
      (λ life w of h. let own = lane_of t f w h k lane at in record {
        within = omega (arith, own.0, of.loggers);
        idle = subst (λ o. IsFlight t k lane.taken o (w.logger k).flight) none own.1.flight;
        continues = record { logger = refl; loggers = refl; scale = refl; seed = refl; first = refl; number_before = refl; mark_before = refl };
        entries = ap (λ (n : ℕ). drop (w.logger k).file.count (stream n k w.history)) of.loggers;
        later = omega (arith, later, h.found);
        loaded = omega (arith, loaded, h.epoch);
      })
      (λ w h. let own = lane_of t f w h k lane at in
      let batch = batch_at (length t.disks) w k mark in
      set_to new (record lane { batched = Some b }) w (record w { found = mark + 1 }) (record (w.logger k) { flight = Flying BatchTaken batch }) h (λ l. refl) items
      (record {
        calls = own.1.calls;
        end = own.1.end;
        scale = own.1.scale;
        mark = own.1.mark;
        count = own.1.count;
        flight = record {
          batch = batch;
          is = ap (λ p. Flying (stage_of p) batch) (sym phase_is);
          mark = sym mark_is;
          scale = own.1.scale;
          entries = ap (λ (l : List Entry). drop (w.logger k).file.count (stream (length t.disks) k l)) h.history
              ∙ stream_rest t k lane.taken f.committed (w.logger k).file.count own.2.taken own.1.count
              ∙ ap (λ (n : ℕ). stream_between t k lane.taken n) (sym until_is);
          rises = omega (arith, own.2.taken, until_is);
          measured = subst (λ p. IsMeasured p b.length (length (text_of (body_between t k b.mark lane.taken b.until)))) (sym phase_is) tt;
        };
        local = own.1.local;
        loaded = own.1.loaded;
        least = own.1.least;
      })
      (record { taken = own.2.taken; until = omega (arith, until_is) })
      (h.epoch ∙ sym epoch) (sym found) (h.durable ∙ sym durable) refl committed)

  -- a confirm
  pub confirm_is_followed : (new : Follower) → new.lanes.items ≡ slice_set f.lanes.items k (record lane { local = lane.mark })
      → new.epoch ≡ f.epoch → new.found ≡ f.found → new.durable ≡ f.durable → new.committed ≡ f.committed
      → FollowsStep t (step.Confirm k) f new true
  confirm_is_followed new items epoch found durable committed =
      followed t (step.Confirm k) f new
      (λ life w of h. let own = lane_of t f w h k lane at in omega (arith, own.0, of.loggers))
      (λ w h. let own = lane_of t f w h k lane at in
      set_to new (record lane { local = lane.mark }) w w (confirmed (w.logger k)) h (λ l. refl) items
      (record {
        calls = own.1.calls;
        end = own.1.end;
        scale = own.1.scale;
        mark = own.1.mark;
        count = own.1.count;
        flight = own.1.flight;
        local = own.1.mark;
        loaded = own.1.loaded;
        least = own.1.least;
      })
      (record { taken = own.2.taken; until = own.2.until })
      (h.epoch ∙ sym epoch) (h.found ∙ sym found) (h.durable ∙ sym durable) refl committed)

  -- a load of a local mark
  pub load_is_refused : (new : Follower) → length f.lanes.items ≤ lane.loaded → FollowsStep t (step.LoadMark k) f new false
  load_is_refused new all = refused t (step.LoadMark k) f new (λ life w of h may.
      let own = lane_of t f w h k lane at in omega (arith, may.1, own.1.loaded, all, h.count, of.loggers))

  pub load_is_followed : (new : Follower) (next : Lane) (least : ℕ) → slice_get f.lanes.items lane.loaded ≡ Some next
      → (lane.loaded ≡ 0 → least ≡ next.local) → (0 < lane.loaded → least ≡ min next.local lane.least)
      → new.lanes.items ≡ slice_set f.lanes.items k (record lane { loaded = lane.loaded + 1; least = least })
      → new.epoch ≡ f.epoch → new.found ≡ f.found → new.durable ≡ f.durable → new.committed ≡ f.committed
      → FollowsStep t (step.LoadMark k) f new true
  load_is_followed new next least there first later items epoch found durable committed =
      followed t (step.LoadMark k) f new
      (λ life w of h. let own = lane_of t f w h k lane at in
      let other = lane_of t f w h lane.loaded next there in
      (omega (arith, own.0, of.loggers), omega (arith, own.1.loaded, other.0, of.loggers)))
      (λ w h. let own = lane_of t f w h k lane at in
      let other = lane_of t f w h lane.loaded next there in
      let mark = (w.logger (length (w.logger k).marks)).local in
      let mark_is : mark ≡ next.local = ap (λ (n : ℕ). (w.logger n).local) own.1.loaded ∙ other.1.local in
      set_to new (record lane { loaded = lane.loaded + 1; least = least }) w w (with_mark (w.logger k) mark) h (λ l. refl) items
      (record {
        calls = own.1.calls;
        end = own.1.end;
        scale = own.1.scale;
        mark = own.1.mark;
        count = own.1.count;
        flight = own.1.flight;
        local = own.1.local;
        loaded = omega (arith, own.1.loaded);
        least = least_is (w.logger k).marks mark own.1.loaded own.1.least mark_is;
      })
      (record { taken = own.2.taken; until = own.2.until })
      (h.epoch ∙ sym epoch) (h.found ∙ sym found) (h.durable ∙ sym durable) refl committed)
    where
      least_is : (marks : List ℕ) (mark : ℕ) → length marks ≡ lane.loaded → least_mark marks ≡ lane.least → mark ≡ next.local
          → least_mark (mark ∷ marks) ≡ least
      least_is [] mark count is mark_is = mark_is ∙ sym (first (sym count))
      least_is (other ∷ marks) mark count is mark_is =
          ap (λ (n : ℕ). min n (least_mark (other ∷ marks))) mark_is ∙ ap (λ (n : ℕ). min next.local n) is ∙ sym (later (omega (arith, count)))

  -- D is raised
  pub raise_is_refused : (new : Follower) → (lane.loaded ≡ length f.lanes.items → ⊥) → FollowsStep t (step.RaiseDurable k) f new false
  raise_is_refused new not = refused t (step.RaiseDurable k) f new (λ life w of h may.
      let own = lane_of t f w h k lane at in not (omega (arith, may.1, own.1.loaded, h.count, of.loggers)))

  pub raise_is_followed : (new : Follower) → lane.loaded ≡ length f.lanes.items
      → new.lanes.items ≡ slice_set f.lanes.items k (record lane { loaded = 0; least = 0 })
      → new.epoch ≡ f.epoch → new.found ≡ f.found → new.durable ≡ max f.durable lane.least → new.committed ≡ f.committed
      → FollowsStep t (step.RaiseDurable k) f new true
  raise_is_followed new all items epoch found durable committed =
      followed t (step.RaiseDurable k) f new
      (λ life w of h. let own = lane_of t f w h k lane at in (
        omega (arith, own.0, of.loggers),
        omega (arith, own.1.loaded, all, h.count, of.loggers),
        is_least (w.logger k).marks (omega (arith, own.1.loaded, all, own.0, h.count)),
      ))
      (λ w h. let own = lane_of t f w h k lane at in
      set_to new (record lane { loaded = 0; least = 0 }) w (record w { durable = max w.durable (least_mark (w.logger k).marks) }) (published (w.logger k)) h (λ l. refl) items
      (record {
        calls = own.1.calls;
        end = own.1.end;
        scale = own.1.scale;
        mark = own.1.mark;
        count = own.1.count;
        flight = own.1.flight;
        local = own.1.local;
        loaded = refl;
        least = refl;
      })
      (record { taken = own.2.taken; until = own.2.until })
      (h.epoch ∙ sym epoch) (h.found ∙ sym found)
      (ap (λ (n : ℕ). max n (least_mark (w.logger k).marks)) h.durable ∙ ap (λ (n : ℕ). max f.durable n) own.1.least ∙ sym durable) refl committed)

  -- a call
  call_told : (w : World) → ShowsWorld t f w → event_told t w (step.Call k)
      ≡ option_map (λ call. CallDevice k (Ok tt) (disk_after (w.logger k).file.disk call)) (slice_get (calls_of t k) lane.calls)
  call_told w h = ap (λ (n : ℕ). option_map (λ call. CallDevice k (Ok tt) (disk_after (w.logger k).file.disk call)) (slice_get (calls_of t k) n))
      (lane_of t f w h k lane at).1.calls

  pub call_is_none : (new : Follower) → length (calls_of t k) ≤ lane.calls → FollowsStep t (step.Call k) f new false
  call_is_none new past = refused t (step.Call k) f new (λ life w of h. none_told life t w (step.Call k)
      (call_told w h ∙ ap (option_map (λ call. CallDevice k (Ok tt) (disk_after (w.logger k).file.disk call)))
      (slice_get_past (calls_of t k) lane.calls past)))

  module _ (call : MemoryCall) (there : slice_get (calls_of t k) lane.calls ≡ Some call) where
    calls_it : (w : World) → ShowsWorld t f w → event_told t w (step.Call k) ≡ Some (CallDevice k (Ok tt) (disk_after (w.logger k).file.disk call))
    calls_it w h = call_told w h ∙ ap (option_map (λ c. CallDevice k (Ok tt) (disk_after (w.logger k).file.disk c))) there

    pub call_is_refused : (new : Follower) → CallsLane t k lane call None → FollowsStep t (step.Call k) f new false
    call_is_refused new not = refused t (step.Call k) f new (λ life w of h may.
        not (w.logger k) (lane_of t f w h k lane at).1
        (taken_told life t w (step.Call k) (CallDevice k (Ok tt) (disk_after (w.logger k).file.disk call)) (calls_it w h) may).1)

    pub call_is_followed : (new : Follower) (next : Lane) → CallsLane t k lane call (Some next)
        → new.lanes.items ≡ slice_set f.lanes.items k next
        → new.epoch ≡ f.epoch → new.found ≡ f.found → new.durable ≡ f.durable → new.committed ≡ f.committed
        → FollowsStep t (step.Call k) f new true
    call_is_followed new next leads items epoch found durable committed =
        followed t (step.Call k) f new
        (λ life w of h. let own = lane_of t f w h k lane at in
        told_taken life t w (step.Call k) (CallDevice k (Ok tt) (disk_after (w.logger k).file.disk call)) (calls_it w h)
        (omega (arith, own.0, of.loggers), (leads (w.logger k) own.1).0))
        (λ w h. let own = lane_of t f w h k lane at in
        let to = leads (w.logger k) own.1 in
        subst (ShowsWorld t new) (sym (world_of_told t w (step.Call k) (CallDevice k (Ok tt) (disk_after (w.logger k).file.disk call)) (calls_it w h)))
        (set_to new next w w _ h (λ l. refl) items to.1 (to.2 f.committed own.2)
        (h.epoch ∙ sym epoch) (h.found ∙ sym found) (h.durable ∙ sym durable) refl committed))
