-- What stays true between events, and that each event keeps it.
use Rattle.std.proofs.Common.{◌≡◌, ◌≢◌, ℕ, ◌+◌, ◌%◌, ◌<◌, ◌≤◌, ◌==◌, cond, List, [], ◌∷◌, ◌++◌, length, max, Result, Ok, Err, ⊎_elim, refl, sym, subst, arith}
use Rattle.std.specs.List.{All, Contains}
use Rattle.std.proofs.lemmas.Bool.{cases_eq}
use Rattle.std.proofs.Math.Nat.{max-le}
use Rattle.std.proofs.lemmas.List.Elements.{All-nil, All-cons, All-head, All-tail, All-filter, All-weaker, All-push, filter-append, Contains-append_left}
use Rattle.money.specs.declared.refusal.Refusal.{Refusal}
use Rattle.tidword.specs.TidWord.{epoch_of}
use Rattle.board.specs.Words.{last_epoch}
use Rattle.board.specs.Publishing.{IsLeastMark}
use Rattle.log_text.specs.Bodies.{BodyView}
use Rattle.book.specs.Batches.{BatchView}
use Rattle.book.specs.History.{Replays}
use Rattle.book.specs.Stamps.{AreStamped}
use Rattle.book.specs.Streams.{stream}
use Rattle.book.specs.declared.entry.Entry.{Entry}
use Rattle.log_entries.specs.Following.{IsOfVersion}
use Rattle.recover_crashes.specs.World.{Life, DiskView, Stage, BatchTaken, TextWritten, TextSynced, GateOpened, DeviceFailed, Flight, Idle, Flying, Logger, World, header_of}
use Rattle.recover_crashes.specs.Events.{Event, Commit, Take, LoadEpoch, Advance, CallDevice, Confirm, LoadMark, RaiseDurable, Release}
use Rattle.recover_crashes.specs.Events.{MayTake, MayCall, MayHappen, with_logger, on_disk, called, confirmed, with_mark, published, world_after, MayHappenInTurn, world_after_all}
use Rattle.recover_crashes.specs.Recovering.{IsFitForLogs}
use Rattle.recover_crashes.specs.Lanes.{FitsLane}
use Rattle.recover_crashes.proofs.Lists.{each_set, each_set_two}
use Rattle.recover_crashes.proofs.Batches.{of_history, is_batch}
use Rattle.recover_crashes.proofs.Lanes.{landed_by, lane_goes_on, lane_later, lane_confirmed, lane_takes, lane_called}

-- the marks that a publication has loaded, newest first, are no larger than the loggers' local marks
abbrev pub AreLoaded : (ℕ → ℕ) → List ℕ → Type 0
AreLoaded local [] = Unit {0}
AreLoaded local (mark ∷ marks) = (mark ≤ local (length marks)) × AreLoaded local marks

loaded_later : (local later : ℕ → ℕ) → ((l : ℕ) → local l ≤ later l) → (marks : List ℕ) → AreLoaded local marks → AreLoaded later marks
loaded_later local later no_less [] h = tt
loaded_later local later no_less (mark ∷ marks) h = (omega (arith, h.0, no_less (length marks)), loaded_later local later no_less marks h.1)

-- what is below all of them is below the local marks
below_loaded : (local : ℕ → ℕ) (least : ℕ) (marks : List ℕ) → AreLoaded local marks → All (λ mark. least ≤ mark) marks
    → (l : ℕ) → l < length marks → least ≤ local l
below_loaded local least [] h below l lt = absurd (omega (arith, lt))
below_loaded local least (mark ∷ marks) h below l lt = ⊎_elim
    (λ (e : l ≡ length marks). subst (λ (k : ℕ). least ≤ local k) (sym e)
    (omega (arith, h.0, All-head (λ (m : ℕ). least ≤ m) mark marks below)))
    (λ (e : l ≢ length marks). below_loaded local least marks h.1 (All-tail (λ (m : ℕ). least ≤ m) mark marks below) l (omega (arith, e, lt)))
    (cases_eq l (length marks))

abbrev pub local_of : World → ℕ → ℕ
local_of w l = (w.logger l).local

-- a reply is released of what has committed, with an epoch up to D
abbrev pub MayTell : World → Entry → Type 0
MayTell w e = Contains w.history e × (epoch_of e.tid ≤ w.durable)

-- each logger fits its stream, of which these batches came into its file behind the old bodies
abbrev pub Fits : Life → (ℕ → List BodyView) → ℕ → List Entry → ℕ → Logger → List BatchView → Type 0
Fits life old found history l x landed = l < life.plan.loggers
    → FitsLane (header_of life l) life.past found (stream life.plan.loggers l history) (old l) landed x.file x.flight x.local

pub record IsSound (life : Life) (old : ℕ → List BodyView) (w : World) : Type 0 where
  pub landed : ℕ → List BatchView
  pub lanes : (l : ℕ) → Fits life old w.found w.history l (w.logger l) (landed l)
  pub loaded : (l : ℕ) → AreLoaded (local_of w) (w.logger l).marks
  pub durable : (l : ℕ) → l < life.plan.loggers → w.durable ≤ local_of w l
  pub replays : Replays (life.past + 1) life.first w.history
  pub stamped : AreStamped w.history
  pub fit : All (IsFitForLogs life.first.scale) w.history
  pub versions : All (IsOfVersion life.version life.first.scale) w.history
  pub epochs : All (λ e. epoch_of e.tid ≤ w.found) w.history
  pub ends : w.epoch ≤ last_epoch
  pub released : All (MayTell w) w.released
  pub begun : life.plan.base < w.found
  pub new : All (λ e. life.plan.base < epoch_of e.tid) w.history
  pub lasting : life.plan.base ≤ w.durable

module _ (life : Life) (old : ℕ → List BodyView) (w : World) (sound : IsSound life old w) where
  abbrev n : ℕ
  n = life.plan.loggers

  -- one logger is another, E is found anew, and D is raised
  changes : (k : ℕ) (x : Logger) (landed : List BatchView) (found durable : ℕ) → w.found ≤ found → w.durable ≤ durable
      → Fits life old found w.history k x landed → local_of w k ≤ x.local → AreLoaded (local_of w) x.marks
      → ((l : ℕ) → l < n → durable ≤ local_of w l)
      → IsSound life old (record (with_logger w k x) { found = found; durable = durable })
  changes k x landed found durable later higher fits no_less marks below =
      let locals : (l : ℕ) → local_of w l ≤ (cond (l == k) x (w.logger l)).local
      = each_set (λ l (y : Logger). local_of w l ≤ y.local) w.logger k x no_less (λ l other. omega arith) in
      record {
        landed = λ l. cond (l == k) landed (sound.landed l);
        lanes = each_set_two (λ l y ls. Fits life old found w.history l y ls) w.logger sound.landed k x landed fits
            (λ l other lt. lane_later (header_of life l) life.past w.found (stream n l w.history) (old l) (sound.landed l) (w.logger l).file (w.logger l).flight
            (w.logger l).local (sound.lanes l lt) found later);
        loaded = each_set (λ l (y : Logger). AreLoaded (λ j. (cond (j == k) x (w.logger j)).local) y.marks) w.logger k x
            (loaded_later (local_of w) (λ j. (cond (j == k) x (w.logger j)).local) locals x.marks marks)
            (λ l other. loaded_later (local_of w) (λ j. (cond (j == k) x (w.logger j)).local) locals (w.logger l).marks (sound.loaded l));
        durable = λ l lt. omega (arith, below l lt, locals l);
        replays = sound.replays;
        stamped = sound.stamped;
        fit = sound.fit;
        versions = sound.versions;
        epochs = All-weaker (λ (e : Entry). epoch_of e.tid ≤ w.found) (λ (e : Entry). epoch_of e.tid ≤ found) (λ e low. omega (arith, low, later)) w.history
            sound.epochs;
        ends = sound.ends;
        released = All-weaker (MayTell w) (λ e. Contains w.history e × (epoch_of e.tid ≤ durable)) (λ e may. (may.0, omega (arith, may.1, higher)))
            w.released sound.released;
        begun = omega (arith, sound.begun, later);
        new = sound.new;
        lasting = omega (arith, sound.lasting, higher);
      }

  pub commits : (entry : Entry) → MayHappen life w (Commit entry) → IsSound life old (world_after w (Commit entry))
  commits entry may = record {
    landed = sound.landed;
    lanes = λ l lt. subst (λ (s : List Entry). FitsLane (header_of life l) life.past (epoch_of entry.tid) s (old l) (sound.landed l) (w.logger l).file
        (w.logger l).flight (w.logger l).local)
        (sym (filter-append (λ (e : Entry). e.terminal % n == l) w.history (entry ∷ [])))
        (lane_goes_on (header_of life l) life.past w.found (stream n l w.history) (old l) (sound.landed l) (w.logger l).file (w.logger l).flight
        (w.logger l).local (sound.lanes l lt) (epoch_of entry.tid) (stream n l (entry ∷ [])) may.later
        (All-filter (λ (e : Entry). e.terminal % n == l) (λ (e : Entry). epoch_of entry.tid ≤ epoch_of e.tid) (entry ∷ [])
        (All-cons (λ (e : Entry). epoch_of entry.tid ≤ epoch_of e.tid) entry [] (omega arith) (All-nil (λ (e : Entry). epoch_of entry.tid ≤ epoch_of e.tid)))));
    loaded = sound.loaded;
    durable = sound.durable;
    replays = may.replays;
    stamped = may.stamped;
    fit = All-push (IsFitForLogs life.first.scale) w.history entry sound.fit (record { cap = may.cap; asked = may.asked; loggable = may.loggable });
    versions = All-push (IsOfVersion life.version life.first.scale) w.history entry sound.versions may.of_version;
    epochs = All-push (λ (e : Entry). epoch_of e.tid ≤ epoch_of entry.tid) w.history entry
        (All-weaker (λ (e : Entry). epoch_of e.tid ≤ w.found) (λ (e : Entry). epoch_of e.tid ≤ epoch_of entry.tid) (λ e low. omega (arith, low, may.later))
        w.history sound.epochs)
        (omega arith);
    ends = sound.ends;
    released = All-weaker (MayTell w) (λ e. Contains (w.history ++ entry ∷ []) e × (epoch_of e.tid ≤ w.durable))
        (λ e tell. (Contains-append_left w.history (entry ∷ []) e tell.0, tell.1)) w.released sound.released;
    begun = omega (arith, sound.begun, may.later);
    new = All-push (λ (e : Entry). life.plan.base < epoch_of e.tid) w.history entry sound.new (omega (arith, sound.begun, may.later));
    lasting = sound.lasting;
  }

  pub takes : (k : ℕ) (batch : BatchView) → MayTake life w k batch → IsSound life old (world_after w (Take k batch))
  takes k batch may =
      let lane = subst (λ (f : Flight). FitsLane (header_of life k) life.past w.found (stream n k w.history) (old k) (sound.landed k) (w.logger k).file f
      (w.logger k).local) may.idle (sound.lanes k may.within) in
      changes k (record (w.logger k) { flight = Flying BatchTaken batch }) (sound.landed k) (batch.mark + 1) w.durable may.later (omega arith)
      (λ lt. lane_takes (header_of life k) life.past w.found (stream n k w.history) (old k) (sound.landed k) (w.logger k).file (w.logger k).local batch lane
      (is_batch life w k batch (old k) (sound.landed k) (w.logger k).local lane may sound.replays sound.stamped sound.fit sound.epochs sound.ends)
      (of_history life w k batch (old k) (sound.landed k) (w.logger k).local lane may (IsOfVersion life.version life.first.scale) sound.versions)
      may.continues may.entries)
      (omega arith) (sound.loaded k) sound.durable

  pub finds : (epoch : ℕ) → w.found ≤ epoch → IsSound life old (record w { found = epoch })
  finds epoch later = record {
    landed = sound.landed;
    lanes = λ l lt. lane_later (header_of life l) life.past w.found (stream n l w.history) (old l) (sound.landed l) (w.logger l).file (w.logger l).flight
        (w.logger l).local (sound.lanes l lt) epoch later;
    loaded = sound.loaded;
    durable = sound.durable;
    replays = sound.replays;
    stamped = sound.stamped;
    fit = sound.fit;
    versions = sound.versions;
    epochs = All-weaker (λ (e : Entry). epoch_of e.tid ≤ w.found) (λ (e : Entry). epoch_of e.tid ≤ epoch) (λ e low. omega (arith, low, later)) w.history
        sound.epochs;
    ends = sound.ends;
    released = sound.released;
    begun = omega (arith, sound.begun, later);
    new = sound.new;
    lasting = sound.lasting;
  }

  pub advances : w.epoch < last_epoch → IsSound life old (record w { epoch = w.epoch + 1 })
  advances below = record {
    landed = sound.landed;
    lanes = sound.lanes;
    loaded = sound.loaded;
    durable = sound.durable;
    replays = sound.replays;
    stamped = sound.stamped;
    fit = sound.fit;
    versions = sound.versions;
    epochs = sound.epochs;
    ends = omega (arith, below);
    released = sound.released;
    begun = sound.begun;
    new = sound.new;
    lasting = sound.lasting;
  }

  calls : (k : ℕ) (flight : Flight) (result : Result (Unit {0}) Refusal) (disk : DiskView) → k < n → (w.logger k).flight ≡ flight
      → MayCall flight (w.logger k).file result disk
      → IsSound life old (with_logger w k (called flight result (on_disk (w.logger k).file disk) (w.logger k)))
  calls k Idle result disk within is may = absurd may
  calls k (Flying stage batch) result disk within is may =
      let lane = subst (λ (f : Flight). FitsLane (header_of life k) life.past w.found (stream n k w.history) (old k) (sound.landed k) (w.logger k).file f
      (w.logger k).local) is (sound.lanes k within) in
      let x : Logger = called (Flying stage batch) result (on_disk (w.logger k).file disk) (w.logger k) in
      changes k x (landed_by (Flying stage batch) result (sound.landed k)) w.found w.durable (omega arith) (omega arith)
      (λ lt. lane_called (header_of life k) life.past w.found (stream n k w.history) (old k) (sound.landed k) (w.logger k) stage batch result disk lane may)
      (same_local stage result) (same_marks stage result) sound.durable
    where
      same_local : (s : Stage) (r : Result (Unit {0}) Refusal) → local_of w k ≤ (called (Flying s batch) r (on_disk (w.logger k).file disk) (w.logger k)).local
      same_local BatchTaken (Ok u) = omega arith
      same_local TextWritten (Ok u) = omega arith
      same_local TextSynced (Ok u) = omega arith
      same_local GateOpened (Ok u) = omega arith
      same_local DeviceFailed (Ok u) = omega arith
      same_local s (Err refusal) = omega arith

      same_marks : (s : Stage) (r : Result (Unit {0}) Refusal)
          → AreLoaded (local_of w) (called (Flying s batch) r (on_disk (w.logger k).file disk) (w.logger k)).marks
      same_marks BatchTaken (Ok u) = sound.loaded k
      same_marks TextWritten (Ok u) = sound.loaded k
      same_marks TextSynced (Ok u) = sound.loaded k
      same_marks GateOpened (Ok u) = sound.loaded k
      same_marks DeviceFailed (Ok u) = sound.loaded k
      same_marks s (Err refusal) = sound.loaded k

  pub confirms : (k : ℕ) → k < n → IsSound life old (with_logger w k (confirmed (w.logger k)))
  confirms k within =
      let lane = sound.lanes k within in
      changes k (confirmed (w.logger k)) (sound.landed k) w.found w.durable (omega arith) (omega arith)
      (λ lt. lane_confirmed (header_of life k) life.past w.found (stream n k w.history) (old k) (sound.landed k) (w.logger k).file (w.logger k).flight
      (w.logger k).local lane)
      lane.kept (sound.loaded k) sound.durable

  pub loads : (k : ℕ) → IsSound life old (with_logger w k (with_mark (w.logger k) (local_of w (length (w.logger k).marks))))
  loads k =
      changes k (with_mark (w.logger k) (local_of w (length (w.logger k).marks))) (sound.landed k) w.found w.durable (omega arith) (omega arith)
      (sound.lanes k) (omega arith) (omega arith, sound.loaded k) sound.durable

  pub raises : (k least : ℕ) → length (w.logger k).marks ≡ n → IsLeastMark least (w.logger k).marks
      → IsSound life old (world_after w (RaiseDurable k least))
  raises k least full is =
      changes k (published (w.logger k)) (sound.landed k) w.found (max w.durable least) (omega arith) (omega arith)
      (sound.lanes k) (omega arith) tt
      (λ l lt. max-le (sound.durable l lt) (below_loaded (local_of w) least (w.logger k).marks (sound.loaded k) is.below l (omega (arith, lt, full))))

  pub releases : (entry : Entry) → MayTell w entry → IsSound life old (record w { released = entry ∷ w.released })
  releases entry may = record {
    landed = sound.landed;
    lanes = sound.lanes;
    loaded = sound.loaded;
    durable = sound.durable;
    replays = sound.replays;
    stamped = sound.stamped;
    fit = sound.fit;
    versions = sound.versions;
    epochs = sound.epochs;
    ends = sound.ends;
    released = All-cons (MayTell w) entry w.released may sound.released;
    begun = sound.begun;
    new = sound.new;
    lasting = sound.lasting;
  }

  every_event : (event : Event) → MayHappen life w event → IsSound life old (world_after w event)
  every_event (Commit entry) may = commits entry may
  every_event (Take k batch) may = takes k batch may
  every_event (LoadEpoch epoch) may = finds epoch may.0
  every_event Advance may = advances may
  every_event (CallDevice k result disk) may = calls k (w.logger k).flight result disk may.0 refl may.1
  every_event (Confirm k) may = confirms k may
  every_event (LoadMark k) may = loads k
  every_event (RaiseDurable k least) may = raises k least may.1 may.2
  every_event (Release entry) may = releases entry may

pub all_events : (life : Life) (old : ℕ → List BodyView) (w : World) (events : List Event) → IsSound life old w → MayHappenInTurn life w events
    → IsSound life old (world_after_all w events)
all_events life old w [] sound enabled = sound
all_events life old w (event ∷ events) sound enabled =
    all_events life old (world_after w event) events (every_event life old w sound event enabled.0) enabled.1
