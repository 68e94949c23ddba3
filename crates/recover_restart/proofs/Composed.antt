-- What the calls of a restart do over the lives of a database, in turn: events, and the worlds to which they lead.
use Rattle.std.proofs.Common.{◌≡◌, inl, inr, true, ℕ, zero, suc, ◌+◌, ◌<◌, ◌≤◌, List, [], ◌∷◌, Result, length, refl, sym, ap, ◌∙◌, subst, arith}
use Rattle.money.specs.declared.refusal.Refusal.{Refusal}
use Rattle.log_disk.specs.Calls.{Wrote, Synced, written}
use Rattle.log_disk.specs.Crashes.{MayLeave}
use Rattle.log_text.specs.Bodies.{BodyView}
use Rattle.logfile.specs.Called.{StoreLeft}
use Rattle.logfile.specs.Refused.{after_syncs}
use Rattle.logfile.specs.Standing.{LogFileView}
use Rattle.book.specs.declared.entry.Entry.{Entry}
use Rattle.recover_crashes.specs.Events.{IsCalled, on_disk, text_of}
use Rattle.recover_crashes.specs.World.{DiskView, BatchTaken, TextWritten, TextSynced, GateOpened, DeviceFailed}
use Rattle.recover_lives.specs.Events.{SyncDisk, Read, Declare, CallVoid, FilesAreRead, MayDeclare, void_body, with_one, with_void, step_after, file_after}
use Rattle.recover_lives.specs.World.{Origin, Declaring, Waits, Declares, Declared, Lives, Down, Restarting}
use Rattle.recover_restart.specs.Declaring.{no_failure, device_failure}
use Rattle.recover_restart.specs.Lives.{MayLead}
use Rattle.recover_restart.specs.Restarting.{HasLost}
use Rattle.recover_restart.proofs.Leading.{with_same, with_again, with_own, set_below, set_behind, set_front, stays, by_one, and_then, in_turn}

-- a disk after so many syncs more
abbrev pub synced : ℕ → DiskView → DiskView
synced n disk = record { seen = disk.seen; story = after_syncs n disk.seen disk.story }

-- a read of it gives what a crash may leave
abbrev pub Gives : DiskView → Type 0
Gives disk = MayLeave disk.story disk.seen

-- ---- disks are synced and read
module _ (o : Origin) (durable : ℕ) (history released : List Entry) where
  abbrev down : (ℕ → DiskView) → Lives
  down disks = Down disks durable history released

  one_synced : (n : ℕ) (disks : ℕ → DiskView) (k : ℕ) → k < o.loggers → Gives (disks k)
      → MayLead o (down disks) (down (with_one disks k (synced n (disks k))))
  one_synced zero disks k within gives =
      subst (λ (now : ℕ → DiskView). MayLead o (down disks) (down now)) (sym (with_own disks k)) (stays o (down disks))
  one_synced (suc n) disks k within gives =
      let next : DiskView = record { seen = (disks k).seen; story = Synced (disks k).seen ∷ (disks k).story } in
      let now : ℕ → DiskView = with_one disks k next in
      let here : now k ≡ next = with_same disks k next in
      let same : with_one now k (synced n (now k)) ≡ with_one disks k (synced n next)
      = ap (λ (d : DiskView). with_one now k (synced n d)) here ∙ with_again disks k next (synced n next) in
      and_then o (down disks) (down now) (down (with_one disks k (synced n next)))
      (by_one o (down disks) (SyncDisk k next) (within, record { gives = gives; seen = refl; story = refl }))
      (subst (λ (ds : ℕ → DiskView). MayLead o (down now) (down ds)) same
      (one_synced n now k within (subst Gives (sym here) refl)))

  pub all_synced : (old new : ℕ → DiskView) → ((l : ℕ) → l < o.loggers → Gives (old l))
      → ((l : ℕ) → l < o.loggers → (n : ℕ) × (new l ≡ synced n (old l)))
      → MayLead o (down old) (down (set_below o.loggers new old))
  all_synced old new gives syncs = in_turn o o.loggers (λ k. down (set_below k new old)) (λ k less.
      let now : ℕ → DiskView = set_below k new old in
      let here : now k ≡ old k = set_behind k new old k (omega arith) in
      let is = syncs k less in
      subst (λ (d : DiskView). MayLead o (down now) (down (with_one now k d))) (ap (synced is.0) here ∙ sym is.1)
      (one_synced is.0 now k less (subst Gives (sym here) (gives k less))))

  pub all_read : (old new : ℕ → DiskView) → ((l : ℕ) → l < o.loggers → Gives (old l))
      → ((l : ℕ) → l < o.loggers → (n : ℕ) × (new l ≡ synced n (old l)))
      → (bodies : ℕ → List BodyView) (found top : ℕ) (files : ℕ → LogFileView DiskView)
      → FilesAreRead o new bodies found top files
      → MayLead o (down old) (Restarting bodies found top files (λ l. Waits) history released)
  all_read old new gives syncs bodies found top files is =
      let now : ℕ → DiskView = set_below o.loggers new old in
      and_then o (down old) (down now) (Restarting bodies found top files (λ l. Waits) history released)
      (all_synced old new gives syncs)
      (by_one o (down now) (Read bodies found top files) (record {
        opened = is.opened;
        disk = λ l less. is.disk l less ∙ sym (set_front o.loggers new old l less);
        gives = λ l less. subst Gives (sym (set_front o.loggers new old l less)) (is.gives l less);
        short = λ l less. omega (arith, is.short l less, ap (λ (d : DiskView). length d.seen) (set_front o.loggers new old l less));
        is_durable = is.is_durable;
        is_top = is.is_top;
        room = is.room;
      }))

-- ---- epochs are declared void
-- a file gets the void body by four calls of its device, one an event, of which the last leaves the disk as it is then
pub record AreVoidCalls (durable top : ℕ) (old new : LogFileView DiskView) : Type 0 where
  pub one : DiskView
  pub two : DiskView
  pub three : DiskView
  pub text_written : IsCalled BatchTaken (void_body durable top) old no_failure one
  pub text_synced : IsCalled TextWritten (void_body durable top) (on_disk old one) no_failure two
  pub gate_opened : IsCalled TextSynced (void_body durable top) (on_disk old two) no_failure three
  pub gate_synced : IsCalled GateOpened (void_body durable top) (on_disk old three) no_failure new.disk
  pub behind : new ≡ with_void (on_disk old new.disk) (void_body durable top) top

pub void_calls : (durable top : ℕ) (old new : LogFileView DiskView) → HasLost durable top old new
    → AreVoidCalls durable top old new
void_calls durable top old new is =
    let text : List ℕ = text_of (void_body durable top) in
    let bytes : List ℕ = written old.disk.seen (old.end + 1) text in
    record {
      one = record { seen = bytes; story = Wrote (old.end + 1) (length text) ∷ old.disk.story };
      two = record { seen = bytes; story = Synced bytes ∷ Wrote (old.end + 1) (length text) ∷ old.disk.story };
      three = record {
        seen = written bytes old.end (1 ∷ []);
        story = Wrote old.end 1 ∷ Synced bytes ∷ Wrote (old.end + 1) (length text) ∷ old.disk.story;
      };
      text_written = record { seen = refl; story = refl };
      text_synced = record { seen = refl; story = refl };
      gate_opened = record { seen = refl; story = refl };
      gate_synced = record { seen = is.calls.0; story = is.calls.1 };
      behind = λ i. record {
        disk = new.disk;
        header = is.header i;
        end = is.end i;
        last = is.last i;
        count = is.count i;
        number = is.number i;
        failed = is.failed i;
      };
    }

-- a file whose device failed, and left its disk so
abbrev pub failed_on : LogFileView DiskView → DiskView → LogFileView DiskView
failed_on file disk = record (on_disk file disk) { failed = true }

module _ (o : Origin) (bodies : ℕ → List BodyView) (found top : ℕ) (history released : List Entry) where
  abbrev now : (ℕ → LogFileView DiskView) → (ℕ → Declaring) → Lives
  now files steps = Restarting bodies found top files steps history released

  abbrev body : BodyView
  body = void_body found top

  module _ (files : ℕ → LogFileView DiskView) (steps : ℕ → Declaring) (k : ℕ) (within : k < o.loggers) where
    abbrev at : LogFileView DiskView → Declaring → Lives
    at file step = now (with_one files k file) (with_one steps k step)

    pub declared : steps k ≡ Waits → found < top → MayLead o (now files steps) (at (files k) (Declares BatchTaken))
    declared waits more =
        subst (λ (fs : ℕ → LogFileView DiskView). MayLead o (now files steps) (now fs (with_one steps k (Declares BatchTaken))))
        (sym (with_own files k)) (by_one o (now files steps) (Declare k) (within, waits, more))

    called : (step : Declaring) (file : LogFileView DiskView) (result : Result (Unit {0}) Refusal) (disk : DiskView)
        → MayDeclare step body file result disk
        → MayLead o (at file step) (at (file_after step result body top (on_disk file disk)) (step_after step result))
    called step file result disk may =
        let fs : ℕ → LogFileView DiskView = with_one files k file in
        let ss : ℕ → Declaring = with_one steps k step in
        let f : fs k ≡ file = with_same files k file in
        let s : ss k ≡ step = with_same steps k step in
        let file_then : LogFileView DiskView = file_after step result body top (on_disk file disk) in
        let step_then : Declaring = step_after step result in
        let here : now (with_one fs k (file_after (ss k) result body top (on_disk (fs k) disk))) (with_one ss k (step_after (ss k) result))
        ≡ now (with_one fs k file_then) (with_one ss k step_then)
        = λ i. now (with_one fs k (file_after (s i) result body top (on_disk (f i) disk))) (with_one ss k (step_after (s i) result)) in
        let there : now (with_one fs k file_then) (with_one ss k step_then) ≡ at file_then step_then
        = λ i. now (with_again files k file file_then i) (with_again steps k step step_then i) in
        subst (λ (w : Lives). MayLead o (at file step) w) (here ∙ there)
        (by_one o (at file step) (CallVoid k result disk) (
          within,
          subst (λ (x : Declaring). MayDeclare x body (fs k) result disk) (sym s)
              (subst (λ (x : LogFileView DiskView). MayDeclare step body x result disk) (sym f) may),
        ))

    pub voided : (old new : LogFileView DiskView) → AreVoidCalls found top old new
        → MayLead o (at old (Declares BatchTaken)) (at new Declared)
    voided old new are =
        let one : Lives = at (on_disk old are.one) (Declares TextWritten) in
        let two : Lives = at (on_disk old are.two) (Declares TextSynced) in
        let three : Lives = at (on_disk old are.three) (Declares GateOpened) in
        subst (λ (file : LogFileView DiskView). MayLead o (at old (Declares BatchTaken)) (at file Declared)) (sym are.behind)
        (and_then o (at old (Declares BatchTaken)) one (at (with_void (on_disk old new.disk) body top) Declared)
        (called (Declares BatchTaken) old no_failure are.one are.text_written)
        (and_then o one two (at (with_void (on_disk old new.disk) body top) Declared)
        (called (Declares TextWritten) (on_disk old are.one) no_failure are.two are.text_synced)
        (and_then o two three (at (with_void (on_disk old new.disk) body top) Declared)
        (called (Declares TextSynced) (on_disk old are.two) no_failure are.three are.gate_opened)
        (called (Declares GateOpened) (on_disk old are.three) no_failure new.disk are.gate_synced))))

    -- the device fails at one of the calls: at the text, or at the gate behind it
    pub fails : (old : LogFileView DiskView) (disk : DiskView)
        → StoreLeft device_failure old.end (text_of body) old.disk.seen old.disk.story disk.seen disk.story
        → MayLead o (at old (Declares BatchTaken)) (at (failed_on old disk) (Declares DeviceFailed))
    fails old disk (inl text) = called (Declares BatchTaken) old device_failure disk (record { seen = tt; story = text })
    fails old disk (inr gate) =
        let text : List ℕ = text_of body in
        let bytes : List ℕ = written old.disk.seen (old.end + 1) text in
        let first : DiskView = record { seen = bytes; story = Wrote (old.end + 1) (length text) ∷ old.disk.story } in
        let second : DiskView = record { seen = bytes; story = Synced bytes ∷ first.story } in
        let one : Lives = at (on_disk old first) (Declares TextWritten) in
        let two : Lives = at (on_disk old second) (Declares TextSynced) in
        and_then o (at old (Declares BatchTaken)) one (at (failed_on old disk) (Declares DeviceFailed))
        (called (Declares BatchTaken) old no_failure first (record { seen = refl; story = refl }))
        (and_then o one two (at (failed_on old disk) (Declares DeviceFailed))
        (called (Declares TextWritten) (on_disk old first) no_failure second (record { seen = refl; story = refl }))
        (called (Declares TextSynced) (on_disk old second) device_failure disk (record { seen = tt; story = gate })))

  -- files in front get the body, each by its calls
  pub all_voided : (n : ℕ) → n ≤ o.loggers → (old new : ℕ → LogFileView DiskView) → found < top
      → ((l : ℕ) → l < n → HasLost found top (old l) (new l))
      → MayLead o (now old (λ l. Waits)) (now (set_below n new old) (set_below n (λ l. Declared) (λ l. Waits)))
  all_voided n le old new more lost =
      in_turn o n (λ k. now (set_below k new old) (set_below k (λ l. Declared) (λ l. Waits))) (λ k less.
      let within : k < o.loggers = omega (arith, less, le) in
      let fs : ℕ → LogFileView DiskView = set_below k new old in
      let ss : ℕ → Declaring = set_below k (λ l. Declared) (λ l. Waits) in
      let here : fs k ≡ old k = set_behind k new old k (omega arith) in
      and_then o (now fs ss) (at fs ss k within (fs k) (Declares BatchTaken)) (at fs ss k within (new k) Declared)
      (declared fs ss k within (set_behind k (λ l. Declared) (λ l. Waits) k (omega arith)) more)
      (voided fs ss k within (fs k) (new k) (void_calls found top (fs k) (new k)
      (subst (λ (f : LogFileView DiskView). HasLost found top f (new k)) (sym here) (lost k less)))))
