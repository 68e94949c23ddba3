-- What stays true over many lives, and that each event keeps it.
use Rattle.std.proofs.Common.{◌≡◌, ◌⊎◌, inl, inr, ⊎_elim, ℕ, suc, ◌+◌, ◌-◌, ◌<◌, ◌≤◌, Bool, false, List, [], ◌∷◌, ◌++◌, length, Result, refl, sym, ap, ◌∙◌, subst, arith}
use Rattle.std.specs.List.{All}
use Rattle.std.proofs.lemmas.List.Elements.{All-weaker}
use Rattle.money.specs.declared.refusal.Refusal.{Refusal}
use Rattle.tables.specs.Database.{Database}
use Rattle.tidword.specs.TidWord.{epoch_of}
use Rattle.board.specs.Words.{last_epoch}
use Rattle.log_disk.specs.Calls.{Call}
use Rattle.log_disk.specs.Crashes.{MayLeave}
use Rattle.log_header.specs.Header.{HeaderView, header_of_version}
use Rattle.log_text.specs.Bodies.{BodyView, start}
use Rattle.log_text.specs.Entries.{EntryView}
use Rattle.log_text.specs.File.{IsFile}
use Rattle.log_text.proofs.OneFile.{one_file}
use Rattle.book.specs.History.{replay}
use Rattle.book.specs.declared.entry.Entry.{Entry}
use Rattle.book.proofs.Replaying.{replay-scale}
use Rattle.logfile.specs.Standing.{LogFileView}
use Rattle.recover_found.specs.Found.{last_mark, entries_of, void_in}
use Rattle.recover_crashes.specs.World.{Life, DiskView, BatchTaken, World, header_of, opening, IsOpened, IsFirst}
use Rattle.recover_crashes.specs.Events.{Event, MayHappen, world_after, on_disk}
use Rattle.recover_crashes.specs.Recovering.{IsBase, IsDurable, Recovers, Tell, is_void, counts_in, cut}
use Rattle.recover_crashes.proofs.Lists.{IsLeast, least_of, chosen_below, each_set, each_set_two}
use Rattle.recover_crashes.proofs.Joins.{any_false, filter_again}
use Rattle.recover_crashes.proofs.Opened.{opens, first_base}
use Rattle.recover_crashes.proofs.Sound.{IsSound, all_events}
use Rattle.recover_crashes.proofs.Crashed.{recovers}
use Rattle.recover_laws.specs.Found.{durable_cut, listed}
use Rattle.recover_laws.specs.Recovered.{IsHistoryOf, HoldTheCut, GiveTheReplay, IsFirstDatabase}
use Rattle.recover_laws.proofs.Joined.{holds, is_history, some_left, cut_is}
use Rattle.recover_lives.specs.World.{Origin, origin_of, header_at, Declaring, Waits, Declares, Declared, Lives, Down, Restarting, Running, first_world}
use Rattle.recover_lives.specs.World.{joined_history, released_by, durable_at}
use Rattle.recover_lives.specs.Events.{LivesEvent, Within, Stop, Crash, SyncDisk, Read, Declare, CallVoid, Open, MayStrike, IsSyncedDisk, IsTop, FilesAreRead}
use Rattle.recover_lives.specs.Events.{void_body, MayDeclare, MayOpen, MayOccur, lives_after, MayOccurInTurn, lives_after_all, with_one, step_after, file_after, struck}
use Rattle.recover_lives.proofs.Voids.{side, with_body, AreVoided, mark_declared, void_high, no_less, counts_are, tell_same, tell_again, last_bound, void_follows, entries_same}
use Rattle.recover_lives.proofs.Restarts.{FitsRestart, waits, begins_void, void_called, restart_left}

-- the law of rebuilt tables
abbrev pub IsReplayLaw : Type 0
IsReplayLaw = (t0 : Database) (files : List (List BodyView)) (history : List Entry) → IsHistoryOf t0 history → HoldTheCut t0.scale files history
    → 0 < length files → GiveTheReplay t0 files history

-- strings are log files that tell of a history
pub record IsTold (o : Origin) (durable : ℕ) (history released : List Entry) (strings : ℕ → List ℕ) : Type 0 where
  pub left : ℕ → List BodyView
  pub epoch : ℕ
  pub files : (l : ℕ) → l < o.loggers → IsFile (strings l) (header_at o l) (left l)
  pub no_less : durable ≤ epoch
  pub tell : Tell o.first o.loggers left epoch history released

pub record HoldsRestart (o : Origin) (old : ℕ → List BodyView) (durable top : ℕ) (files : ℕ → LogFileView DiskView) (steps : ℕ → Declaring)
    (history released : List Entry) : Type 0 where
  pub tell : Tell o.first o.loggers old durable history released
  pub is_top : IsTop o.loggers old top
  pub room : top < last_epoch
  pub fits : (l : ℕ) → l < o.loggers → FitsRestart (header_at o l) (old l) durable top (files l) (steps l)

pub record HoldsRun (o : Origin) (life : Life) (past earlier : List Entry) (now : World) : Type 0 where
  pub old : ℕ → List BodyView
  pub base : IsBase o.first life old past earlier
  pub version : life.version ≡ o.version
  pub loggers : life.plan.loggers ≡ o.loggers
  pub seed : life.seed ≡ o.seed
  pub sound : IsSound life old now

-- with no process, whatever the disks may leave tells of all
abbrev pub Holds : Origin → Lives → Type 0
Holds o (Down disks durable history released) =
    (strings : ℕ → List ℕ) → ((l : ℕ) → l < o.loggers → MayLeave (disks l).story (strings l)) → IsTold o durable history released strings
Holds o (Restarting old durable top files steps history released) = HoldsRestart o old durable top files steps history released
Holds o (Running life past earlier now) = HoldsRun o life past earlier now

-- ---- a crash, wherever it comes
run_header : (o : Origin) (life : Life) (past earlier : List Entry) (now : World) → HoldsRun o life past earlier now → (l : ℕ)
    → header_of life l ≡ header_at o l
run_header o life past earlier now run l =
    let scale : life.first.scale ≡ o.first.scale = ap (λ (t : Database). t.scale) run.base.first ∙ replay-scale o.first past in
    λ i. header_of_version (run.version i) l (run.loggers i) (scale i) (run.seed i)

run_recovers : (o : Origin) (life : Life) (past earlier : List Entry) (now : World) → HoldsRun o life past earlier now → (strings : ℕ → List ℕ)
    → MayStrike o (Running life past earlier now) strings → Recovers o.first life (past ++ now.history) (now.released ++ earlier) now.durable strings
run_recovers o life past earlier now run strings may = recovers o.first life run.old past earlier run.base now run.sound strings
    (λ l lt. may l (omega (arith, lt, run.loggers)))

-- what it leaves has no entry of the history in a void epoch
pub run_live : (o : Origin) (life : Life) (past earlier : List Entry) (now : World) → HoldsRun o life past earlier now → (strings : ℕ → List ℕ)
    → MayStrike o (Running life past earlier now) strings → (told : IsTold o now.durable (past ++ now.history) (now.released ++ earlier) strings)
    × All (λ e. is_void o.loggers told.left (epoch_of e.tid) ≡ false) (past ++ now.history)
run_live o life past earlier now run strings may =
    let r = run_recovers o life past earlier now run strings may in (
      record {
        left = r.left;
        epoch = r.epoch;
        files = λ l lt. subst (λ (h : HeaderView). IsFile (strings l) h (r.left l)) (run_header o life past earlier now run l)
            (r.files l (omega (arith, lt, run.loggers)));
        no_less = r.no_less;
        tell = subst (λ (n : ℕ). Tell o.first n r.left r.epoch (past ++ now.history) (now.released ++ earlier)) run.loggers r.tell;
      },
      subst (λ (n : ℕ). All (λ (e : Entry). is_void n r.left (epoch_of e.tid) ≡ false) (past ++ now.history)) run.loggers r.hold.alive,
    )

run_told : (o : Origin) (life : Life) (past earlier : List Entry) (now : World) → HoldsRun o life past earlier now → (strings : ℕ → List ℕ)
    → MayStrike o (Running life past earlier now) strings → IsTold o now.durable (past ++ now.history) (now.released ++ earlier) strings
run_told o life past earlier now run strings may = (run_live o life past earlier now run strings may).0

module _ (o : Origin) (old : ℕ → List BodyView) (durable top : ℕ) (files : ℕ → LogFileView DiskView) (steps : ℕ → Declaring)
    (history released : List Entry) (h : HoldsRestart o old durable top files steps history released) where
  -- what a crash leaves of a file
  record LeftAt (strings : ℕ → List ℕ) (l : ℕ) (bodies : List BodyView) : Type 0 where
    is : IsFile (strings l) (header_at o l) bodies
    which : (bodies ≡ old l) ⊎ ((durable < top) × (bodies ≡ with_body durable top (old l)))

  restart_told : (strings : ℕ → List ℕ) → ((l : ℕ) → l < o.loggers → MayLeave (files l).disk.story (strings l)) → IsTold o durable history released strings
  restart_told strings may =
      let all = chosen_below o.loggers (LeftAt strings) [] (λ l lt. ⊎_elim
      (λ without. (old l, record { is = without; which = inl refl }))
      (λ with. (with_body durable top (old l), record { is = with.1; which = inr (with.0, refl) }))
      (restart_left (header_at o l) (old l) durable top (files l) (steps l) (strings l) (h.fits l lt) (may l lt))) in
      let e : suc (o.loggers - 1) ≡ o.loggers = omega (arith, h.tell.is_durable.among.1) in
      let least = least_of (o.loggers - 1) (λ l. last_mark 0 (all.0 l)) in
      let is : IsLeast o.loggers (λ l. last_mark 0 (all.0 l)) least.0 = subst (λ (m : ℕ). IsLeast m (λ l. last_mark 0 (all.0 l)) least.0) e least.1 in
      let durable_is : IsDurable o.loggers all.0 least.0 = record { among = is.among; least = is.below } in
      let are : AreVoided o.loggers old durable top all.0 = λ l lt. (all.1 l lt).which in
      record {
        left = all.0;
        epoch = least.0;
        files = λ l lt. (all.1 l lt).is;
        no_less = no_less o.loggers old durable top all.0 are h.is_top.marks h.tell.is_durable least.0 durable_is;
        tell = tell_same o.loggers old durable top all.0 are h.is_top.marks h.tell.is_durable least.0 durable_is o.first history released h.tell;
      }

pub strikes : (o : Origin) (w : Lives) → Holds o w → (strings : ℕ → List ℕ) → MayStrike o w strings
    → IsTold o (durable_at w) (joined_history w) (released_by w) strings
strikes o (Down disks durable history released) h strings may = h strings may
strikes o (Restarting old durable top files steps history released) h strings may = restart_told o old durable top files steps history released h strings may
strikes o (Running life past earlier now) h strings may = run_told o life past earlier now h strings may

-- the disks then have just these strings
told_same : (o : Origin) (durable : ℕ) (history released : List Entry) (strings others : ℕ → List ℕ) → ((l : ℕ) → l < o.loggers → others l ≡ strings l)
    → IsTold o durable history released strings → IsTold o durable history released others
told_same o durable history released strings others same told = record {
  left = told.left;
  epoch = told.epoch;
  files = λ l lt. subst (λ (b : List ℕ). IsFile b (header_at o l) (told.left l)) (sym (same l lt)) (told.files l lt);
  no_less = told.no_less;
  tell = told.tell;
}

crashes : (o : Origin) (w : Lives) → Holds o w → (strings : ℕ → List ℕ) → MayStrike o w strings
    → Holds o (Down (struck strings) (durable_at w) (joined_history w) (released_by w))
crashes o w h strings may = λ others left.
    told_same o (durable_at w) (joined_history w) (released_by w) strings others left (strikes o w h strings may)

-- ---- a disk is synced, and files are read
syncs : (o : Origin) (disks : ℕ → DiskView) (durable : ℕ) (history released : List Entry) → Holds o (Down disks durable history released)
    → (k : ℕ) (disk : DiskView) → IsSyncedDisk (disks k) disk → Holds o (Down (with_one disks k disk) durable history released)
syncs o disks durable history released h k disk is = λ strings may. h strings (λ l lt.
    each_set (λ j (d : DiskView). MayLeave d.story (strings j) → MayLeave (disks j).story (strings j)) disks k disk
    (λ left.
    let seen : strings k ≡ (disks k).seen = subst (λ (story : List Call). MayLeave story (strings k)) is.story left in
    subst (MayLeave (disks k).story) (sym seen) is.gives)
    (λ j other left. left) l (may l lt))

module _ (o : Origin) (disks : ℕ → DiskView) (durable : ℕ) (history released : List Entry) (h : Holds o (Down disks durable history released))
    (old : ℕ → List BodyView) (found top : ℕ) (files : ℕ → LogFileView DiskView) (is : FilesAreRead o disks old found top files) where
  -- what is read is what a crash might have left
  might : IsTold o durable history released (λ l. (disks l).seen)
  might = h (λ l. (disks l).seen) is.gives

  same_read : (l : ℕ) → l < o.loggers → might.left l ≡ old l
  same_read l lt =
      (one_file (disks l).seen (header_at o l) (header_at o l) (might.left l) (old l) (is.short l lt) (might.files l lt)
      (subst (λ (d : DiskView). IsFile d.seen (header_at o l) (old l)) (is.disk l lt) (is.opened l lt).stands.file)).1

  are_read : AreVoided o.loggers might.left might.epoch top old
  are_read = λ l lt. inl (sym (same_read l lt))

  read_below : (l : ℕ) → l < o.loggers → last_mark 0 (might.left l) ≤ top
  read_below l lt = omega (arith, ap (last_mark 0) (same_read l lt), is.is_top.marks l lt)

  pub read_no_less : durable ≤ found
  read_no_less =
      omega (arith, might.no_less, no_less o.loggers might.left might.epoch top old are_read read_below might.tell.is_durable found is.is_durable)

  reads : HoldsRestart o old found top files (λ l. Waits) history released
  reads = record {
    tell = tell_same o.loggers might.left might.epoch top old are_read read_below might.tell.is_durable found is.is_durable o.first history released might.tell;
    is_top = is.is_top;
    room = is.room;
    fits = λ l lt. waits (header_at o l) (old l) found top (files l) (is.opened l lt)
        (last_bound (header_at o l) start (old l) (files l).last (top + 1) (is.opened l lt).stands.lawful (omega arith)
        (All-weaker (λ (e : EntryView). epoch_of e.tid ≤ top) (λ (e : EntryView). epoch_of e.tid ≤ top + 1) (λ e low. omega (arith, low))
        (entries_of (old l)) (is.is_top.entries l lt)));
  }

-- ---- a restart declares epochs void
module _ (o : Origin) (old : ℕ → List BodyView) (durable top : ℕ) (files : ℕ → LogFileView DiskView) (steps : ℕ → Declaring)
    (history released : List Entry) (h : HoldsRestart o old durable top files steps history released) where
  -- the top is no less than the durable epoch
  pub top_no_less : durable ≤ top
  top_no_less = let among = h.tell.is_durable.among in omega (arith, among.2, h.is_top.marks among.0 among.1)

  declares : (k : ℕ) → k < o.loggers → steps k ≡ Waits → durable < top
      → HoldsRestart o old durable top files (with_one steps k (Declares BatchTaken)) history released
  declares k within waiting more =
      let fits = subst (FitsRestart (header_at o k) (old k) durable top (files k)) waiting (h.fits k within) in
      let lawful = fits.disk.lawful in
      record {
        tell = h.tell;
        is_top = h.is_top;
        room = h.room;
        fits = each_set (λ l (s : Declaring). l < o.loggers → FitsRestart (header_at o l) (old l) durable top (files l) s) steps k (Declares BatchTaken)
            (λ lt. begins_void (header_at o k) (old k) durable top (files k) fits more
            (void_follows (header_at o k) (old k) (files k).last durable top lawful more h.room (h.is_top.marks k within)
            (last_bound (header_at o k) start (old k) (files k).last top lawful (omega (arith, more)) (h.is_top.entries k within))))
            (λ l other lt. h.fits l lt);
      }

  calls_void : (k : ℕ) (result : Result (Unit {0}) Refusal) (disk : DiskView) → k < o.loggers
      → MayDeclare (steps k) (void_body durable top) (files k) result disk
      → HoldsRestart o old durable top (with_one files k (file_after (steps k) result (void_body durable top) top (on_disk (files k) disk)))
      (with_one steps k (step_after (steps k) result)) history released
  calls_void k result disk within may = record {
    tell = h.tell;
    is_top = h.is_top;
    room = h.room;
    fits = each_set_two (λ l (f : LogFileView DiskView) (s : Declaring). l < o.loggers → FitsRestart (header_at o l) (old l) durable top f s) files steps k
        (file_after (steps k) result (void_body durable top) top (on_disk (files k) disk)) (step_after (steps k) result)
        (λ lt. void_called (header_at o k) (old k) durable top (files k) disk (steps k) result (h.fits k within) may)
        (λ l other lt. h.fits l lt);
  }

  -- ---- and the next life begins
  module _ (begins : IsFirstDatabase o.first) (law : IsReplayLaw) (life : Life) (may : MayOpen o old durable top steps life) where
    abbrev n : ℕ
    n = o.loggers

    abbrev front : List Entry
    front = cut (counts_in n old durable) history

    give : GiveTheReplay o.first (listed n old) history
    give = law o.first (listed n old) history (is_history o.first n old durable history released h.tell begins)
        (holds o.first n old durable history released h.tell) (some_left o.first n old durable history released h.tell)

    front_is : durable_cut (listed n old) history ≡ front
    front_is = cut_is o.first n old durable history released h.tell

    header : (l : ℕ) → header_at o l ≡ header_of life l
    header l =
        let scale : life.first.scale ≡ o.first.scale = may.gives.rebuilt.tables.scale in
        λ i. header_of_version (sym may.version i) l (sym may.loggers i) (sym scale i) (sym may.seed i)

    -- on what the files are by then
    opens_on : (files_now : ℕ → List BodyView) → AreVoided n old durable top files_now
        → ((l : ℕ) → l < n → last_mark 0 (files_now l) ≡ top)
        → ((l : ℕ) → l < n → (epoch : ℕ) → top < epoch → void_in (files_now l) epoch ≡ false)
        → ((l : ℕ) → l < n → IsOpened (header_at o l) (files_now l) (files l))
        → HoldsRun o life front released (opening life.plan files)
    opens_on files_now are marks voids opened =
        let among = h.tell.is_durable.among in
        let is_now : IsDurable n files_now top = record {
          among = (among.0, among.1, marks among.0 among.1);
          least = λ l lt. omega (arith, marks l lt);
        } in
        let same : counts_in n files_now top ≡ counts_in n old durable = counts_are n old durable top files_now are h.is_top.marks h.tell.is_durable top is_now in
        let tell_all : Tell o.first n files_now top history released
        = tell_same n old durable top files_now are h.is_top.marks h.tell.is_durable top is_now o.first history released h.tell in
        let tell : Tell o.first n files_now top front released
        = subst (λ (c : ℕ → Bool). Tell o.first n files_now top (cut c history) released) same (tell_again o.first n files_now top history released tell_all) in
        let whole : cut (counts_in n files_now top) front ≡ front
        = ap (λ (c : ℕ → Bool). cut c front) same ∙ filter_again (λ (e : Entry). counts_in n old durable (epoch_of e.tid)) history in
        let marks_life : (l : ℕ) → l < life.plan.loggers → last_mark 0 (files_now l) ≡ life.plan.base
        = λ l lt. marks l (omega (arith, lt, may.loggers)) ∙ sym may.base in
        let room : life.plan.base < last_epoch = omega (arith, may.base, h.room) in
        record {
          old = files_now;
          base = record {
            tell = subst (λ (m : ℕ). Tell o.first m files_now life.plan.base front released) (sym may.loggers)
                (subst (λ (b : ℕ). Tell o.first n files_now b front released) (sym may.base) tell);
            marks = marks_life;
            within = λ l lt. subst (λ (b : ℕ). All (λ (e : EntryView). epoch_of e.tid ≤ b) (entries_of (files_now l))) (sym may.base)
                (subst (All (λ (e : EntryView). epoch_of e.tid ≤ top))
                (sym (entries_same n old durable top files_now are h.is_top.marks l (omega (arith, lt, may.loggers))))
                (h.is_top.entries l (omega (arith, lt, may.loggers))));
            alive = λ epoch above. any_false life.plan.loggers (λ l. void_in (files_now l) epoch)
                (λ l lt. voids l (omega (arith, lt, may.loggers)) epoch (omega (arith, above, may.base)));
            whole = subst (λ (m : ℕ). cut (counts_in m files_now life.plan.base) front ≡ front) (sym may.loggers)
                (subst (λ (b : ℕ). cut (counts_in n files_now b) front ≡ front) (sym may.base) whole);
            first = give.is_replay life.first may.gives.rebuilt ∙ ap (replay o.first) front_is;
            count = may.gives.commits_found ∙ give.as_many ∙ ap length front_is;
            room = room;
          };
          version = may.version;
          loggers = may.loggers;
          seed = may.seed;
          sound = opens life files_now files
              (λ l lt. subst (λ (x : HeaderView). IsOpened x (files_now l) (files l)) (header l) (opened l (omega (arith, lt, may.loggers))))
              marks_life room;
        }

    -- where the durable epoch is the top already, nothing was to declare
    opens_by : (top ≤ durable) ⊎ (durable < top) → HoldsRun o life front released (opening life.plan files)
    opens_by (inl none) = opens_on old (λ l lt. inl refl)
        (λ l lt. omega (arith, none, h.is_top.marks l lt, h.tell.is_durable.least l lt))
        h.is_top.voids
        (λ l lt. read_still l lt (steps l) (h.fits l lt))
      where
        read_still : (l : ℕ) → l < n → (step : Declaring) → FitsRestart (header_at o l) (old l) durable top (files l) step
            → IsOpened (header_at o l) (old l) (files l)
        read_still l lt Waits fits = record { header = fits.header; count = fits.count; number = fits.number; near = fits.near; stands = fits.disk }
        read_still l lt (Declares stage) fits = absurd (omega (arith, none, fits.disk.1.0))
        read_still l lt Declared fits = absurd (omega (arith, none, fits.disk.1))
    opens_by (inr more) = opens_on (λ l. with_body durable top (old l)) (λ l lt. inr (more, refl))
        (λ l lt. mark_declared durable top (old l))
        (λ l lt epoch above. void_high durable top (old l) epoch above ∙ h.is_top.voids l lt epoch above)
        (λ l lt.
        let fits = subst (FitsRestart (header_at o l) (old l) durable top (files l)) (may.declared l lt more) (h.fits l lt) in
        record { header = fits.header; count = fits.count; number = fits.number; near = fits.near; stands = fits.disk.0 })

    life_opens : HoldsRun o life front released (opening life.plan files)
    life_opens = opens_by (side top durable)

-- ---- within a life
within : (o : Origin) (life : Life) (past earlier : List Entry) (now : World) (event : Event) → HoldsRun o life past earlier now
    → MayHappen life now event → HoldsRun o life past earlier (world_after now event)
within o life past earlier now event run may = record {
  old = run.old;
  base = run.base;
  version = run.version;
  loggers = run.loggers;
  seed = run.seed;
  sound = all_events life run.old now (event ∷ []) run.sound (may, tt);
}

-- ---- each event, and all
pub holds_after : (o : Origin) → IsFirstDatabase o.first → IsReplayLaw → (w : Lives) (event : LivesEvent) → Holds o w → MayOccur o w event
    → Holds o (lives_after o w event)
holds_after o begins law (Running life past earlier now) (Within event) h may = within o life past earlier now event h may
holds_after o begins law (Running life past earlier now) Stop h may = λ strings left. run_told o life past earlier now h strings left
holds_after o begins law (Restarting old durable top files steps history released) Stop h may =
    λ strings left. restart_told o old durable top files steps history released h strings left
holds_after o begins law w (Crash strings) h may = crashes o w h strings may
holds_after o begins law (Down disks durable history released) (SyncDisk logger disk) h may =
    syncs o disks durable history released h logger disk may.1
holds_after o begins law (Down disks durable history released) (Read old found top files) h may =
    reads o disks durable history released h old found top files may
holds_after o begins law (Restarting old durable top files steps history released) (Declare logger) h may =
    declares o old durable top files steps history released h logger may.0 may.1 may.2
holds_after o begins law (Restarting old durable top files steps history released) (CallVoid logger result disk) h may =
    calls_void o old durable top files steps history released h logger result disk may.0 may.1
holds_after o begins law (Restarting old durable top files steps history released) (Open life) h may =
    life_opens o old durable top files steps history released h begins law life may
holds_after o begins law w event h may = absurd may

pub holds_after_all : (o : Origin) → IsFirstDatabase o.first → IsReplayLaw → (w : Lives) (events : List LivesEvent) → Holds o w → MayOccurInTurn o w events
    → Holds o (lives_after_all o w events)
holds_after_all o begins law w [] h may = h
holds_after_all o begins law w (event ∷ events) h may =
    holds_after_all o begins law (lives_after o w event) events (holds_after o begins law w event h may.0) may.1

pub first_holds : (life : Life) (files : ℕ → LogFileView DiskView) → IsFirst life files → Holds (origin_of life) (first_world life files)
first_holds life files first =
    let base = first_base life files first in
    record {
      old = λ l. [];
      base = base;
      version = refl;
      loggers = refl;
      seed = refl;
      sound = opens life (λ l. []) files first.created base.marks base.room;
    }
