-- A restart that was refused, as what happens over the lives of a database.
use Rattle.std.proofs.Common.{◌≡◌, ◌≢◌, inl, inr, ⊎_elim, ℕ, zero, suc, ◌+◌, ◌<◌, ◌≤◌, List, [], ◌∷◌, length, map, get_or, refl, sym, ap, ◌∙◌, subst, arith}
use Rattle.std.proofs.lemmas.Bool.{cases_lt}
use Rattle.std.proofs.lemmas.List.{get_or_past, length-map}
use Rattle.money.specs.declared.refusal.Refusal.{Refusal}
use Rattle.tables.specs.Database.{Database}
use Rattle.book.specs.declared.entry.Entry.{Entry}
use Rattle.log_disk.specs.Calls.{Call}
use Rattle.log_text.specs.Bodies.{BodyView}
use Rattle.logfile.specs.Called.{StoreLeft}
use Rattle.logfile.specs.Refused.{IsOnlySynced}
use Rattle.logfile.specs.Standing.{LogFileView}
use Rattle.recover_crashes.proofs.Lists.{each_set}
use Rattle.recover_crashes.specs.Events.{on_disk, text_of}
use Rattle.recover_crashes.specs.World.{DiskView, BatchTaken, DeviceFailed}
use Rattle.recover_lives.specs.Events.{Stop, void_body, with_one}
use Rattle.recover_lives.specs.World.{Origin, Declaring, Waits, Declares, Declared, Lives, Down, Restarting}
use Rattle.recover_opening.specs.Opening.{AreGivenBack, AreOpened, disk_on, file_on}
use Rattle.recover_restart.specs.Declaring.{AreDeclared, device_failure}
use Rattle.recover_restart.specs.Lives.{GiveWhatMayBeLeft, MayLead, origin_behind}
use Rattle.recover_restart.specs.Restarting.{AreStopped, HasLost, HasStopped, IsRefusedRestart}
use Rattle.recover_restart.proofs.Composed.{all_synced, all_voided, declared, failed_on, fails, synced}
use Rattle.recover_restart.proofs.Happening.{opens}
use Rattle.recover_restart.proofs.Leading.{by_one, and_then, set_below, set_behind, set_front, set_all}
use Rattle.recover_restart.proofs.Losing.{has_lost, on_both, one_of}

both_past : {A : Type 0} (xs ys : List A) (l : ℕ) (d : A) → length xs ≤ l → length ys ≤ l → get_or xs l d ≡ get_or ys l d
both_past xs ys l d le also = get_or_past xs l d le ∙ sym (get_or_past ys l d also)

disk_of_file : (files : List (LogFileView DiskView)) (l : ℕ) (file : LogFileView DiskView)
    → (get_or files l file).disk ≡ get_or (map (λ f. f.disk) files) l file.disk
disk_of_file [] l file = refl
disk_of_file (f ∷ fs) zero file = refl
disk_of_file (f ∷ fs) (suc l) file = disk_of_file fs l file

disks_of_files : {D : Type 0} (seen : D → List ℕ) (story : D → List Call) (files : List (LogFileView D))
    → map (λ f. f.disk) (map (file_on seen story) files) ≡ map (disk_on seen story) (map (λ f. f.disk) files)
disks_of_files seen story [] = refl
disks_of_files seen story (f ∷ fs) = ap (λ (ds : List DiskView). disk_on seen story f.disk ∷ ds) (disks_of_files seen story fs)

-- files of which one's device failed while it got the void body: those in front have it, and those behind stand as they
-- stood
module _ (o : Origin) (bodies : ℕ → List BodyView) (durable top : ℕ) (history released : List Entry)
    (old new : ℕ → LogFileView DiskView) (reached : ℕ) (within : reached < o.loggers) (some : durable < top)
    (front : (l : ℕ) → l < reached → HasLost durable top (old l) (new l))
    (fails_at : StoreLeft device_failure (old reached).end (text_of (void_body durable top)) (old reached).disk.seen
    (old reached).disk.story (new reached).disk.seen (new reached).disk.story)
    (behind : (l : ℕ) → reached < l → old l ≡ new l) where
  abbrev during : (ℕ → LogFileView DiskView) → (ℕ → Declaring) → Lives
  during files steps = Restarting bodies durable top files steps history released

  abbrev files_before : ℕ → LogFileView DiskView
  files_before = set_below reached new old

  abbrev steps_before : ℕ → Declaring
  steps_before = set_below reached (λ l. Declared) (λ l. Waits)

  abbrev files_after : ℕ → LogFileView DiskView
  files_after = with_one files_before reached (failed_on (files_before reached) (new reached).disk)

  disk_before : (l : ℕ) → l ≢ reached → (files_before l).disk ≡ (new l).disk
  disk_before l other = ap (λ (f : LogFileView DiskView). f.disk) (⊎_elim
      (λ (less : l < reached). set_front reached new old l less)
      (λ (le : reached ≤ l). ⊎_elim
      (λ (more : reached < l). set_behind reached new old l le ∙ behind l more)
      (λ (no_more : l ≤ reached). absurd (other (omega (arith, le, no_more))))
      (cases_lt reached l))
      (cases_lt l reached))

  disk_after : (l : ℕ) → (files_after l).disk ≡ (new l).disk
  disk_after = each_set (λ l (f : LogFileView DiskView). f.disk ≡ (new l).disk) files_before reached
      (failed_on (files_before reached) (new reached).disk) refl disk_before

  pub stops : MayLead o (during old (λ l. Waits)) (Down (λ l. (new l).disk) durable history released)
  stops =
      let here : files_before reached ≡ old reached = set_behind reached new old reached (omega arith) in
      let before : Lives = during files_before steps_before in
      let begun : Lives = during (with_one files_before reached (files_before reached)) (with_one steps_before reached (Declares BatchTaken)) in
      let after : Lives = during files_after (with_one steps_before reached (Declares DeviceFailed)) in
      let down : Lives = Down (λ l. (new l).disk) durable history released in
      and_then o (during old (λ l. Waits)) before down
      (all_voided o bodies durable top history released reached (omega (arith, within)) old new some front)
      (and_then o before begun down
      (declared o bodies durable top history released files_before steps_before reached within
      (set_behind reached (λ l. Declared) (λ l. Waits) reached (omega arith)) some)
      (and_then o begun after down
      (fails o bodies durable top history released files_before steps_before reached within (files_before reached) (new reached).disk
      (subst (λ (f : LogFileView DiskView). StoreLeft device_failure f.end (text_of (void_body durable top)) f.disk.seen f.disk.story (new reached).disk.seen (new reached).disk.story)
      (sym here) fails_at))
      (subst (λ (ds : ℕ → DiskView). MayLead o after (Down ds durable history released)) (λ i l. disk_after l i)
      (by_one o after Stop tt))))

module _ {D : Type 0} {IsModelled : Type 0} (seen : D → List ℕ) (story : D → List Call) (failed : D → ℕ) (modelled : IsModelled)
    (t0 : Database) (seed terminals : ℕ) (old new : List D) (known : ℕ) (history released : List Entry) (disk : DiskView) where
  abbrev view : D → DiskView
  view = disk_on seen story

  abbrev on : LogFileView D → LogFileView DiskView
  on = file_on seen story

  abbrev down : List D → ℕ → Lives
  down disks durable = Down (λ l. get_or (map view disks) l disk) durable history released

  unwritten : (before after : D) → IsOnlySynced IsModelled seen story before after → (n : ℕ) × (view after ≡ synced n (view before))
  unwritten before after is =
      let calls = is.story modelled in
      (calls.0, λ i. record { seen = is.seen modelled i; story = calls.1 i })

  given_back : {refusal : Refusal} → AreGivenBack IsModelled seen story failed refusal old new → GiveWhatMayBeLeft (map view old)
      → MayLead (origin_behind t0 seed (length old)) (down old known) (down new known)
  given_back are gives =
      let o : Origin = origin_behind t0 seed (length old) in
      let olds : ℕ → DiskView = λ l. get_or (map view old) l disk in
      let news : ℕ → DiskView = λ l. get_or (map view new) l disk in
      subst (λ (ds : ℕ → DiskView). MayLead o (down old known) (Down ds known history released))
      (set_all (length old) news olds (λ l le. both_past (map view old) (map view new) l disk
      (omega (arith, le, length-map old view)) (omega (arith, le, length-map new view, are.count))))
      (all_synced o known history released olds news
      (λ l less. gives l disk (omega (arith, less, length-map old view)))
      (λ l less. on_both view (λ (before after : DiskView). (n : ℕ) × (after ≡ synced n before)) old new are.count l disk less
      (λ e. unwritten (get_or old l e) (get_or new l e) (are.each l less e))))

  module _ (is : HasStopped IsModelled seen story failed t0 seed terminals old new) where
    abbrev stopped : AreStopped IsModelled seen story failed t0 seed (length old) terminals is.bodies is.opened is.left
    stopped = is.are_stopped

    abbrev are : AreDeclared IsModelled seen story failed (stopped.durable + 1) stopped.top device_failure is.opened is.left
    are = stopped.declared

    abbrev opened : AreOpened t0.scale seed (map view old) (map on is.opened) is.bodies
    opened = is.are_opened modelled

    among : are.reached < length is.opened
    among = (are.stopped refl).0

    abbrev file : LogFileView DiskView
    file = on_disk (on (one_of is.opened (omega (arith, among)))) disk

    abbrev olds : ℕ → LogFileView DiskView
    olds l = get_or (map on is.opened) l file

    abbrev news : ℕ → LogFileView DiskView
    news l = get_or (map on is.left) l file

    behind : (l : ℕ) → are.reached < l → olds l ≡ news l
    behind l more = ⊎_elim
        (λ (less : l < length is.opened).
        on_both on (λ (a b : LogFileView DiskView). a ≡ b) is.opened is.left are.count l file less (λ e. ap on (sym (are.left l e more))))
        (λ (le : length is.opened ≤ l).
        both_past (map on is.opened) (map on is.left) l file (omega (arith, le, length-map is.opened on))
        (omega (arith, le, length-map is.left on, are.count)))
        (cases_lt l (length is.opened))

    disk_is : (l : ℕ) → (news l).disk ≡ get_or (map view new) l disk
    disk_is l =
        disk_of_file (map on is.left) l file
        ∙ ap (λ (ds : List DiskView). get_or ds l disk) (disks_of_files seen story is.left ∙ ap (map view) (sym is.disks))

    pub has_stopped : MayLead (origin_behind t0 seed (length old)) (down old known) (down new stopped.durable)
    has_stopped =
        let count : length (map view old) ≡ length is.opened = sym opened.files_count ∙ length-map is.opened on in
        let o : Origin = origin_behind t0 seed (length (map view old)) in
        let bodies : ℕ → List BodyView = λ l. get_or is.bodies l [] in
        let read : Lives = Restarting bodies stopped.durable stopped.top olds (λ l. Waits) history released in
        let text : List ℕ = text_of (void_body stopped.durable stopped.top) in
        subst (λ (n : ℕ). MayLead (origin_behind t0 seed n) (down old known) (down new stopped.durable)) (length-map old view)
        (subst (λ (ds : ℕ → DiskView). MayLead o (down old known) (Down ds stopped.durable history released)) (λ i l. disk_is l i)
        (and_then o (down old known) read (Down (λ l. (news l).disk) stopped.durable history released)
        (opens opened stopped.goes_on (omega (arith, among, count)) disk file known history released)
        (stops o bodies stopped.durable stopped.top history released olds news are.reached (omega (arith, among, count)) stopped.some
        (λ l less. on_both on (HasLost stopped.durable stopped.top) is.opened is.left are.count l file (omega (arith, less, among))
        (λ e. has_lost modelled (get_or is.opened l e) (get_or is.left l e) (are.front l e less)))
        (on_both on (λ (a b : LogFileView DiskView). StoreLeft device_failure a.end text a.disk.seen a.disk.story b.disk.seen b.disk.story) is.opened is.left are.count
        are.reached file among (λ e. ((are.stopped refl).1 e).calls modelled))
        behind)))

  pub refused_leads : {refusal : Refusal} → IsRefusedRestart IsModelled seen story failed t0 seed terminals refusal old new
      → GiveWhatMayBeLeft (map view old)
      → (durable : ℕ) × MayLead (origin_behind t0 seed (length old)) (down old known) (down new durable)
  refused_leads (inl are) gives = (known, given_back are gives)
  refused_leads (inr it) gives = (it.1.are_stopped.durable, has_stopped it.1)
