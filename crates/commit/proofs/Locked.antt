-- A commit that nobody acts between is a run of the machine.
use Rattle.std.proofs.Common.{◌≡◌, ◌≢◌, ℕ, ◌<◌, ◌≤◌, true, false, max, ⊎_elim, Option, Some, None, IsSome, is_some, List, [], ◌∷◌, ◌++◌, length, All, refl, sym}
use Rattle.std.proofs.Common.{ap, ◌∙◌, subst, append-nil}
use Rattle.std.proofs.lemmas.Bool.{cases_lt}
use Rattle.std.proofs.lemmas.List.Elements.{All-nil, recursion_from_All}
use Rattle.std.proofs.Math.ListN.{get_or-eq_default}
use Rattle.std.specs.List.{AllByRecursion}
use Rattle.tidword.specs.TidWord.{tid_of, is_locked, is_latest}
use Rattle.tidword.specs.Lawful.{next}
use Rattle.commit.specs.Machine.{Machine, Worker, no_cell, note_at, cell, worker}
use Rattle.commit.specs.Events.{IsEnabled, after_event, after_all, still_holds, checked, validated_by, after_choice, greatest_read, greatest_locked, seen_by}
use Rattle.commit.specs.Events.{finished_by, written_cell}
use Rattle.commit.specs.Sections.{Reads, Writes, locks_of, validations_of, installs_of, unlocks_of, beginning, section, full_section, stale_section, MayLock}
use Rattle.commit.specs.Sections.{HasRead, AreCurrent, IsStale, next_for, KeepsOthers, WorkerHasCommitted, WorkerHasFailed, AreSections}
use Rattle.commit.specs.declared.worker.Phase.TheVariants.{Entered, Failed}
use Rattle.commit.specs.declared.worker.Cell.{Cell}
use Rattle.commit.specs.declared.worker.Version.{Version}
use Rattle.commit.specs.declared.event.Event.TheVariants.{ReadEpoch, Validate, ChooseTid}
use Rattle.commit.proofs.NoteLists.{Ascend, ascend, each, always, held_first}
use Rattle.commit.proofs.Held.{without_all, same_rest, no_notes}
use Rattle.commit.proofs.WordBits.{same_tid, stands, falls, same_greatest, written_over, unlocked_again}
use Rattle.commit.proofs.Runs.{Runs, runs_join, Leaves, keeps_more, becomes, keeps}
use Rattle.commit.proofs.Stages.{locked_for, unlocked_for, lock_all, validate_all, install_all, unlock_all}

-- the machine once worker w has its locks
abbrev Holding : Machine → ℕ → Writes → Machine → Type 0
Holding m w writes n = Leaves w m n (record (worker m w) { locks = writes }) (λ r. locked_for (note_at writes r)) m.finished

-- the worker that has its locks, has read the epoch and has validated what passed, with what is left yet to validate
abbrev entered : Machine → ℕ → Writes → Reads → Reads → Worker
entered m w writes passed left = record (worker m w) { phase = Entered; reads = left; validated = passed; locks = writes; epoch = m.epoch }

-- the machine with that worker
abbrev Entering : Machine → ℕ → Writes → Reads → Reads → Machine → Type 0
Entering m w writes passed left n = Leaves w m n (entered m w writes passed left) (λ r. locked_for (note_at writes r)) m.finished

-- what the worker still holds of what it has read, once this has passed
abbrev left_by : Machine → ℕ → Reads → Reads
left_by m w passed = without_all (worker m w).reads passed

module _ (m : Machine) (w : ℕ) (writes : Writes) (may : MayLock m w writes) where
  unlocked : (r : ℕ) → is_locked (cell m r).word ≡ false
  unlocked r = ⊎_elim (may.unlocked r) (λ (h : length m.records ≤ r). ap (λ (c : Cell). is_locked c.word) (get_or-eq_default m.records no_cell h))
      (cases_lt r (length m.records))

  latest : (r : ℕ) → is_latest (cell m r).word ≡ true
  latest r = ⊎_elim (may.latest r) (λ (h : length m.records ≤ r). ap (λ (c : Cell). is_latest c.word) (get_or-eq_default m.records no_cell h))
      (cases_lt r (length m.records))

  rises : Ascend writes
  rises = ascend writes may.ascending

  within : (n : Machine) → KeepsOthers m n w → AllByRecursion (λ note. note.0 < length n.records) writes
  within n kept = subst (λ q. AllByRecursion (λ note. note.0 < q) writes) (sym kept.records)
      (recursion_from_All (λ note. note.0 < length m.records) writes may.within)

  present : (n : Machine) → KeepsOthers m n w → w < length n.workers
  present n kept = subst (λ q. w < q) (sym kept.workers) may.present

  locks : Runs m (locks_of w writes) (Holding m w writes)
  locks =
      let free : AllByRecursion (λ note. All (λ lock. lock.0 < note.0) (worker m w).locks) writes =
      always _ (λ note. subst (λ (l : Writes). All (λ lock. lock.0 < note.0) l) (sym may.lockless)
      (All-nil (λ (lock : ℕ × Option (List ℕ)). lock.0 < note.0))) writes in
      let open_to_lock : AllByRecursion (λ note. is_locked (cell m note.0).word ≡ false) writes = always _ (λ note. unlocked note.0) writes in
      let run : Runs m (locks_of w writes)
      (λ n. Leaves w m n (record (worker m w) { locks = (worker m w).locks ++ writes }) (λ r. locked_for (note_at writes r)) m.finished) =
      lock_all w writes m (worker m w) refl may.begun may.present rises (recursion_from_All (λ note. note.0 < length m.records) writes may.within) free
      open_to_lock in (
        run.0,
        record {
          own = run.1.own ∙ ap (λ l. record (worker m w) { locks = l ++ writes }) may.lockless;
          cells = run.1.cells;
          finished = run.1.finished;
          rest = run.1.rest;
        },
      )

  begins : (passed rest : Reads) → HasRead m w (passed ++ rest) → AreCurrent m passed
      → Runs m (beginning w passed writes) (Entering m w writes passed (left_by m w passed))
  begins passed rest read current = runs_join m (locks_of w writes) (ReadEpoch w ∷ validations_of w passed) (Holding m w writes)
      (Entering m w writes passed (left_by m w passed)) locks
      (λ n left.
      let e : Machine = after_event n (ReadEpoch w) in
      let x : Worker = record (worker m w) { phase = Entered; epoch = m.epoch; validated = []; locks = writes } in
      let now : worker e w ≡ x = becomes w n e _ refl (present n left.rest)
      ∙ (λ i. record (left.own i) { phase = Entered; epoch = left.rest.epoch i; validated = [] }) in
      let kept : KeepsOthers n e w = keeps w n e _ refl refl refl in
      let more : KeepsOthers m e w = keeps_more m n e w left.rest kept in
      let holds : AllByRecursion (λ note. still_holds (cell e note.0) x note.0 note.1 ≡ true) passed =
      each (λ note. tid_of (cell m note.0).word ≡ note.1.tid) _
      (λ note h. ap (λ c. still_holds c x note.0 note.1) (left.cells note.0) ∙ stands x note.0 note.1 (cell m note.0) (unlocked note.0) (latest note.0) h)
      passed (recursion_from_All (λ (note : ℕ × Version). tid_of (cell m note.0).word ≡ note.1.tid) passed current) in
      let later : Runs e (validations_of w passed) (λ q. Leaves w e q (record x { reads = left_by m w passed; validated = passed }) (λ r c. c) e.finished) =
      validate_all w passed rest e x now refl (present e more) read.all (ascend (passed ++ rest) read.ascending) holds in (
        ((present n left.rest, ap (λ (q : Worker). q.phase) left.own ∙ may.begun), later.0),
        record {
          own = later.1.own;
          cells = λ r. later.1.cells r ∙ left.cells r;
          finished = later.1.finished ∙ left.finished;
          rest = keeps_more m e _ w more later.1.rest;
        },
      ))

  -- what the worker chooses, of what it has validated and locked
  chooses : (reads : Reads) (n : Machine) → Entering m w writes reads [] n → (o : Option ℕ) → next_for m w reads writes ≡ o
      → Leaves w m (after_event n (ChooseTid w)) (after_choice (entered m w writes reads []) o) (λ r. locked_for (note_at writes r))
      (finished_by m.finished (after_choice (entered m w writes reads []) o))
  chooses reads n left o is =
      let e : Machine = after_event n (ChooseTid w) in
      let x : Worker = entered m w writes reads [] in
      let greatest : greatest_locked n writes ≡ greatest_locked m writes =
      same_greatest m n (λ r. ap (λ (c : Cell). tid_of c.word) (left.cells r) ∙ same_tid (note_at writes r) (cell m r) (unlocked r)) writes in
      let picks : after_choice (worker n w) (next (tid_of (seen_by n (worker n w))) (tid_of (worker n w).last) (worker n w).epoch) ≡ after_choice x o =
      ap (λ (q : Worker). after_choice q (next (tid_of (seen_by n q)) (tid_of q.last) q.epoch)) left.own
      ∙ ap (λ k. after_choice x (next (tid_of (max (greatest_read reads) k)) (tid_of x.last) x.epoch)) greatest
      ∙ ap (after_choice x) is in
      record {
        own = becomes w n e _ refl (present n left.rest) ∙ picks;
        cells = left.cells;
        finished = (λ i. finished_by (left.finished i) (picks i));
        rest = keeps_more m n e w left.rest (keeps w n e _ refl refl refl);
      }

  may_choose : (reads : Reads) (n : Machine) → Entering m w writes reads [] n → IsEnabled n (ChooseTid w)
  may_choose reads n left = (present n left.rest, ap (λ (q : Worker). q.phase) left.own, ap (λ (q : Worker). q.reads) left.own)

  -- a worker that has failed lets its locks go, and every record has its value and its word again
  gives_up : (e : Machine) (x : Worker) → Leaves w m e x (λ r. locked_for (note_at writes r)) m.finished → x.phase ≡ Failed → x.locks ≡ writes
      → x.last ≡ (worker m w).last
      → Runs e (unlocks_of w writes) (λ q. WorkerHasFailed m q w)
  gives_up e x left failed locks last =
      let later : Runs e (unlocks_of w writes) (λ q. Leaves w e q (record x { locks = [] }) (λ r. unlocked_for (note_at writes r)) e.finished) =
      unlock_all w writes e x left.own failed (present e left.rest) locks rises (within e left.rest) in (
        later.0,
        record {
          cells = λ r. later.1.cells r ∙ ap (unlocked_for (note_at writes r)) (left.cells r) ∙ unlocked_again (note_at writes r) (cell m r);
          failed = ap (λ (q : Worker). q.phase) later.1.own ∙ failed;
          lockless = ap (λ (q : Worker). q.locks) later.1.own;
          last = ap (λ (q : Worker). q.last) later.1.own ∙ last;
          finished = later.1.finished ∙ left.finished;
          rest = keeps_more m e _ w left.rest later.1.rest;
        },
      )

  -- once all has passed, the worker holds no read
  begins_all : (reads : Reads) → HasRead m w reads → AreCurrent m reads → Runs m (beginning w reads writes) (Entering m w writes reads [])
  begins_all reads read current =
      let all_read : HasRead m w (reads ++ []) = subst (HasRead m w) (sym (append-nil reads)) read in
      let left : left_by m w reads ≡ [] =
      no_notes (left_by m w reads) (same_rest reads (worker m w).reads [] all_read.all (ascend (reads ++ []) all_read.ascending)) in
      subst (λ l. Runs m (beginning w reads writes) (Entering m w writes reads l)) left (begins reads [] all_read current)

  commits : (reads : Reads) (tid : ℕ) → HasRead m w reads → AreCurrent m reads → next_for m w reads writes ≡ Some tid
      → Runs m (section w reads writes) (λ n. WorkerHasCommitted m n w writes tid)
  commits reads tid read current is =
      runs_join m (beginning w reads writes) (ChooseTid w ∷ installs_of w writes) (Entering m w writes reads []) (λ n. WorkerHasCommitted m n w writes tid)
      (begins_all reads read current)
      (λ n before.
      let e : Machine = after_event n (ChooseTid w) in
      let x : Worker = after_choice (entered m w writes reads []) (Some tid) in
      let left : Leaves w m e x (λ r. locked_for (note_at writes r)) (finished_by m.finished x) = chooses reads n before (Some tid) is in
      let later : Runs e (installs_of w writes)
      (λ q. Leaves w e q (record x { locks = [] }) (λ r c. written_cell c tid (note_at writes r)) (finished_by m.finished (record x { locks = [] }))) =
      install_all w m.finished writes e x left.own refl (present e left.rest) refl rises (within e left.rest) left.finished in (
        (may_choose reads n before, later.0),
        record {
          cells = λ r. later.1.cells r ∙ ap (λ c. written_cell c tid (note_at writes r)) (left.cells r) ∙ written_over (note_at writes r) (cell m r) tid;
          chosen = ap (λ (q : Worker). q.phase) later.1.own;
          lockless = ap (λ (q : Worker). q.locks) later.1.own;
          last = ap (λ (q : Worker). q.last) later.1.own;
          finished = later.1.finished;
          rest = keeps_more m e (after_all e (installs_of w writes)) w left.rest later.1.rest;
        },
      ))

  finds_none : (reads : Reads) → HasRead m w reads → AreCurrent m reads → next_for m w reads writes ≡ None
      → Runs m (full_section w reads writes) (λ n. WorkerHasFailed m n w)
  finds_none reads read current is =
      runs_join m (beginning w reads writes) (ChooseTid w ∷ unlocks_of w writes) (Entering m w writes reads []) (λ n. WorkerHasFailed m n w)
      (begins_all reads read current)
      (λ n before.
      let later : Runs (after_event n (ChooseTid w)) (unlocks_of w writes) (λ q. WorkerHasFailed m q w) =
      gives_up (after_event n (ChooseTid w)) (after_choice (entered m w writes reads []) None) (chooses reads n before None is) refl refl refl in
      ((may_choose reads n before, later.0), later.1))

  -- the validation of a read that isn't current
  refuses : (passed remaining : Reads) (r : ℕ) (v : Version) (n : Machine) → note_at remaining r ≡ Some v → Entering m w writes passed remaining n
      → tid_of (cell m r).word ≢ v.tid
      → Leaves w m (after_event n (Validate w r)) (checked (entered m w writes passed remaining) r v false) (λ k. locked_for (note_at writes k)) m.finished
  refuses passed remaining r v n is_held left other =
      let e : Machine = after_event n (Validate w r) in
      let x : Worker = entered m w writes passed remaining in
      let same : tid_of (cell n r).word ≡ tid_of (cell m r).word = ap (λ (c : Cell). tid_of c.word) (left.cells r)
      ∙ same_tid (note_at writes r) (cell m r) (unlocked r) in
      record {
        own = becomes w n e _ refl (present n left.rest)
            ∙ ap (λ (q : Worker). validated_by q r (cell n r) (note_at q.reads r)) left.own
            ∙ ap (validated_by x r (cell n r)) is_held
            ∙ ap (checked x r v) (falls x r v (cell n r) (λ q. other (sym same ∙ q)));
        cells = left.cells;
        finished = left.finished;
        rest = keeps_more m n e w left.rest (keeps w n e _ refl refl refl);
      }

  fails : (reads : Reads) → HasRead m w reads → (first : IsStale m reads) → Runs m (stale_section w first.passed first.at writes) (λ n. WorkerHasFailed m n w)
  fails reads all first =
      let passed : Reads = first.passed in
      let r : ℕ = first.at in
      let v : Version = first.version in
      let others : Reads = (r, v) ∷ first.rest in
      let read : HasRead m w (passed ++ others) = subst (HasRead m w) first.split all in
      let remaining : Reads = left_by m w passed in
      let is_held : note_at remaining r ≡ Some v = same_rest passed (worker m w).reads others read.all (ascend (passed ++ others) read.ascending) r
      ∙ held_first r v first.rest in
      runs_join m (beginning w passed writes) (Validate w r ∷ unlocks_of w writes) (Entering m w writes passed remaining) (λ n. WorkerHasFailed m n w)
      (begins passed others read first.current)
      (λ n before.
      let has : IsSome (note_at (worker n w).reads r) = ap (λ (q : Worker). is_some (note_at q.reads r)) before.own ∙ ap is_some is_held in
      let later : Runs (after_event n (Validate w r)) (unlocks_of w writes) (λ q. WorkerHasFailed m q w) =
      gives_up (after_event n (Validate w r)) (checked (entered m w writes passed remaining) r v false)
      (refuses passed remaining r v n is_held before first.stale) refl refl refl in
      (((present n before.rest, ap (λ (q : Worker). q.phase) before.own, has), later.0), later.1))

pub are_sections : (m : Machine) (w : ℕ) (writes : Writes) → MayLock m w writes → AreSections m w writes
are_sections m w writes may = record {
  ok = commits m w writes may;
  full = finds_none m w writes may;
  stale = fails m w writes may;
}
