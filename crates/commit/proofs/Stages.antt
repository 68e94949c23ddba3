-- The stages of a commit that nobody acts between: it locks record after_event record, validates read after_event read, and installs or unlocks record
-- after_event record.
use Rattle.std.proofs.Common.{◌≡◌, ◌≢◌, ℕ, ◌<◌, true, false, Option, Some, None, is_some, List, [], ◌∷◌, ◌++◌, length, All, refl, sym, ap, ◌∙◌, subst, arith}
use Rattle.std.proofs.Common.{append-nil, append_assoc}
use Rattle.std.proofs.lemmas.List.Elements.{All-nil, All-cons, All-append}
use Rattle.std.specs.List.{AllByRecursion}
use Rattle.tidword.specs.TidWord.{is_locked}
use Rattle.commit.specs.Machine.{Machine, Worker, note_at, without, cell, worker}
use Rattle.commit.specs.Events.{after_event, after_all, still_holds, checked, validated_by, finished_by, locked_cell, unlocked_cell, written_cell}
use Rattle.commit.specs.Sections.{Reads, Writes, locks_of, validations_of, installs_of, unlocks_of, KeepsOthers}
use Rattle.commit.specs.declared.worker.Phase.TheVariants.{Begun, Entered, Chosen, Failed}
use Rattle.commit.specs.declared.worker.Cell.{Cell}
use Rattle.commit.specs.declared.event.Event.TheVariants.{Lock, Validate, Install, Unlock}
use Rattle.commit.proofs.Held.{HoldSame, without_all, same_without}
use Rattle.commit.proofs.NoteLists.{Ascend, each, both, held_first, without_first}
use Rattle.commit.proofs.Runs.{Runs, Leaves, keeps_itself, keeps_more, becomes, keeps, cell_here, cell_elsewhere, as_many, sweep}

-- a record as it is locked, and unlocked, where something is to be written there
abbrev pub locked_for : Option (Option (List ℕ)) → Cell → Cell
locked_for (Some value) c = locked_cell c
locked_for None c = c

abbrev pub unlocked_for : Option (Option (List ℕ)) → Cell → Cell
unlocked_for (Some value) c = unlocked_cell c
unlocked_for None c = c

pub lock_all : (w : ℕ) (notes : Writes) (m : Machine) (x : Worker) → worker m w ≡ x → x.phase ≡ Begun → w < length m.workers
    → Ascend notes → AllByRecursion (λ note. note.0 < length m.records) notes → AllByRecursion (λ note. All (λ lock. lock.0 < note.0) x.locks) notes
    → AllByRecursion (λ note. is_locked (cell m note.0).word ≡ false) notes
    → Runs m (locks_of w notes) (λ n. Leaves w m n (record x { locks = x.locks ++ notes }) (λ r. locked_for (note_at notes r)) m.finished)
lock_all w [] m x own begun present ascend within below free = (
  tt,
  record {
    own = own ∙ ap (λ l. record x { locks = l }) (sym (append-nil x.locks));
    cells = λ r. refl;
    finished = refl;
    rest = keeps_itself m w;
  },
)
lock_all w (note ∷ notes) m x own begun present ascend within below free =
    let n : Machine = after_event m (Lock w note.0 note.1) in
    let y : Worker = record x { locks = x.locks ++ note ∷ [] } in
    let now : worker n w ≡ y = becomes w m n _ refl present ∙ ap (λ (q : Worker). record q { locks = q.locks ++ note ∷ [] }) own in
    let here : cell n note.0 ≡ locked_cell (cell m note.0) = cell_here note.0 m n _ refl within.0 in
    let elsewhere : (k : ℕ) → k ≢ note.0 → cell n k ≡ cell m k = cell_elsewhere note.0 m n _ refl in
    let size : length n.records ≡ length m.records = as_many note.0 m n _ refl in
    let kept : KeepsOthers m n w = keeps w m n _ refl size refl in
    let later : Runs n (locks_of w notes) (λ q. Leaves w n q (record y { locks = y.locks ++ notes }) (λ r. locked_for (note_at notes r)) n.finished) =
    lock_all w notes n y now begun (subst (λ q. w < q) (sym kept.workers) present) ascend.1
    (subst (λ q. AllByRecursion (λ other. other.0 < q) notes) (sym size) within.1)
    (each (λ other. (note.0 < other.0) × All (λ lock. lock.0 < other.0) x.locks) (λ other. All (λ lock. lock.0 < other.0) y.locks)
    (λ other h. All-append (λ lock. lock.0 < other.0) x.locks (note ∷ []) h.1
    (All-cons (λ lock. lock.0 < other.0) note [] h.0 (All-nil (λ lock. lock.0 < other.0))))
    notes (both _ _ notes ascend.0 below.1))
    (each (λ other. (note.0 < other.0) × (is_locked (cell m other.0).word ≡ false)) (λ other. is_locked (cell n other.0).word ≡ false)
    (λ other h. ap (λ (c : Cell). is_locked c.word) (elsewhere other.0 (omega (arith, h.0))) ∙ h.1)
    notes (both _ _ notes ascend.0 free.1)) in
    let end : Machine = after_all n (locks_of w notes) in (
      (
        (present, within.0, ap (λ (q : Worker). q.phase) own ∙ begun, subst (λ (q : Worker). All (λ lock. lock.0 < note.0) q.locks) (sym own) below.0, free.0),
        later.0,
      ),
      record {
        own = later.1.own ∙ ap (λ l. record x { locks = l }) (append_assoc x.locks (note ∷ []) notes);
        cells = sweep locked_for (cell m) (cell n) (cell end) note.0 note.1 notes ascend.0 (λ c. refl) here elsewhere later.1.cells;
        finished = later.1.finished;
        rest = keeps_more m n end w kept later.1.rest;
      },
    )

pub validate_all : (w : ℕ) (notes rest : Reads) (m : Machine) (x : Worker) → worker m w ≡ x → x.phase ≡ Entered → w < length m.workers
    → HoldSame x.reads (notes ++ rest) → Ascend (notes ++ rest) → AllByRecursion (λ note. still_holds (cell m note.0) x note.0 note.1 ≡ true) notes
    → Runs m (validations_of w notes)
    (λ n. Leaves w m n (record x { reads = without_all x.reads notes; validated = x.validated ++ notes }) (λ r c. c) m.finished)
validate_all w [] rest m x own entered present same ascend holds = (
  tt,
  record {
    own = own ∙ ap (λ l. record x { validated = l }) (sym (append-nil x.validated));
    cells = λ r. refl;
    finished = refl;
    rest = keeps_itself m w;
  },
)
validate_all w (note ∷ notes) rest m x own entered present same ascend holds =
    let n : Machine = after_event m (Validate w note.0) in
    let y : Worker = record x { reads = without x.reads note.0; validated = x.validated ++ note ∷ [] } in
    let is_held : note_at x.reads note.0 ≡ Some note.1 = same note.0 ∙ held_first note.0 note.1 (notes ++ rest) in
    let now : worker n w ≡ y = becomes w m n _ refl present
    ∙ ap (λ (q : Worker). validated_by q note.0 (cell m note.0) (note_at q.reads note.0)) own
    ∙ ap (validated_by x note.0 (cell m note.0)) is_held
    ∙ ap (checked x note.0 note.1) holds.0 in
    let kept : KeepsOthers m n w = keeps w m n _ refl refl refl in
    let later : Runs n (validations_of w notes)
    (λ q. Leaves w n q (record y { reads = without_all y.reads notes; validated = y.validated ++ notes }) (λ r c. c) n.finished) =
    validate_all w notes rest n y now entered (subst (λ q. w < q) (sym kept.workers) present) (same_without x.reads note.0 note.1 (notes ++ rest) same ascend.0)
    ascend.1 holds.1 in (
      ((present, ap (λ (q : Worker). q.phase) own ∙ entered, ap (λ (q : Worker). is_some (note_at q.reads note.0)) own ∙ ap is_some is_held), later.0),
      record {
        own = later.1.own ∙ ap (λ l. record x { reads = without_all (without x.reads note.0) notes; validated = l })
            (append_assoc x.validated (note ∷ []) notes);
        cells = later.1.cells;
        finished = later.1.finished;
        rest = keeps_more m n _ w kept later.1.rest;
      },
    )

pub install_all : (w count : ℕ) (notes : Writes) (m : Machine) (x : Worker) → worker m w ≡ x → x.phase ≡ Chosen → w < length m.workers
    → x.locks ≡ notes → Ascend notes → AllByRecursion (λ note. note.0 < length m.records) notes → m.finished ≡ finished_by count x
    → Runs m (installs_of w notes)
    (λ n. Leaves w m n (record x { locks = [] }) (λ r c. written_cell c x.last (note_at notes r)) (finished_by count (record x { locks = [] })))
install_all w count [] m x own phase present locks ascend within counted = (
  tt,
  record {
    own = own ∙ ap (λ l. record x { locks = l }) locks;
    cells = λ r. refl;
    finished = counted ∙ ap (λ l. finished_by count (record x { locks = l })) locks;
    rest = keeps_itself m w;
  },
)
install_all w count (note ∷ notes) m x own phase present locks ascend within counted =
    let n : Machine = after_event m (Install w note.0) in
    let y : Worker = record x { locks = notes } in
    let is_held : note_at x.locks note.0 ≡ Some note.1 = ap (λ l. note_at l note.0) locks ∙ held_first note.0 note.1 notes in
    let taken : without x.locks note.0 ≡ notes = ap (λ l. without l note.0) locks ∙ without_first note.0 note.1 notes ascend.0 in
    let left : record (worker m w) { locks = without (worker m w).locks note.0 } ≡ y = ap (λ (q : Worker). record q { locks = without q.locks note.0 }) own
    ∙ ap (λ l. record x { locks = l }) taken in
    let now : worker n w ≡ y = becomes w m n _ refl present ∙ left in
    let here : cell n note.0 ≡ written_cell (cell m note.0) x.last (Some note.1) = cell_here note.0 m n _ refl within.0
    ∙ ap (λ (q : Worker). written_cell (cell m note.0) q.last (note_at q.locks note.0)) own
    ∙ ap (written_cell (cell m note.0) x.last) is_held in
    let elsewhere : (k : ℕ) → k ≢ note.0 → cell n k ≡ cell m k = cell_elsewhere note.0 m n _ refl in
    let size : length n.records ≡ length m.records = as_many note.0 m n _ refl in
    let kept : KeepsOthers m n w = keeps w m n _ refl size refl in
    let before : m.finished ≡ count = counted ∙ (λ i. finished_by count (record x { phase = phase i; locks = locks i })) in
    let counts : n.finished ≡ finished_by count y = (λ i. finished_by (before i) (left i)) in
    let later : Runs n (installs_of w notes)
    (λ q. Leaves w n q (record y { locks = [] }) (λ r c. written_cell c y.last (note_at notes r)) (finished_by count (record y { locks = [] }))) =
    install_all w count notes n y now phase (subst (λ q. w < q) (sym kept.workers) present) refl ascend.1
    (subst (λ q. AllByRecursion (λ other. other.0 < q) notes) (sym size) within.1) counts in
    let end : Machine = after_all n (installs_of w notes) in (
      ((present, ap (λ (q : Worker). q.phase) own ∙ phase, ap (λ (q : Worker). is_some (note_at q.locks note.0)) own ∙ ap is_some is_held), later.0),
      record {
        own = later.1.own;
        cells = sweep (λ o c. written_cell c x.last o) (cell m) (cell n) (cell end) note.0 note.1 notes ascend.0 (λ c. refl) here elsewhere later.1.cells;
        finished = later.1.finished;
        rest = keeps_more m n end w kept later.1.rest;
      },
    )

pub unlock_all : (w : ℕ) (notes : Writes) (m : Machine) (x : Worker) → worker m w ≡ x → x.phase ≡ Failed → w < length m.workers
    → x.locks ≡ notes → Ascend notes → AllByRecursion (λ note. note.0 < length m.records) notes
    → Runs m (unlocks_of w notes) (λ n. Leaves w m n (record x { locks = [] }) (λ r. unlocked_for (note_at notes r)) m.finished)
unlock_all w [] m x own phase present locks ascend within = (
  tt,
  record {
    own = own ∙ ap (λ l. record x { locks = l }) locks;
    cells = λ r. refl;
    finished = refl;
    rest = keeps_itself m w;
  },
)
unlock_all w (note ∷ notes) m x own phase present locks ascend within =
    let n : Machine = after_event m (Unlock w note.0) in
    let y : Worker = record x { locks = notes } in
    let is_held : note_at x.locks note.0 ≡ Some note.1 = ap (λ l. note_at l note.0) locks ∙ held_first note.0 note.1 notes in
    let taken : without x.locks note.0 ≡ notes = ap (λ l. without l note.0) locks ∙ without_first note.0 note.1 notes ascend.0 in
    let now : worker n w ≡ y = becomes w m n _ refl present ∙ ap (λ (q : Worker). record q { locks = without q.locks note.0 }) own
    ∙ ap (λ l. record x { locks = l }) taken in
    let here : cell n note.0 ≡ unlocked_cell (cell m note.0) = cell_here note.0 m n _ refl within.0 in
    let elsewhere : (k : ℕ) → k ≢ note.0 → cell n k ≡ cell m k = cell_elsewhere note.0 m n _ refl in
    let size : length n.records ≡ length m.records = as_many note.0 m n _ refl in
    let kept : KeepsOthers m n w = keeps w m n _ refl size refl in
    let later : Runs n (unlocks_of w notes) (λ q. Leaves w n q (record y { locks = [] }) (λ r. unlocked_for (note_at notes r)) n.finished) =
    unlock_all w notes n y now phase (subst (λ q. w < q) (sym kept.workers) present) refl ascend.1
    (subst (λ q. AllByRecursion (λ other. other.0 < q) notes) (sym size) within.1) in
    let end : Machine = after_all n (unlocks_of w notes) in (
      ((present, ap (λ (q : Worker). q.phase) own ∙ phase, ap (λ (q : Worker). is_some (note_at q.locks note.0)) own ∙ ap is_some is_held), later.0),
      record {
        own = later.1.own;
        cells = sweep unlocked_for (cell m) (cell n) (cell end) note.0 note.1 notes ascend.0 (λ c. refl) here elsewhere later.1.cells;
        finished = later.1.finished;
        rest = keeps_more m n end w kept later.1.rest;
      },
    )
