-- What a commit has found, and what follows for what it takes and leaves.
use Rattle.std.proofs.Common.{◌≡◌, ◌≢◌, ℕ, ◌+◌, ◌-◌, ◌%◌, ◌^◌, ◌<◌, ◌≤◌, Option, Some, None, List, [], ◌∷◌, ◌++◌, map, length, refl, sym, ap, ◌∙◌, subst, arith}
use Rattle.std.specs.Arc.{arc_value}
use Rattle.std.specs.Prelude.{slice_index_or, slice_set}
use Rattle.std.proofs.lemmas.Grind.{get_or_default_zero}
use Rattle.std.proofs.lemmas.List.{length-append}
use Rattle.money.specs.declared.refusal.Refusal.{Refusal}
use Rattle.money.specs.declared.refusal.Refusal.TheVariants.{OutOfMemory, Conflict, CommitsFull, EpochFull}
use Rattle.tables.specs.Sizes.{Sizes}
use Rattle.tables.specs.Database.{Database}
use Rattle.tables.specs.Apply.{after}
use Rattle.tidword.specs.TidWord.{tid_of}
use Rattle.tidword.specs.Lawful.{IsLawful, next}
use Rattle.cells.specs.Versions.{last_tid}
use Rattle.cells.specs.Records.{PenView, ReaderView, at}
use Rattle.readset.specs.Writes.{value_for}
use Rattle.readset.specs.declared.work.Work.{Work}
use Rattle.board.specs.Steps.{known_epoch, counted_epochs}
use Rattle.board.specs.Seats.{BoardView, SeatView, noted}
use Rattle.board.specs.declared.rule.WordStep.TheVariants.{LoadEpoch, CountCommit}
use Rattle.totals.specs.Totals.{TotalsView, AreTotals}
use Rattle.totals.specs.Counts.{AreHeld, MayFollow}
use Rattle.book.specs.Book.{BookView, AreInRecordOrder, AreLatest, IsRead, IsSound, IsWorkOf, entry_of}
use Rattle.book.specs.Committing.{IsDue, IsDeclined, IsHindered}
use Rattle.book.specs.Epochs.{found_epoch}
use Rattle.book.specs.History.{replay, new_versions}
use Rattle.book.specs.Keeps.{BookParts, KeepsBook}
use Rattle.book.specs.Ready.{IsReady}
use Rattle.book.specs.Run.{RunView}
use Rattle.book.specs.Stamps.{last_of, greatest_tid, tid_for}
use Rattle.book.specs.Streams.{IsSameUntaken}
use Rattle.book.specs.declared.entry.Entry.{Entry}
use Rattle.book.specs.declared.untaken.Untaken.{Untaken}
use Rattle.book.proofs.Loaded.{found_later, ready_loaded, counts_on, may_count}
use Rattle.book.proofs.Loggable.{next_loggable}
use Rattle.book.proofs.Replaying.{replay_push}
use Rattle.book.proofs.Sound.{done_there}
use Rattle.book.proofs.Stamped.{lasts_next}
use Rattle.book.proofs.Streams.{streams_later, streams_reserved, streams_added}
use Rattle.book.proofs.AboveTids.{same_next, there_is, taken_above, next_kept}
use Rattle.book.proofs.TotalsKept.{may_follow, held_there}

-- what contracts see of a book that has these parts
abbrev pub view_of : BookParts → BookView
view_of b = record {
  written = b.pen;
  history = b.history;
  seat = b.seat;
  taken = map (λ s. s.taken) b.streams;
  marks = map (λ s. s.mark) b.streams;
}

abbrev pub view_here : {run : RunView} {parts : ℕ} {book : BookParts} → KeepsBook run parts book → BookView
view_here {book = book} kept = view_of book

-- the book keeps its parts as its seat loads E
pub kept_loaded : {run : RunView} {parts : ℕ} {book : BookParts} → KeepsBook run parts book → {here : BoardView} → here ≡ run.board → {epoch : ℕ}
    → known_epoch here.plan.base book.seat.steps ≤ epoch → {pen : PenView} {seat : SeatView} → pen ≡ book.pen → seat ≡ noted book.seat (LoadEpoch epoch)
    → KeepsBook run parts (record book { pen = pen; seat = seat })
kept_loaded {run} {parts} {book} kept same {epoch} later pen seat = subst (KeepsBook run parts) (λ i. record book { pen = sym pen i; seat = sym seat i }) (record {
  population = kept.population;
  seed = kept.seed;
  past = kept.past;
  become = kept.become;
  sound = kept.sound;
  ready = ready_loaded book.seat kept.board same later kept.ready;
  totals = kept.totals;
  shares = kept.shares;
  lasts = kept.lasts;
  board = kept.board;
  counted = kept.counted;
  streams = streams_later run.board.plan (found_epoch book.seat) epoch book.history book.streams (found_later book.seat kept.board same later) kept.streams;
  loggable = kept.loggable;
})

-- the cap, and how many have committed
pub cap_of : {run : RunView} {parts : ℕ} {book : BookParts} → KeepsBook run parts book → {cap : ℕ} {s : Sizes} → cap ≡ s.commits → s ≡ book.population.scale
    → cap ≡ run.first.scale.commits
cap_of kept cap scale = cap ∙ ap (λ (s : Sizes). s.commits)
    (scale ∙ ap (λ (t : Database). t.scale) kept.population ∙ sym kept.become.of_population.scale)

pub count_of : {run : RunView} {parts : ℕ} {book : BookParts} → KeepsBook run parts book → {n : ℕ} → n ≡ length book.history → book.past + n ≡ run.past + length book.history
count_of kept many = λ i. kept.past i + many i

-- a refusal behind the validation, of a book whose cap and number of commits are these
pub never_full : {count cap : ℕ} {tid : Option ℕ} (refusal : Refusal) → IsHindered count cap tid refusal → (count < cap → tid ≡ None → ⊥)
    → refusal ≢ EpochFull
never_full EpochFull h never e = never h.0 h.1
never_full CommitsFull h never e = cc
never_full OutOfMemory h never e = cc
never_full _ h never e = absurd h

pub no_conflict : (count cap : ℕ) (tid : Option ℕ) (refusal : Refusal) → IsHindered count cap tid refusal → refusal ≢ Conflict
no_conflict count cap tid CommitsFull h e = cc
no_conflict count cap tid EpochFull h e = cc
no_conflict count cap tid OutOfMemory h e = cc
no_conflict count cap tid _ h e = absurd h

pub none_taken : (count cap : ℕ) (tid : Option ℕ) (refusal : Refusal) → IsHindered count cap tid refusal → refusal ≡ EpochFull → tid ≡ None
none_taken count cap tid EpochFull h e = h.1
none_taken count cap tid CommitsFull h e = absurd (other e)
  where
    other : CommitsFull ≢ EpochFull
    other q = cc
none_taken count cap tid OutOfMemory h e = absurd (other e)
  where
    other : OutOfMemory ≢ EpochFull
    other q = cc
none_taken count cap tid _ h e = absurd h

pub declined_by : {t0 : Database} {book : BookView} (count : ℕ) (tid : Option ℕ) {work : Work} (refusal : Refusal) → IsDue t0 book work
    → IsHindered count t0.scale.commits tid refusal → IsDeclined t0 book count tid work refusal
declined_by count tid Conflict due h = absurd h
declined_by count tid OutOfMemory due h = (due, h)
declined_by count tid CommitsFull due h = (due, h)
declined_by count tid EpochFull due h = (due, h)
declined_by count tid _ due h = (due, h)

-- what a commit has found: the book, whose seat then loads this epoch; a work of this reader, all of whose reads are the
-- latest, with the greatest of their TIDs; and its terminal's last TID
pub record Found (run : RunView) (parts : ℕ) (book : BookParts) (reader : ReaderView) (work : Work) (terminal epoch seen last : ℕ) : Type 0 where
  pub kept : KeepsBook run parts book
  pub later : found_epoch book.seat ≤ epoch
  pub ready : IsReady run.past run.first run.cells epoch book.pen book.history (replay run.first book.history)
  pub is_work : IsWorkOf run.first run.cells reader work
  pub ordered : AreInRecordOrder work.reads work.writes
  pub latest : AreLatest book.pen.all work.reads
  pub greatest : seen ≡ greatest_tid work.reads
  pub is_read : IsRead work.reads seen
  pub own : terminal < parts
  pub last_is : last ≡ last_of terminal book.history

pub found_of : {run : RunView} {parts : ℕ} {book : BookParts} → KeepsBook run parts book → {here : BoardView} → here ≡ run.board → {epoch : ℕ}
    → known_epoch here.plan.base book.seat.steps ≤ epoch → {reader : ReaderView} {work : Work} → IsWorkOf run.first run.cells reader work
    → AreInRecordOrder work.reads work.writes → {seen : ℕ} → AreLatest book.pen.all work.reads × (seen ≡ greatest_tid work.reads) × IsRead work.reads seen
    → {terminal last : ℕ} → terminal < parts → last ≡ slice_index_or book.lasts terminal last
    → Found run parts book reader work terminal epoch seen last
found_of {book = book} kept same later is_work ordered found {terminal = terminal} {last = last} own is = record {
  kept = kept;
  later = found_later book.seat kept.board same later;
  ready = ready_loaded book.seat kept.board same later kept.ready;
  is_work = is_work;
  ordered = ordered;
  latest = found.0;
  greatest = found.1;
  is_read = found.2;
  own = own;
  last_is = is ∙ get_or_default_zero book.lasts terminal last within ∙ kept.lasts.last terminal within;
}
  where
    within : terminal < length book.lasts
    within = subst (λ n. terminal < n) (sym kept.lasts.count) own

module _ {run : RunView} {parts : ℕ} {book : BookParts} {reader : ReaderView} {work : Work} {terminal epoch seen last : ℕ}
    (f : Found run parts book reader work terminal epoch seen last) where
  pub is_due : IsDue run.first (view_of book) work
  is_due = record { latest = f.latest; there = done_there f.kept.sound f.ready f.is_work f.latest }

  -- the TID that it asks for is the one that its definition says, and there is one below the cap
  pub same_tid : next (tid_of seen) (tid_of last) epoch ≡ tid_for book.history terminal epoch work.reads
  same_tid = same_next f.kept.sound f.ready f.is_work f.latest terminal f.is_read f.greatest f.last_is

  pub has_tid : run.past + length book.history < run.first.scale.commits → next (tid_of seen) (tid_of last) epoch ≡ None → ⊥
  has_tid = there_is f.kept.sound f.ready f.is_work f.latest terminal f.is_read f.greatest f.last_is

  -- the totals may follow what it writes
  pub follows : run.past + length book.history < run.first.scale.commits
      → MayFollow (replay run.first book.history) work.input work.reply book.totals book.pen work.writes
  follows below = may_follow f.kept.sound f.ready f.kept.totals f.is_work f.latest f.ordered below

  -- room is made in the terminal's stream
  pub kept_reserved : {n : ℕ} → n ≡ length book.streams → (s t : Untaken) → s ≡ slice_index_or book.streams (terminal % n) s → IsSameUntaken s t
      → {pen : PenView} {history : List Entry} {seat : SeatView} → pen ≡ book.pen → history ≡ book.history → seat ≡ noted book.seat (LoadEpoch epoch)
      → KeepsBook run parts (record book { pen = pen; history = history; streams = slice_set book.streams (terminal % n) t; seat = seat })
  kept_reserved {n} many s t is same pen history seat = subst (KeepsBook run parts) (λ i. record book {
    pen = sym pen i;
    history = sym history i;
    streams = slice_set book.streams (terminal % n) t;
    seat = sym seat i;
  }) (record {
    population = f.kept.population;
    seed = f.kept.seed;
    past = f.kept.past;
    become = f.kept.become;
    sound = f.kept.sound;
    ready = f.ready;
    totals = f.kept.totals;
    shares = f.kept.shares;
    lasts = f.kept.lasts;
    board = f.kept.board;
    counted = f.kept.counted;
    streams = streams_reserved run.board.plan (found_epoch book.seat) epoch n terminal book.history book.streams s f.later (many ∙ f.kept.streams.count)
        f.kept.streams is t same;
    loggable = f.kept.loggable;
  })

  module _ {tid : ℕ} (lawful : IsLawful seen last epoch tid) (taken : next (tid_of seen) (tid_of last) epoch ≡ Some tid) where
    pub larger : (n : ℕ) (value : Option (List ℕ)) → value_for work.writes n ≡ Some value → last_tid (at book.pen.all n) < tid
    larger = taken_above f.kept.sound f.ready f.is_work f.latest terminal f.is_read f.greatest f.last_is tid lawful taken

    abbrev entry : Entry
    entry = entry_of (run.past + length book.history + 1) tid terminal work

    abbrev t : Database
    t = replay run.first book.history

    -- the commit is stored, counted and put into its stream
    pub kept_committed : run.past + length book.history < run.first.scale.commits → (pen : PenView) → pen.cells ≡ book.pen.cells
        → ((n : ℕ) → at pen.all n ≡ at book.pen.all n ++ new_versions tid work.writes.values n)
        → (totals : TotalsView) → (AreHeld pen (after t work.input) → AreTotals (after t work.input) totals)
        → {n : ℕ} → n ≡ length book.streams → (s u : Untaken) → s ≡ slice_index_or book.streams (terminal % n) s
        → u.taken ≡ s.taken → u.last_taken ≡ s.last_taken → u.mark ≡ s.mark
        → map arc_value u.waiting.items ≡ map arc_value s.waiting.items ++ entry ∷ []
        → {history' : List Entry} {shares' : ℕ} {seat' : SeatView} → history' ≡ book.history ++ entry ∷ [] → shares' ≡ book.shares + 1 → seat' ≡ noted (noted book.seat (LoadEpoch epoch)) (CountCommit epoch)
        → KeepsBook run parts (record book {
          pen = pen;
          totals = totals;
          history = history';
          streams = slice_set book.streams (terminal % n) u;
          lasts = slice_set book.lasts terminal tid;
          shares = shares';
          seat = seat';
        })
    kept_committed below pen cells stores totals totals_of {n} many s u is same_taken same_last same_mark waiting history_is shares_is seat_is =
        let made = next_kept f.kept.sound f.ready f.is_work f.latest terminal f.is_read f.greatest f.last_is tid lawful taken pen below cells stores in
        let led : after t work.input ≡ replay run.first (book.history ++ entry ∷ []) = sym (replay_push run.first book.history entry) in
        subst (KeepsBook run parts) (λ i. record book {
          pen = pen;
          totals = totals;
          history = sym history_is i;
          streams = slice_set book.streams (terminal % n) u;
          lasts = slice_set book.lasts terminal tid;
          shares = sym shares_is i;
          seat = sym seat_is i;
        }) (record {
          population = f.kept.population;
          seed = f.kept.seed;
          past = f.kept.past;
          become = f.kept.become;
          sound = subst (IsSound run.past run.first pen (book.history ++ entry ∷ [])) led made.0;
          ready = subst (IsReady run.past run.first run.cells epoch pen (book.history ++ entry ∷ [])) led made.1;
          totals = subst (λ d. AreTotals d totals) led
              (totals_of (held_there made.0 made.1.of_population.scale));
          shares = ap (λ m. m + 1) f.kept.shares ∙ sym (length-append book.history (entry ∷ []));
          lasts = lasts_next parts book.history book.lasts entry f.kept.lasts (subst (λ m. terminal < m) (sym f.kept.lasts.count) f.own);
          board = f.kept.board;
          counted = counts_on book.seat book.history epoch entry f.kept.counted lawful.in_epoch;
          streams = streams_added run.board.plan (found_epoch book.seat) epoch n terminal book.history book.streams s f.later
              (many ∙ f.kept.streams.count) f.kept.streams is u entry refl lawful.in_epoch same_taken same_last same_mark waiting;
          loggable = next_loggable (run.past + length book.history + 1) tid terminal f.kept.loggable f.is_work f.ready.count f.ordered is_due.there
              made.0.well_formed f.own;
        })

-- there is room to count one commit more
pub may_count_one : {run : RunView} {parts : ℕ} {book : BookParts} → KeepsBook run parts book → run.past + length book.history < run.first.scale.commits
    → length (counted_epochs book.seat.steps) < 2 ^ 64 - 1
may_count_one {run} {parts} {book} kept below = may_count book.seat book.history run.first.scale.commits kept.counted
    (within run.past (length book.history) run.first.scale.commits below) kept.ready.few
  where
    within : (past n cap : ℕ) → past + n < cap → n < cap
    within past n cap h = omega (arith, h)
