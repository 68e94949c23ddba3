-- A commit of the book is a run of the machine that shows it.
use Rattle.std.proofs.Common.{◌≡◌, ◌≢◌, ℕ, ◌%◌, ◌<◌, ⊎_elim, true, false, cond, Bool, Option, Some, None, IsSome, is_some, List, [], ◌∷◌, ◌++◌, length, refl}
use Rattle.std.proofs.Common.{sym, ap, ◌∙◌, subst, arith, ◌==◌}
use Rattle.std.specs.Prelude.{max, slice_index}
use Rattle.std.specs.List.{All}
use Rattle.std.specs.List.Sorted.{IsStrictlySortedBy}
use Rattle.std.specs.Ordering.{nat_cmp, is_eq}
use Rattle.std.specs.Map.{keys_of, lookup}
use Rattle.std.specs.BTreeMap.{is_at}
use Rattle.std.proofs.lemmas.Bool.{cases_eq, eq-eqb, ne_eqb}
use Rattle.std.proofs.lemmas.List.{append-nil}
use Rattle.std.proofs.lemmas.List.Elements.{All-nil, All-cons, All-head, All-tail, All-map, All-weaker, All-contains}
use Rattle.std.proofs.lemmas.Map.Views.{Contains-from_lookup}
use Rattle.std.specs.Option.{option_map_or}
use Rattle.tidword.specs.TidWord.{tid_of, installed_word}
use Rattle.tidword.specs.Lawful.{next}
use Rattle.tidword.proofs.Sequences.{max_is}
use Rattle.commit.specs.Machine as machine
use Rattle.commit.specs.Machine.{Machine, cell, worker}
use Rattle.commit.specs.Events.{greatest_read, written_cell, after_all}
use Rattle.commit.specs.Sections.{Reads, Writes, section, full_section, stale_section, MayLock, HasRead, AreCurrent, IsStale, next_for, AreSections}
use Rattle.commit.specs.declared.worker.Cell.{Cell}
use Rattle.commit.specs.declared.worker.Version as machine_version
use Rattle.commit.proofs.Locked.{are_sections}
use Rattle.commit.proofs.Woven.{woven}
use Rattle.commit.proofs.OwnEvents.{section_own, full_section_own, stale_section_own}
use Rattle.commit.proofs.Current.{current_or_stale, next_of_reads}
use Rattle.tables.specs.Database.{Database}
use Rattle.cells.specs.Versions.{EndsWith, last_tid, value_in, newest as newest_of}
use Rattle.readset.proofs.CellsOf.{count_of}
use Rattle.cells.specs.Records.{CellsView, PenView, ReaderView, at, words_of, cell_count}
use Rattle.cells.specs.declared.cells.Version.{Version}
use Rattle.cells.proofs.Rising.{last_tid-last}
use Rattle.readset.specs.Reads.{ReadSetView, held}
use Rattle.readset.specs.Writes.{value_for}
use Rattle.readset.specs.declared.work.Work.{Work}
use Rattle.readset.proofs.Numbers.{same_test, other_test, same_number as same_key}
use Rattle.book.specs.History.{committed_version, new_versions}
use Rattle.book.specs.Stamps.{last_of, greatest_tid, tid_for}
use Rattle.book.specs.Book.{BookView, IsSound, IsWorkOf, AreInRecordOrder, AreLatest, HasConflict}
use Rattle.book.specs.Ready.{IsReady, IsFree}
use Rattle.book.specs.Shows.{reads_of, Mirrors, IsCommitRun, IsFullRun, IsStaleRun}
use Rattle.book.proofs.Held.{has_newest}
use Rattle.book.proofs.Sound.{value_in_version, last_one}
use Rattle.book.proofs.AboveTids.{whole}

-- what the machine's look-ups find is what the book's do
same_number : (a b : ℕ) → (a == b) ≡ is_eq (nat_cmp b a)
same_number a b = ⊎_elim
    (λ (e : a ≡ b). eq-eqb a b e ∙ sym (same_test b a (sym e)))
    (λ (e : a ≢ b). ne_eqb a b e ∙ sym (other_test b a (λ q. e (sym q))))
    (cases_eq a b)

found : {X : Type 0} (notes : List (ℕ × X)) (n : ℕ) → machine.note_at notes n ≡ lookup (is_at (nat_cmp n)) notes
found [] n = refl
found (note ∷ notes) n = λ i. cond (same_number note.0 n i) (Some note.1) (found notes n i)

either : {X Y : Type 0} (b : Bool) (x : X) (y : Y) (xs : Option X) (ys : Option Y) → is_some xs ≡ is_some ys
    → is_some (cond b (Some x) xs) ≡ is_some (cond b (Some y) ys)
either true x y xs ys same = refl
either false x y xs ys same = same

read_too : (reads : ReadSetView) (n : ℕ) → is_some (machine.note_at (reads_of reads) n) ≡ is_some (held reads n)
read_too [] n = refl
read_too (read ∷ reads) n = either (read.0 == n) _ read.1 (machine.note_at (reads_of reads) n) (held reads n) (read_too reads n)
    ∙ ap (λ b. is_some (cond b (Some read.1) (held reads n))) (same_number read.0 n)

same_numbers : (reads : ReadSetView) → keys_of (reads_of reads) ≡ keys_of reads
same_numbers [] = refl
same_numbers (read ∷ reads) = ap (λ l. read.0 ∷ l) (same_numbers reads)

-- the greatest TID of what was read
same_greatest : (reads : ReadSetView) → greatest_read (reads_of reads) ≡ greatest_tid reads
same_greatest [] = refl
same_greatest (read ∷ reads) = ap (max (tid_of read.1.word)) (same_greatest reads)

greatest_bits : (reads : ReadSetView) → greatest_tid reads % 8 ≡ 0
greatest_bits [] = refl
greatest_bits (read ∷ reads) = max_is (λ n. n % 8 ≡ 0) (tid_of read.1.word) (greatest_tid reads) (no_bits read.1.word) (greatest_bits reads)
  where
    no_bits : (word : ℕ) → tid_of word % 8 ≡ 0
    no_bits word = omega arith

-- a version as a record of the machine
abbrev cell_of : List ℕ → Cell
cell_of v = record { word = slice_index v 0; value = value_in v }

installed_cell : (tid : ℕ) (value : Option (List ℕ)) → tid % 8 ≡ 0 → ◌≡◌ {A = Cell} (record { word = installed_word tid value; value = value })
    (cell_of (committed_version tid value))
installed_cell tid value bits = λ i. record { word = installed_word tid value; value = sym (value_in_version tid value bits) i }

-- where all reads are current, so is each
abbrev IsCurrent : Machine → ℕ × Version → Type 0
IsCurrent m read = tid_of (cell m read.0).word ≡ tid_of read.1.word

all_current : (m : Machine) (reads : ReadSetView) → AreCurrent m (reads_of reads) → All (IsCurrent m) reads
all_current m [] all = All-nil (IsCurrent m)
all_current m (read ∷ reads) all = All-cons (IsCurrent m) read reads
    (All-head (λ (it : ℕ × machine_version.Version). tid_of (cell m it.0).word ≡ it.1.tid) _ (reads_of reads) all)
    (all_current m reads (All-tail (λ (it : ℕ × machine_version.Version). tid_of (cell m it.0).word ≡ it.1.tid) _ (reads_of reads) all))

each_current : (m : Machine) (reads : ReadSetView) → AreCurrent m (reads_of reads) → (n : ℕ) (v : Version) → held reads n ≡ Some v
    → tid_of (cell m n).word ≡ tid_of v.word
each_current m reads all n v e = All-contains (IsCurrent m) reads (n, v) (all_current m reads all)
    (Contains-from_lookup {eq = λ x y. is_eq (nat_cmp x y)} same_key n v reads e)

module _ {past : ℕ} {t0 : Database} {run_cells : CellsView} {epoch : ℕ} (k : BookView) {t : Database}
    (sound : IsSound past t0 k.written k.history t) (ready : IsReady past t0 run_cells epoch k.written k.history t)
    {reader : ReaderView} {work : Work} (is_work : IsWorkOf t0 run_cells reader work) (order : AreInRecordOrder work.reads work.writes)
    (terminal w : ℕ) (m : Machine) (shows : Mirrors k terminal epoch work.reads m w) where
  abbrev reads : Reads
  reads = reads_of work.reads

  abbrev writes : Writes
  writes = work.writes.values

  -- each record has a newest version, which the machine shows
  newest : (n : ℕ) → n < cell_count run_cells → (v : List ℕ) × EndsWith (at k.written.all n) v
  newest n h = (newest_of (at k.written.all n), has_newest sound n (subst (λ m. n < m) (count_of t0.scale run_cells ready.count) h))

  shown : (n : ℕ) → n < cell_count run_cells → (v : List ℕ) → EndsWith (at k.written.all n) v → cell m n ≡ cell_of v
  shown n h = shows.records.newest n (subst (λ (l : CellsView). n < cell_count l) (sym ready.cells) h)

  as_many : length m.records ≡ cell_count run_cells
  as_many = shows.records.count ∙ ap cell_count ready.cells

  same_tid : (n : ℕ) → n < cell_count run_cells → tid_of (cell m n).word ≡ last_tid (at k.written.all n)
  same_tid n h = let v = newest n h in ap (λ (c : Cell). tid_of c.word) (shown n h v.0 v.1) ∙ sym (last_tid-last (at k.written.all n) v.0 v.1)

  free : (n : ℕ) → n < length m.records → IsFree (cell m n).word
  free n small =
      let h : n < cell_count run_cells = subst (λ q. n < q) as_many small in
      let v = newest n h in
      subst (λ (c : Cell). IsFree c.word) (sym (shown n h v.0 v.1)) (ready.free n h v.0 v.1)

  may_lock : MayLock m w writes
  may_lock = record {
    present = shows.present;
    begun = shows.begun;
    lockless = shows.lockless;
    ascending = order.writes_ascend;
    within = All-weaker (λ (e : ℕ × Option (List ℕ)). value_for work.writes e.0 ≡ Some e.1) (λ (e : ℕ × Option (List ℕ)). e.0 < length m.records)
        (λ e is. subst (λ q. e.0 < q) (sym as_many) (is_work.limits.writes_cells e.0 e.1 is)) writes order.writes_found;
    unlocked = λ n h. (free n h).unlocked;
    latest = λ n h. (free n h).latest;
  }

  sections : AreSections m w writes
  sections = are_sections m w writes may_lock

  has_read : HasRead m w reads
  has_read = record { all = shows.reads; ascending = subst (IsStrictlySortedBy nat_cmp) (sym (same_numbers work.reads)) order.reads_ascend }

  -- a version that isn't its record's latest is among the reads that aren't current
  pub stale_run : HasConflict k.written.all work.reads → IsStaleRun m w reads writes
  stale_run conflict = ⊎_elim
      (λ (all : AreCurrent m reads). absurd
      (conflict.3 (sym (each_current m work.reads all conflict.0 conflict.1 conflict.2)
      ∙ same_tid conflict.0 (is_work.read.within conflict.0 conflict.1 conflict.2))))
      (λ (it : IsStale m reads).
      let fails = sections.stale reads has_read it in (
        it,
        record {
          enabled = fails.0;
          ends = fails.1;
          woven =
              woven m w (stale_section w it.passed it.at writes) (stale_section_own w it.passed it.at writes) fails.0;
        },
      ))
      (current_or_stale m reads)

  module _ (latest : AreLatest k.written.all work.reads) where
    current : AreCurrent m reads
    current = All-map (λ read. tid_of (cell m read.0).word ≡ read.1.tid) _ work.reads
        (All-weaker (λ (e : ℕ × Version). held work.reads e.0 ≡ Some e.1) (λ (e : ℕ × Version). tid_of (cell m e.0).word ≡ tid_of e.1.word)
        (λ e is. same_tid e.0 (is_work.read.within e.0 e.1 is) ∙ last_tid-last (at k.written.all e.0) (words_of e.1) (latest e.0 e.1 is)) work.reads
        order.reads_found)

    all_read : All (λ (write : ℕ × Option (List ℕ)). IsSome (machine.note_at reads write.0)) writes
    all_read = All-weaker (λ (e : ℕ × Option (List ℕ)). value_for work.writes e.0 ≡ Some e.1) (λ (e : ℕ × Option (List ℕ)). IsSome (machine.note_at reads e.0))
        (λ e is. read_too work.reads e.0 ∙ is_work.limits.writes_read e.0 e.1 is) writes order.writes_found

    next_is : next_for m w reads writes ≡ tid_for k.history terminal epoch work.reads
    next_is = next_of_reads m w reads writes current all_read
        ∙ (λ i. next ((ap tid_of (same_greatest work.reads) ∙ whole (greatest_tid work.reads) (greatest_bits work.reads)) i)
        ((ap tid_of shows.last ∙ whole (last_of terminal k.history) (ready.terminals terminal).bits) i) (shows.in_epoch i))

    pub full_run : tid_for k.history terminal epoch work.reads ≡ None → IsFullRun m w reads writes
    full_run none =
        let fails = sections.full reads has_read current (next_is ∙ none) in
        record { enabled = fails.0; ends = fails.1; woven = woven m w (full_section w reads writes) (full_section_own w reads writes) fails.0 }

    module _ (tid : ℕ) (new : PenView) (bits : tid % 8 ≡ 0) (after : Machine)
        (cells : (n : ℕ) → cell after n ≡ written_cell (cell m n) tid (machine.note_at writes n))
        (stores : (n : ℕ) → at new.all n ≡ at k.written.all n ++ new_versions tid work.writes.values n) where
      -- the newest versions after the commit are the records after the run
      newest_again : (n : ℕ) → n < cell_count run_cells → (v : List ℕ) → EndsWith (at new.all n) v → cell after n ≡ cell_of v
      newest_again n h v e =
          elim (value_for work.writes n) as (λ o. value_for work.writes n ≡ o → cell after n ≡ cell_of v) [
            | None ↦ λ none. cells n ∙ ap (written_cell (cell m n) tid) (found writes n ∙ none)
                ∙ shown n h v (subst (λ (l : List (List ℕ)). EndsWith l v)
                (stores n ∙ ap (λ (o : Option (Option (List ℕ))). at k.written.all n ++ option_map_or (λ value. committed_version tid value ∷ []) o []) none
                ∙ append-nil (at k.written.all n)) e)
            | Some value ↦ λ some. cells n ∙ ap (written_cell (cell m n) tid) (found writes n ∙ some) ∙ installed_cell tid value bits
                ∙ ap cell_of (sym (last_one e.0 (at k.written.all n) v (committed_version tid value)
                (sym e.1 ∙ stores n ∙ ap (λ (o : Option (Option (List ℕ))). at k.written.all n ++ option_map_or (λ x. committed_version tid x ∷ []) o [])
                some)))
          ] refl

    pub run : (tid : ℕ) (new : PenView) → tid_for k.history terminal epoch work.reads ≡ Some tid → tid % 8 ≡ 0 → new.cells ≡ k.written.cells
        → ((n : ℕ) → at new.all n ≡ at k.written.all n ++ new_versions tid work.writes.values n) → IsCommitRun m w reads writes tid new
    run tid new is bits cells stores =
        let commits = sections.ok reads tid has_read current (next_is ∙ is) in
        record {
          enabled = commits.0;
          ends = (
            commits.1,
            record {
              count = commits.1.rest.records ∙ shows.records.count ∙ sym (ap cell_count cells);
              newest = λ n h. newest_again tid new bits (after_all m (section w reads writes)) commits.1.cells stores n
                  (subst (λ (l : CellsView). n < cell_count l) (cells ∙ ready.cells) h);
            },
          );
          woven = woven m w (section w reads writes) (section_own w reads writes) commits.0;
        }
