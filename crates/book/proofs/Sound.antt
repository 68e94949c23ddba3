-- A commit keeps the book sound.
use Rattle.std.proofs.Common.{◌≡◌, ℕ, ◌+◌, ◌-◌, ◌/◌, ◌%◌, ◌^◌, ◌<◌, ◌≤◌, cond, Option, Some, None, IsSome, List, [], ◌∷◌, ◌++◌, length, replicate, refl, sym}
use Rattle.std.proofs.Common.{ap, ◌∙◌, subst, arith, length-append, ◌==◌, inl, inr, ⊎_elim, ◌≢◌, is_some, true≢false}
use Rattle.std.proofs.lemmas.List.{append-nil, append_assoc}
use Rattle.std.specs.Option.{option_map_or, unwrap_or}
use Rattle.std.specs.Prelude.{slice_index}
use Rattle.tables.specs.Sizes.{Sizes}
use Rattle.tables.specs.Database.{Database}
use Rattle.tables.specs.Inputs.{IsInput}
use Rattle.tables.specs.Apply.{after}
use Rattle.tables.specs.Records.{record_count}
use Rattle.tables.specs.Rows.{rows}
use Rattle.tables.specs.WellFormed.{HasRoom}
use Rattle.tables.specs.declared.limits.TheConstants.{MAX_COMMITS}
use Rattle.tables_laws.proofs.Kept.{after-IsWellFormed, after-HasRoom, after-IsConsistent, after-IsOf}
use Rattle.std.proofs.lemmas.Bool.{cases_eq, eq-eqb, ne_eqb}
use Rattle.tidword.proofs.Words.{installed-tid, installed-present, installed-absent}
use Rattle.cells.specs.First.{first_version}
use Rattle.cells.specs.Versions.{EndsWith, tid, last_tid, value_in}
use Rattle.readset.proofs.CellsOf.{count_of}
use Rattle.cells.specs.Records.{CellsView, PenView, ReaderView, at, words_of, cell_count}
use Rattle.cells.proofs.Rising.{last_tid-push, last_tid-last}
use Rattle.readset.specs.Writes.{rows_with, value_for}
use Rattle.readset.specs.Commit.{IsCommitOf}
use Rattle.readset.specs.Explains.{Agrees}
use Rattle.readset.specs.declared.work.Work.{Work}
use Rattle.book.specs.History.{replay, CommitsAt, IsLegal, committed_version, new_versions, entry_versions, later_versions}
use Rattle.book.specs.Book.{IsSound, IsWorkOf, IsRead, AreLatest, entry_of}
use Rattle.book.specs.Stamps.{last_of}
use Rattle.book.specs.Ready.{IsReady, IsTidWithin, IsFree}
use Rattle.book.proofs.Stamped.{all_stamped, all_passed, last_here, last_there, within_more}
use Rattle.book.specs.declared.entry.Entry.{Entry}
use Rattle.book.proofs.Executed.{explains_where_consistent}
use Rattle.book.proofs.Replaying.{replay_push, replays_push}

-- one entry more
later_push : (es : List Entry) (e : Entry) (n : ℕ) → later_versions (es ++ e ∷ []) n ≡ later_versions es n ++ entry_versions e n
later_push [] e n = append-nil (entry_versions e n)
later_push (f ∷ es) e n = ap (λ l. entry_versions f n ++ l) (later_push es e n)
    ∙ sym (append_assoc (entry_versions f n) (later_versions es n) (entry_versions e n))

-- what a version that a commit stores says
tid_version : (tid_is : ℕ) (value : Option (List ℕ)) → tid_is % 8 ≡ 0 → tid (committed_version tid_is value) ≡ tid_is
tid_version tid_is value bits = installed-tid tid_is value bits

pub value_in_version : (tid_is : ℕ) (value : Option (List ℕ)) → tid_is % 8 ≡ 0 → value_in (committed_version tid_is value) ≡ value
value_in_version tid_is (Some words) bits = ap (λ k. cond (k == 0) (Some words) None) (installed-present tid_is words bits)
value_in_version tid_is None bits = ap (λ k. cond (k == 0) (Some (replicate 7 0)) None) (installed-absent (List ℕ) tid_is bits)

-- and its word
free_version : (tid_is : ℕ) (value : Option (List ℕ)) → tid_is % 8 ≡ 0 → IsFree (slice_index (committed_version tid_is value) 0)
free_version tid_is (Some words) bits = record {
  unlocked = ne_eqb ((tid_is + 2) % 2) 1 (λ (e : (tid_is + 2) % 2 ≡ 1). omega (arith, bits, e));
  latest = eq-eqb ((tid_is + 2) / 2 % 2) 1 (omega (arith, bits));
}
free_version tid_is None bits = record {
  unlocked = ne_eqb ((tid_is + 6) % 2) 1 (λ (e : (tid_is + 6) % 2 ≡ 1). omega (arith, bits, e));
  latest = eq-eqb ((tid_is + 6) / 2 % 2) 1 (omega (arith, bits));
}

pub last_one : (xs ys : List (List ℕ)) (a b : List ℕ) → xs ++ a ∷ [] ≡ ys ++ b ∷ [] → a ≡ b
last_one xs ys a b e = sym (end xs a) ∙ ap last_of e ∙ end ys b
  where
    last_of : List (List ℕ) → List ℕ
    last_of [] = []
    last_of (x ∷ []) = x
    last_of (x ∷ y ∷ rest) = last_of (y ∷ rest)

    end : (xs : List (List ℕ)) (a : List ℕ) → last_of (xs ++ a ∷ []) ≡ a
    end [] a = refl
    end (x ∷ []) a = refl
    end (x ∷ y ∷ rest) a = end (y ∷ rest) a

rest_of : (n : ℕ) → n < MAX_COMMITS → MAX_COMMITS - n ≡ MAX_COMMITS - (n + 1) + 1
rest_of n h = omega arith

further : (k n : ℕ) → k + n + 1 ≡ k + (n + 1)
further k n = omega arith

module _ {past : ℕ} {t0 : Database} {run_cells : CellsView} {epoch : ℕ} {written : PenView} {history : List Entry} {t : Database}
    (sound : IsSound past t0 written history t) (ready : IsReady past t0 run_cells epoch written history t)
    {reader : ReaderView} {work : Work} (is_work : IsWorkOf t0 run_cells reader work) (latest : AreLatest written.all work.reads) where
  agrees : Agrees t work.reads
  agrees n v e = sound.latest n (subst (λ m. n < m) (count_of t0.scale run_cells ready.count) (is_work.read.within n v e)) (words_of v) (latest n v e)

  commits_there : IsCommitOf t work.input work.writes work.reply
  commits_there = explains_where_consistent t0 work.input work.reads work.writes work.reply is_work.explained t ready.of_population sound.well_formed
      sound.consistent agrees

  pub input_of : IsInput t.scale work.input
  input_of = subst (λ s. IsInput s work.input) (sym ready.of_population.scale) is_work.input

  -- it is done at the tables that the history leads to, whether it commits or not
  pub done_there : CommitsAt (replay t0 history) work.input work.writes work.reply
  done_there = subst (λ s. CommitsAt s work.input work.writes work.reply) (sym sound.legal.end) (record { input = input_of; commit = commits_there })

  -- a TID that a version read has is its record's last
  pub read_within : (seen : ℕ) → IsRead work.reads seen → IsTidWithin epoch (length history) seen
  read_within seen (inl none) = subst (IsTidWithin epoch (length history)) (sym none)
      (record { bits = omega arith; in_epoch = omega arith; sequence = omega arith })
  read_within seen (inr read) =
      subst (IsTidWithin epoch (length history)) (last_tid-last (at written.all read.0) (words_of read.1) (latest read.0 read.1 read.2) ∙ sym read.3)
      (ready.records read.0 (is_work.read.within read.0 read.1 read.2))

  module _ (terminal tid_is : ℕ) (new : PenView) (below_cap : past + length history < t0.scale.commits) (cells : new.cells ≡ written.cells)
      (within : IsTidWithin epoch (length history + 1) tid_is) (in_epoch : tid_is / 2 ^ 32 ≡ epoch)
      (above_last : last_of terminal history < tid_is)
      (above : (n : ℕ) (value : Option (List ℕ)) → value_for work.writes n ≡ Some value → last_tid (at written.all n) < tid_is)
      (stores : (n : ℕ) → at new.all n ≡ at written.all n ++ new_versions tid_is work.writes.values n) where
    abbrev entry : Entry
    entry = entry_of (past + length history + 1) tid_is terminal work

    longer : length (history ++ entry ∷ []) ≡ length history + 1
    longer = length-append history (entry ∷ [])

    legal : IsLegal past t0 (history ++ entry ∷ []) (after t work.input)
    legal = record {
      replays = replays_push (past + 1) t0 history entry sound.legal.replays (turned past (length history)) done_there;
      end = replay_push t0 history entry ∙ ap (λ s. after s work.input) sound.legal.end;
    }
      where
        turned : (k n : ℕ) → k + n + 1 ≡ k + 1 + n
        turned k n = omega arith

    roomy : HasRoom (MAX_COMMITS - (past + length history + 1) + 1) t
    roomy = subst (λ n. HasRoom n t) (rest_of (past + length history) (omega (arith, below_cap, ready.few))) ready.room

    -- a record that isn't written, and one that is
    unchanged : (n : ℕ) → value_for work.writes n ≡ None → at new.all n ≡ at written.all n
    unchanged n none = stores n ∙ ap (λ w. at written.all n ++ option_map_or (λ value. committed_version tid_is value ∷ []) w []) none
        ∙ append-nil (at written.all n)

    changed : (n : ℕ) (value : Option (List ℕ)) → value_for work.writes n ≡ Some value → at new.all n ≡ at written.all n ++ committed_version tid_is value
        ∷ []
    changed n value some = stores n ∙ ap (λ w. at written.all n ++ option_map_or (λ x. committed_version tid_is x ∷ []) w []) some

    last_value : (n : ℕ) → n < record_count t0.scale → (v : List ℕ) → EndsWith (at new.all n) v → value_in v ≡ rows (after t work.input) n
    last_value n h v e =
        let small : n < record_count t.scale = subst (λ (s : Sizes). n < record_count s) (sym ready.of_population.scale) h in
        let leaves : rows (after t work.input) n ≡ rows_with work.writes (rows t) n = commits_there.rows n small in
        elim (value_for work.writes n) as (λ w. value_for work.writes n ≡ w → value_in v ≡ rows (after t work.input) n) [
          | None ↦ λ none. sound.latest n h v (subst (λ (l : List (List ℕ)). EndsWith l v) (unchanged n none) e)
              ∙ sym (leaves ∙ ap (λ w. unwrap_or w (rows t n)) none)
          | Some value ↦ λ some. ap value_in (last_one e.0 (at written.all n) v (committed_version tid_is value) (sym e.1 ∙ changed n value some))
              ∙ value_in_version tid_is value within.bits
              ∙ sym (leaves ∙ ap (λ w. unwrap_or w (rows t n)) some)
        ] refl

    last_free : (n : ℕ) → n < cell_count run_cells → (v : List ℕ) → EndsWith (at new.all n) v → IsFree (slice_index v 0)
    last_free n h v e =
        elim (value_for work.writes n) as (λ w. value_for work.writes n ≡ w → IsFree (slice_index v 0)) [
          | None ↦ λ none. ready.free n h v (subst (λ (l : List (List ℕ)). EndsWith l v) (unchanged n none) e)
          | Some value ↦ λ some. subst (λ (u : List ℕ). IsFree (slice_index u 0))
              (sym (last_one e.0 (at written.all n) v (committed_version tid_is value) (sym e.1 ∙ changed n value some)))
              (free_version tid_is value within.bits)
        ] refl

    written_tid : (n : ℕ) (value : Option (List ℕ)) → value_for work.writes n ≡ Some value → last_tid (at new.all n) ≡ tid_is
    written_tid n value some = ap last_tid (changed n value some) ∙ last_tid-push (at written.all n) (committed_version tid_is value)
        ∙ tid_version tid_is value within.bits

    -- what holds of a record's last TID before, or of the commit's, holds of its last TID after
    by_record : (P : ℕ → Type 0) (n : ℕ) → (value_for work.writes n ≡ None → P (last_tid (at written.all n)))
        → ((value : Option (List ℕ)) → value_for work.writes n ≡ Some value → P tid_is) → P (last_tid (at new.all n))
    by_record P n was is = elim (value_for work.writes n) as (λ w. value_for work.writes n ≡ w → P (last_tid (at new.all n))) [
      | None ↦ λ none. subst P (sym (ap last_tid (unchanged n none))) (was none)
      | Some value ↦ λ some. subst P (sym (written_tid n value some)) (is value some)
    ] refl

    grows : (n : ℕ) → last_tid (at written.all n) ≤ last_tid (at new.all n)
    grows n = by_record (λ m. last_tid (at written.all n) ≤ m) n (λ _. same (last_tid (at written.all n)))
        (λ value some. less (last_tid (at written.all n)) (above n value some))
      where
        same : (m : ℕ) → m ≤ m
        same m = omega arith

        less : (m : ℕ) → m < tid_is → m ≤ tid_is
        less m h = omega (arith, h)

    -- of what is some, a value
    value_of_some : (n : ℕ) → IsSome (value_for work.writes n) → (value : Option (List ℕ)) × (value_for work.writes n ≡ Some value)
    value_of_some n some = elim (value_for work.writes n) as
        (λ w. value_for work.writes n ≡ w → (value : Option (List ℕ)) × (value_for work.writes n ≡ Some value)) [
          | None ↦ λ none. absurd (true≢false (sym some ∙ ap is_some none))
          | Some value ↦ λ is. (value, is)
        ] refl

    above_records : (n : ℕ) → IsSome (value_for work.writes n) → last_tid (at written.all n) < tid_is
    above_records n some = let v = value_of_some n some in above n v.0 v.1

    written_records : (n : ℕ) → IsSome (value_for work.writes n) → last_tid (at new.all n) ≡ tid_is
    written_records n some = let v = value_of_some n some in written_tid n v.0 v.1

    from_epoch : epoch ≤ tid_is / 2 ^ 32
    from_epoch = omega (arith, in_epoch)

    pub next_sound : IsSound past t0 new (history ++ entry ∷ []) (after t work.input)
    next_sound = record {
      legal = legal;
      stamped = all_stamped epoch written new history (history ++ entry ∷ []) entry refl from_epoch above_last above_records written_records grows
          within.bits sound.stamped ready.passed;
      well_formed = after-IsWellFormed t work.input (MAX_COMMITS - (past + length history + 1)) input_of commits_there.numbered sound.well_formed
          sound.consistent
          roomy;
      consistent = after-IsConsistent t work.input input_of sound.well_formed sound.consistent;
      versions = λ n h. stores n ∙ ap (λ (l : List (List ℕ)). l ++ new_versions tid_is work.writes.values n) (sound.versions n h)
          ∙ ap (λ l. first_version (rows t0 n) ∷ l) (sym (later_push history entry n));
      latest = last_value;
    }

    terminals_within : (one : ℕ) → IsTidWithin epoch (length history + 1) (last_of one (history ++ entry ∷ []))
    terminals_within one = ⊎_elim
        (λ (same : terminal ≡ one). subst (IsTidWithin epoch (length history + 1)) (sym (last_here history entry one same)) within)
        (λ (other : terminal ≢ one). subst (IsTidWithin epoch (length history + 1)) (sym (last_there history entry one other))
        (within_more epoch (length history) _ (ready.terminals one)))
        (cases_eq terminal one)

    pub next_ready : IsReady past t0 run_cells epoch new (history ++ entry ∷ []) (after t work.input)
    next_ready = record {
      of_population = after-IsOf t0 t work.input ready.of_population;
      cells = cells ∙ ready.cells;
      count = ready.count;
      passed = all_passed epoch written new history (history ++ entry ∷ []) entry refl from_epoch above_last above_records written_records grows
          within.in_epoch ready.passed;
      records = λ n h. subst (λ m. IsTidWithin epoch m (last_tid (at new.all n))) (sym longer)
          (by_record (IsTidWithin epoch (length history + 1)) n (λ _. within_more epoch (length history) _ (ready.records n h)) (λ _ _. within));
      terminals = λ one. subst (λ m. IsTidWithin epoch m (last_of one (history ++ entry ∷ []))) (sym longer) (terminals_within one);
      free = last_free;
      cap = subst (λ n. past + n ≤ t0.scale.commits) (sym longer) (omega (arith, below_cap));
      few = ready.few;
      room = subst (λ n. HasRoom (MAX_COMMITS - n) (after t work.input)) (further past (length history) ∙ ap (λ n. past + n) (sym longer))
          (after-HasRoom t work.input (MAX_COMMITS - (past + length history + 1)) input_of sound.well_formed roomy);
    }
