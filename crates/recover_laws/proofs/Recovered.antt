-- What is rebuilt of files that hold a part of a history is its replay.
use Rattle.std.proofs.Common.{◌≡◌, inl, inr, ℕ, ◌+◌, ◌<◌, ◌≤◌, ◌%◌, List, [], ◌∷◌, ◌++◌, map, length, Option, sym, ap, ◌∙◌, subst, arith}
use Rattle.std.specs.Prelude.{flat_map}
use Rattle.std.specs.List.{All, AllByRecursion, Contains}
use Rattle.std.specs.List.Sorted.{IsPermutation}
use Rattle.std.proofs.Math.Nat.{mod-lt}
use Rattle.std.proofs.lemmas.List.{length-append, length-map}
use Rattle.std.proofs.lemmas.List.Sorted.{length_permutation, IsPermutation-sym, IsPermutation-map, Contains-permutation}
use Rattle.std.proofs.lemmas.Option.{same_Some}
use Rattle.tables.specs.Sizes.{Sizes}
use Rattle.tables.specs.Database.{Database}
use Rattle.tables.specs.Apply.{after}
use Rattle.tables.specs.Constant.{IsOf}
use Rattle.tables.specs.Rows.{rows}
use Rattle.tables.specs.WellFormed.{IsWellFormed, HasRoom}
use Rattle.tables.specs.declared.records.RecordKey.{RecordKey}
use Rattle.encoding.specs.Held.{IsTableRecord, by_key, AreTables}
use Rattle.book.specs.History.{Replays, replay}
use Rattle.book.specs.Loggable.{IsLoggable}
use Rattle.book.specs.Stamps.{AreStamped}
use Rattle.book.specs.Streams.{stream}
use Rattle.book.specs.declared.entry.Entry.{Entry}
use Rattle.book.proofs.Replaying.{replay-history}
use Rattle.log_text.specs.Bodies.{BodyView}
use Rattle.log_text.specs.Entries.{EntryView}
use Rattle.log_entries.specs.Logged.{logged_entry}
use Rattle.recover_crashes.proofs.Lists.{all_in_front}
use Rattle.recover_crashes.proofs.Histories.{replays_front, stamped_front}
use Rattle.recover_found.specs.Found.{kept, found}
use Rattle.recover_laws.specs.Found.{durable_cut}
use Rattle.recover_found.specs.Rebuilt.{LeavesInRecord, IsUpTo, IsNewest, AreLeft, added_by, AreNumbered, HaveNoGap, IsRebuilt}
use Rattle.recover_laws.specs.Recovered.{HoldTheCut, IsHistoryOf}
use Rattle.recover_found.proofs.Elements.{Has, has_from, has_to, mapped}
use Rattle.recover_found.proofs.Numbered.{same_entry, same_order}
use Rattle.recover_laws.proofs.Parts.{parts, parts_all, files_parts}
use Rattle.recover_laws.proofs.Logged.{leaves_value}
use Rattle.recover_laws.proofs.Walk.{IsReached, reached}

numbered_replay : (s : Sizes) (n : ℕ) (t : Database) (es : List Entry) → Replays n t es → AreNumbered n (map (logged_entry s) es)
numbered_replay s n t [] h = tt
numbered_replay s n t (e ∷ es) h = (h.0, numbered_replay s (n + 1) (after t e.input) es h.2)

in_lanes : (loggers : ℕ) → 0 < loggers → (es : List Entry) → AllByRecursion (λ (e : Entry). (0 ≤ e.terminal % loggers) × (e.terminal % loggers < 0 + loggers)) es
in_lanes loggers some [] = tt
in_lanes loggers some (e ∷ es) = ((omega arith, omega (arith, mod-lt e.terminal some)), in_lanes loggers some es)

module _ (t0 : Database) (files : List (List BodyView)) (history : List Entry) (h : IsHistoryOf t0 history) (holds : HoldTheCut t0.scale files history)
    (some : 0 < length files) where
  abbrev s : Sizes
  s = t0.scale

  abbrev kept_front : List Entry
  kept_front = durable_cut files history

  abbrev log : List EntryView
  log = map (logged_entry s) kept_front

  abbrev lane : Entry → ℕ
  lane e = e.terminal % length files

  -- files one after another have the cut, lane after lane
  log_found : IsPermutation log (found files)
  log_found =
      subst (IsPermutation log) (sym (files_parts lane (logged_entry s) (kept files) [] 0 files kept_front (λ l lt. holds.same l lt ∙ lane_is l)))
      (IsPermutation-map (logged_entry s) kept_front (parts lane 0 (length files) kept_front)
      (parts_all lane 0 (length files) kept_front (in_lanes (length files) some kept_front)))
    where
      lane_is : (l : ℕ) → map (logged_entry s) (stream (length files) l kept_front) ≡ map (logged_entry s) (stream (length files) (0 + l) kept_front)
      lane_is l = ap (λ (n : ℕ). map (logged_entry s) (stream (length files) n kept_front)) (zero_more l)
        where
          zero_more : (m : ℕ) → m ≡ 0 + m
          zero_more m = omega arith

  replays : Replays 1 t0 kept_front
  replays = replays_front 1 t0 kept_front holds.rest (subst (Replays 1 t0) holds.beginning h.replays)

  ends : IsReached t0 h.scale (length holds.rest) kept_front (replay t0 kept_front)
  ends = reached t0 h.scale (length holds.rest) kept_front h.well_formed h.consistent
      (subst (λ (n : ℕ). HasRoom n t0) (ap length holds.beginning ∙ length-append kept_front holds.rest) h.room) replays
      (stamped_front kept_front holds.rest (subst AreStamped holds.beginning h.stamped))
      (all_in_front (IsLoggable s) kept_front holds.rest (subst (All (IsLoggable s)) holds.beginning h.loggable))

  numbers : AreNumbered 1 log
  numbers = numbered_replay s 1 t0 kept_front replays

  pub no_gap : HaveNoGap (found files)
  no_gap = (log, record { same = IsPermutation-sym log (found files) log_found; numbers = numbers })

  pub as_many : length (found files) ≡ length kept_front
  as_many = length_permutation log (found files) log_found ∙ length-map kept_front (logged_entry s)

  -- what one entry leaves in a record is one value
  one_value : (n : ℕ) (e : EntryView) (v w : Option (List ℕ)) → Has log e → LeavesInRecord s e n v → LeavesInRecord s e n w → v ≡ w
  one_value n e v w has a b =
      let from = mapped (logged_entry s) kept_front e has in
      let ok = ends.loggable from.0 from.1 in
      same_Some v w (sym (leaves_value s h.scale from.0 ok n v (subst (λ (z : EntryView). LeavesInRecord s z n v) (sym from.2) a))
      ∙ leaves_value s h.scale from.0 ok n w (subst (λ (z : EntryView). LeavesInRecord s z n w) (sym from.2) b))

  there : (e : EntryView) → Contains (found files) e → Contains log e
  there e = Contains-permutation (found files) log e (IsPermutation-sym log (found files) log_found)

  back : (e : EntryView) → Contains log e → Contains (found files) e
  back e = Contains-permutation log (found files) e log_found

  -- two entries of which neither is newer are one
  same_newest : (d e : EntryView) → Has log d → Has log e → IsUpTo d e → IsUpTo e d → d ≡ e
  same_newest d e a b (inl x) (inl y) = absurd (omega (arith, x, y))
  same_newest d e a b (inl x) (inr y) = absurd (omega (arith, x, y.0))
  same_newest d e a b (inr x) (inl y) = absurd (omega (arith, x.0, y))
  same_newest d e a b (inr x) (inr y) = same_entry 1 log numbers d e a b (omega (arith, x.1, y.1))

  one_newest : (n : ℕ) (v w : Option (List ℕ)) → IsNewest s (found files) n v → IsNewest s log n w → v ≡ w
  one_newest n v w a b =
      let in_log = has_from log a.entry (there a.entry a.among) in
      let same : a.entry ≡ b.entry = same_newest a.entry b.entry in_log (has_from log b.entry b.among)
      (b.newest a.entry v (there a.entry a.among) a.leaves) (a.newest b.entry w (back b.entry b.among) b.leaves) in
      one_value n b.entry v w (has_from log b.entry b.among) (subst (λ (z : EntryView). LeavesInRecord s z n v) same a.leaves) b.leaves

  one_left : (n : ℕ) (first v w : Option (List ℕ)) → AreLeft s (found files) n first v → AreLeft s log n first w → v ≡ w
  one_left n first v w (inl a) (inl b) = one_newest n v w a b
  one_left n first v w (inl a) (inr b) = absurd (b.0 a.entry v (there a.entry a.among) a.leaves)
  one_left n first v w (inr a) (inl b) = absurd (a.0 b.entry w (back b.entry b.among) b.leaves)
  one_left n first v w (inr a) (inr b) = a.1 ∙ sym b.1

  module _ (t : Database) (rebuilt : IsRebuilt t0 (found files) t) where
    -- the entries in their order are the cut's
    commits_are : rebuilt.commits ≡ log
    commits_are = same_order 1 rebuilt.commits log rebuilt.in_order.numbers numbers
        (λ e has. has_from log e (there e (Contains-permutation rebuilt.commits (found files) e
        (IsPermutation-sym (found files) rebuilt.commits rebuilt.in_order.same) (has_to rebuilt.commits e has))))
        (λ e has. has_from rebuilt.commits e (Contains-permutation (found files) rebuilt.commits e rebuilt.in_order.same (back e (has_to log e has))))

    history_is : t.history ≡ (replay t0 kept_front).history
    history_is =
        rebuilt.history ∙ ap (λ (l : List EntryView). t0.history ++ flat_map added_by l) commits_are ∙ ap (λ l. t0.history ++ l) ends.listed
        ∙ sym (replay-history 1 t0 kept_front replays)

    rows_are : (n : ℕ) → IsTableRecord s n → rows (replay t0 kept_front) n ≡ rows t n
    rows_are n lt = sym (one_left n (rows t0 n) (rows t n) (rows (replay t0 kept_front) n) (rebuilt.records n lt) (ends.left n lt))

    pub is_replay : ((t0 t : Database) (values : ℕ → Option (List ℕ)) → IsOf t0 t → IsWellFormed t
        → ((n : ℕ) → IsTableRecord t0.scale n → rows t n ≡ values n) → AreTables t0 (by_key t0.scale values) t)
        → ((t0 t u : Database) (values : RecordKey → Option (List ℕ)) → AreTables t0 values t → AreTables t0 values u → t.history ≡ u.history → t ≡ u)
        → t ≡ replay t0 kept_front
    is_replay of_records one = one t0 t (replay t0 kept_front) (by_key s (rows t)) rebuilt.tables
        (of_records t0 (replay t0 kept_front) (rows t) ends.of ends.well_formed rows_are) history_is
