-- What a crash leaves, over many lives, gives the replay of what counts.
use Rattle.std.proofs.Common.{◌≡◌, ◌⊎◌, inl, inr, ⊎_elim, ℕ, ◌%◌, ◌<◌, ◌≤◌, ◌==◌, Bool, true, false, List, [], ◌++◌, refl, sym, ◌∙◌, subst, arith}
use Rattle.std.specs.List.{All, Contains}
use Rattle.std.proofs.lemmas.Bool.{le-leb, eq-eqb}
use Rattle.std.proofs.lemmas.List.Elements.{All-contains}
use Rattle.tidword.specs.TidWord.{epoch_of}
use Rattle.log_text.specs.Bodies.{BodyView}
use Rattle.log_text.specs.Entries.{EntryView}
use Rattle.log_text.specs.File.{IsFile}
use Rattle.log_entries.specs.Logged.{logged_entry}
use Rattle.book.specs.History.{Replays}
use Rattle.book.specs.Streams.{stream}
use Rattle.book.specs.declared.entry.Entry.{Entry}
use Rattle.recover_found.specs.Found.{entries_of, counted}
use Rattle.recover_found.proofs.Elements.{Has, has_from, has_to, passed, passes, mapped}
use Rattle.recover_crashes.specs.Recovering.{is_void, counts_in, cut}
use Rattle.recover_crashes.proofs.Lists.{kept_if_there, in_map}
use Rattle.recover_crashes.proofs.Histories.{alive_counts, replays_front}
use Rattle.recover_laws.specs.Found.{durable_cut, listed}
use Rattle.recover_laws.specs.Recovered.{IsFirstDatabase}
use Rattle.recover_laws.proofs.Joined.{listed_at, durable_listed, holds, is_history, some_left, count, cut_is}
use Rattle.recover_lives.specs.World.{Origin, header_at, Lives, Down, Restarting, Running, joined_history, released_by, durable_at, IsRunning}
use Rattle.recover_lives.specs.Events.{MayStrike}
use Rattle.recover_lives.specs.Surviving.{LeavesTheReplay, IsLawfulOverLives}
use Rattle.recover_lives.proofs.Voids.{side}
use Rattle.recover_lives.proofs.Worlds.{IsReplayLaw, IsTold, Holds, strikes, run_live}

-- ---- tables
module _ (o : Origin) (begins : IsFirstDatabase o.first) (law : IsReplayLaw) (w : Lives) (strings : ℕ → List ℕ)
    (told : IsTold o (durable_at w) (joined_history w) (released_by w) strings) where
  abbrev n : ℕ
  n = o.loggers

  abbrev left : List (List BodyView)
  left = listed n told.left

  pub gives_the_replay : LeavesTheReplay o w strings
  gives_the_replay =
      let hold = holds o.first n told.left told.epoch (joined_history w) (released_by w) told.tell in
      record {
        left = left;
        count = count o.first n told.left told.epoch (joined_history w) (released_by w) told.tell;
        files = λ l lt. subst (IsFile (strings l) (header_at o l)) (sym (listed_at n told.left l [] lt)) (told.files l lt);
        no_less = omega (arith, told.no_less, durable_listed n told.left told.epoch told.tell.is_durable);
        rest = hold.rest;
        beginning = hold.beginning;
        legal = record {
          replays = replays_front 1 o.first (durable_cut left (joined_history w)) hold.rest (subst (Replays 1 o.first) hold.beginning told.tell.replays);
          end = refl;
        };
        give = law o.first left (joined_history w) (is_history o.first n told.left told.epoch (joined_history w) (released_by w) told.tell begins) hold
            (some_left o.first n told.left told.epoch (joined_history w) (released_by w) told.tell);
        released = subst (λ (es : List Entry). All (Contains es) (released_by w))
            (sym (cut_is o.first n told.left told.epoch (joined_history w) (released_by w) told.tell)) told.tell.told;
      }

-- ---- D is lawful
module _ (o : Origin) (w : Lives) (strings : ℕ → List ℕ) (told : IsTold o (durable_at w) (joined_history w) (released_by w) strings) where
  abbrev loggers : ℕ
  loggers = o.loggers

  abbrev counts : ℕ → Bool
  counts = counts_in loggers told.left told.epoch

  abbrev void : ℕ → Bool
  void = is_void loggers told.left

  -- an entry that counts stands in its logger's file
  stands : (l : ℕ) → l < loggers → (e : Entry) → Contains (joined_history w) e → e.terminal % loggers ≡ l → counts (epoch_of e.tid) ≡ true
      → Contains (entries_of (told.left l)) (logged_entry o.first.scale e)
  stands l lt e among asked counts_here =
      let in_cut : Contains (cut counts (joined_history w)) e = kept_if_there (λ (d : Entry). counts (epoch_of d.tid)) (joined_history w) e among counts_here in
      let in_stream : Contains (stream loggers l (cut counts (joined_history w))) e
      = kept_if_there (λ (d : Entry). d.terminal % loggers == l) (cut counts (joined_history w)) e in_cut (eq-eqb (e.terminal % loggers) l asked) in
      let in_file : Contains (counted counts (told.left l)) (logged_entry o.first.scale e)
      = subst (λ (es : List EntryView). Contains es (logged_entry o.first.scale e)) (sym (told.tell.held l lt))
      (in_map (logged_entry o.first.scale) (stream loggers l (cut counts (joined_history w))) e in_stream) in
      has_to (entries_of (told.left l)) (logged_entry o.first.scale e)
      (passed (λ (d : EntryView). counts (epoch_of d.tid)) (entries_of (told.left l)) (logged_entry o.first.scale e)
      (has_from (counted counts (told.left l)) (logged_entry o.first.scale e) in_file)).0

  -- one that counts in a file is of the history
  comes_from : (l : ℕ) → l < loggers → (entry : EntryView) → Contains (entries_of (told.left l)) entry → counts (epoch_of entry.tid) ≡ true
      → (e : Entry) × Contains (joined_history w) e × (logged_entry o.first.scale e ≡ entry)
  comes_from l lt entry there counts_here =
      let in_file : Has (counted counts (told.left l)) entry
      = passes (λ (d : EntryView). counts (epoch_of d.tid)) (entries_of (told.left l)) entry (has_from (entries_of (told.left l)) entry there) counts_here in
      let from = mapped (logged_entry o.first.scale) (stream loggers l (cut counts (joined_history w))) entry
      (subst (λ (es : List EntryView). Has es entry) (told.tell.held l lt) in_file) in
      let in_cut = (passed (λ (d : Entry). d.terminal % loggers == l) (cut counts (joined_history w)) from.0 from.1).0 in
      (from.0, has_to (joined_history w) from.0 (passed (λ (d : Entry). counts (epoch_of d.tid)) (joined_history w) from.0 in_cut).0, from.2)

  lawful_by : (IsRunning w → (e : Entry) → Contains (joined_history w) e → void (epoch_of e.tid) ≡ false) → IsLawfulOverLives o w strings
  lawful_by live = record {
    left = told.left;
    files = told.files;
    kept = λ l lt e among asked low alive. stands l lt e among asked
        (alive_counts told.epoch (epoch_of e.tid) void alive ∙ le-leb (epoch_of e.tid) told.epoch (omega (arith, low, told.no_less)));
    live = live;
    lost = λ l lt entry there none. ⊎_elim
        (λ (low : epoch_of entry.tid ≤ told.epoch).
        elim (void (epoch_of entry.tid)) as (λ b. void (epoch_of entry.tid) ≡ b → (durable_at w < epoch_of entry.tid) ⊎ (void (epoch_of entry.tid) ≡ true)) [
          | true ↦ λ is. inr is
          | false ↦ λ alive.
              let from = comes_from l lt entry there (alive_counts told.epoch (epoch_of entry.tid) void alive ∙ le-leb (epoch_of entry.tid) told.epoch low) in
              absurd (none from.0 from.1 from.2)
        ] refl)
        (λ (high : told.epoch < epoch_of entry.tid). inl (omega (arith, high, told.no_less)))
        (side (epoch_of entry.tid) told.epoch);
  }

pub is_lawful : (o : Origin) (w : Lives) → Holds o w → (strings : ℕ → List ℕ) → MayStrike o w strings → IsLawfulOverLives o w strings
is_lawful o (Down disks durable history released) h strings may =
    lawful_by o (Down disks durable history released) strings (strikes o (Down disks durable history released) h strings may) (λ never. absurd never)
is_lawful o (Restarting old durable top files steps history released) h strings may =
    lawful_by o (Restarting old durable top files steps history released) strings
    (strikes o (Restarting old durable top files steps history released) h strings may) (λ never. absurd never)
is_lawful o (Running life past earlier now) h strings may =
    let run = run_live o life past earlier now h strings may in
    lawful_by o (Running life past earlier now) strings run.0
    (λ running e among. All-contains (λ (d : Entry). is_void o.loggers run.0.left (epoch_of d.tid) ≡ false) (past ++ now.history) e run.1 among)
