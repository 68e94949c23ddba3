-- What files that hold a history have of it up to an epoch.
use Rattle.std.proofs.Common.{◌≡◌, ℕ, ◌%◌, ◌≤◌, ◌==◌, Bool, true, false, not, cond, List, [], ◌∷◌, ◌++◌, filter, map, refl, sym, ap, ◌∙◌, arith, append-nil}
use Rattle.std.specs.Prelude.{nat_le}
use Rattle.std.specs.List.{All, Contains}
use Rattle.std.proofs.lemmas.Bool.{le-leb, and_right}
use Rattle.std.proofs.lemmas.List.Elements.{filter-append, All-weaker, All-contains}
use Rattle.tables.specs.Sizes.{Sizes}
use Rattle.tables.specs.Database.{Database}
use Rattle.tidword.specs.TidWord.{epoch_of}
use Rattle.log_text.specs.Bodies.{BodyView}
use Rattle.log_text.specs.Entries.{EntryView}
use Rattle.book.specs.History.{Replays}
use Rattle.book.specs.Stamps.{AreStamped}
use Rattle.book.specs.Streams.{stream}
use Rattle.book.specs.declared.entry.Entry.{Entry}
use Rattle.log_entries.specs.Logged.{logged_entry}
use Rattle.recover_found.specs.Found.{last_mark, entries_of, up_to, counted}
use Rattle.recover_crashes.specs.Recovering.{HoldsStream, HoldTheHistory, IsDurable, IsFitForLogs, Tell, cut, counts_in, is_void}
use Rattle.recover_crashes.proofs.Lists.{kept_here, left_out, none_kept, tests_commute, test_of_map, kept_if_there}
use Rattle.recover_crashes.proofs.Histories.{above_out, alive_counts, cut_begins}

-- of entries that aren't void, those up to an epoch are those that count
counted_again : (durable : ℕ) (void : ℕ → Bool) (es : List EntryView)
    → filter (λ e. up_to durable void (epoch_of e.tid)) (filter (λ e. not (void (epoch_of e.tid))) es) ≡ filter (λ e. up_to durable void (epoch_of e.tid)) es
counted_again durable void [] = refl
counted_again durable void (e ∷ es) = by (counted_again durable void es) (not (void (epoch_of e.tid))) refl
  where
    by : filter (λ d. up_to durable void (epoch_of d.tid)) (filter (λ d. not (void (epoch_of d.tid))) es) ≡ filter (λ d. up_to durable void (epoch_of d.tid)) es
        → (live : Bool) → not (void (epoch_of e.tid)) ≡ live
        → filter (λ d. up_to durable void (epoch_of d.tid)) (filter (λ d. not (void (epoch_of d.tid))) (e ∷ es))
        ≡ filter (λ d. up_to durable void (epoch_of d.tid)) (e ∷ es)
    by same true is =
        ap (filter (λ (d : EntryView). up_to durable void (epoch_of d.tid))) (kept_here (λ (d : EntryView). not (void (epoch_of d.tid))) e es is)
        ∙ ap (λ (l : List EntryView). cond (up_to durable void (epoch_of e.tid)) (e ∷ l) l) same
    by same false is =
        ap (filter (λ (d : EntryView). up_to durable void (epoch_of d.tid))) (left_out (λ (d : EntryView). not (void (epoch_of d.tid))) e es is)
        ∙ same
        ∙ sym (left_out (λ (d : EntryView). up_to durable void (epoch_of d.tid)) e es (and_right (nat_le (epoch_of e.tid) durable) _ is))

-- a file's entries up to a durable epoch that is no later than its last mark
pub held_up_to : (s : Sizes) (loggers l durable : ℕ) (void : ℕ → Bool) (bodies : List BodyView) (history : List Entry)
    → HoldsStream s void bodies (stream loggers l history) → durable ≤ last_mark 0 bodies
    → counted (up_to durable void) bodies ≡ map (logged_entry s) (stream loggers l (cut (up_to durable void) history))
held_up_to s loggers l durable void bodies history holds low =
    let none : All (λ (e : Entry). up_to durable void (epoch_of e.tid) ≡ false) holds.behind
    = λ k d lt. above_out durable _ void (omega (arith, low, holds.later k d lt)) in
    sym (counted_again durable void (entries_of bodies))
    ∙ ap (filter (λ (e : EntryView). up_to durable void (epoch_of e.tid))) holds.same
    ∙ test_of_map (λ (e : EntryView). up_to durable void (epoch_of e.tid)) (logged_entry s) holds.front
    ∙ ap (map (logged_entry s))
    (sym (append-nil (cut (up_to durable void) holds.front))
    ∙ ap (λ (r : List Entry). cut (up_to durable void) holds.front ++ r) (sym (none_kept (λ (e : Entry). up_to durable void (epoch_of e.tid)) holds.behind none))
    ∙ sym (filter-append (λ (e : Entry). up_to durable void (epoch_of e.tid)) holds.front holds.behind)
    ∙ ap (cut (up_to durable void)) (sym holds.beginning)
    ∙ tests_commute (λ (e : Entry). up_to durable void (epoch_of e.tid)) (λ (e : Entry). e.terminal % loggers == l) history)

-- files that hold a history tell of it
pub tells : (t0 : Database) (loggers : ℕ) (files : ℕ → List BodyView) (durable : ℕ) (history released : List Entry)
    → IsDurable loggers files durable → HoldTheHistory t0.scale loggers files history → Replays 1 t0 history → AreStamped history
    → All (IsFitForLogs t0.scale) history → All (λ e. Contains history e × (epoch_of e.tid ≤ durable)) released → Tell t0 loggers files durable history released
tells t0 loggers files durable history released is hold replays stamped fit told =
    let front = cut_begins durable (is_void loggers files) history stamped hold.alive in
    record {
      is_durable = is;
      rest = front.0;
      beginning = front.1;
      held = λ l lt. held_up_to t0.scale loggers l durable (is_void loggers files) (files l) history (hold.each l lt) (is.least l lt);
      told = All-weaker (λ (e : Entry). Contains history e × (epoch_of e.tid ≤ durable)) (Contains (cut (counts_in loggers files durable) history))
          (λ e tell. kept_if_there (λ (d : Entry). counts_in loggers files durable (epoch_of d.tid)) history e tell.0
          (alive_counts durable (epoch_of e.tid) (is_void loggers files)
          (All-contains (λ (d : Entry). is_void loggers files (epoch_of d.tid) ≡ false) history e hold.alive tell.0)
          ∙ le-leb (epoch_of e.tid) durable tell.1))
          released told;
      replays = replays;
      stamped = stamped;
      fit = fit;
    }
