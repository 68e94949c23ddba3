-- What recovery finds after a crash.
use Rattle.std.proofs.Common.{◌≡◌, ℕ, suc, ◌+◌, ◌-◌, ◌%◌, ◌<◌, ◌≤◌, ◌==◌, Bool, true, false, not, List, [], ◌++◌, filter, map, sym, ap, ◌∙◌, subst, arith, append_assoc, ⊎_elim}
use Rattle.std.specs.Prelude.{◌&&◌}
use Rattle.std.specs.List.{All, Contains}
use Rattle.std.proofs.lemmas.Bool.{le-leb}
use Rattle.std.proofs.lemmas.Grind.{flat_map-append}
use Rattle.std.proofs.lemmas.List.{map-append}
use Rattle.std.proofs.lemmas.List.Elements.{All-append, All-weaker, All-filter, All-contains, filter_passes, filter-append}
use Rattle.std.proofs.lemmas.List.Elements.{Contains-append_left, Contains-append_right, Contains-append_cases}
use Rattle.tables.specs.Sizes.{Sizes}
use Rattle.tables.specs.Database.{Database}
use Rattle.tidword.specs.TidWord.{epoch_of}
use Rattle.log_disk.specs.Crashes.{MayLeave}
use Rattle.log_text.specs.Bodies.{BodyView, entries_in}
use Rattle.log_text.specs.Entries.{EntryView}
use Rattle.book.specs.Batches.{BatchView}
use Rattle.book.specs.Streams.{stream}
use Rattle.book.specs.History.{Replays, replay}
use Rattle.book.specs.declared.entry.Entry.{Entry}
use Rattle.book.proofs.Replaying.{replay-scale}
use Rattle.log_entries.specs.Logged.{logged_entry}
use Rattle.recover_found.specs.Found.{last_mark, entries_of, void_in, counted}
use Rattle.recover_found.proofs.Elements.{has_from, has_to, passed}
use Rattle.recover_crashes.specs.World.{Life, World, header_of}
use Rattle.recover_crashes.specs.Recovering.{Crashes, HoldsStream, HoldTheHistory, IsBase, IsFitForLogs, Recovers, is_void, counts_in, cut}
use Rattle.recover_crashes.specs.Keeping.{IsLawfulEpoch}
use Rattle.recover_crashes.specs.Lanes.{taken_in, bodies_of, IsAbove}
use Rattle.recover_crashes.proofs.Lists.{all_in_front, IsLeast, least_of, chosen_below, test_of_map, in_front, in_map}
use Rattle.recover_crashes.proofs.Histories.{counts_low, counts_alive}
use Rattle.recover_crashes.proofs.Joins.{void_behind, any_same, filter_same, filter_all, replays_join, stamped_join}
use Rattle.recover_crashes.proofs.Holding.{tells}
use Rattle.recover_crashes.proofs.Lanes.{IsLeft, lane_left}
use Rattle.recover_crashes.proofs.Sound.{IsSound, MayTell, local_of}

module _ (t0 : Database) (life : Life) (old : ℕ → List BodyView) (past earlier : List Entry) (base : IsBase t0 life old past earlier) (w : World)
    (sound : IsSound life old w) where
  abbrev n : ℕ
  n = life.plan.loggers

  abbrev whole_history : List Entry
  whole_history = past ++ w.history

  -- all of the past counted
  past_counts : All (λ e. counts_in n old life.plan.base (epoch_of e.tid) ≡ true) past
  past_counts = subst (All (λ (e : Entry). counts_in n old life.plan.base (epoch_of e.tid) ≡ true)) base.whole
      (filter_passes (λ (e : Entry). counts_in n old life.plan.base (epoch_of e.tid)) past)

  past_low : All (λ e. epoch_of e.tid ≤ life.plan.base) past
  past_low = All-weaker (λ (e : Entry). counts_in n old life.plan.base (epoch_of e.tid) ≡ true) (λ (e : Entry). epoch_of e.tid ≤ life.plan.base)
      (λ e is. counts_low life.plan.base (epoch_of e.tid) (is_void n old) is) past past_counts

  scale : life.first.scale ≡ t0.scale
  scale = ap (λ (t : Database). t.scale) base.first ∙ replay-scale t0 past

  abbrev IsLeftAt : (ℕ → List ℕ) → ℕ → List BatchView → Type 0
  IsLeftAt strings l batches = IsLeft (header_of life l) (stream n l w.history) (old l) (local_of w l) (strings l) batches

  left_at : (bytes : List ℕ) (l : ℕ) → l < n → MayLeave (w.logger l).file.disk.story bytes
      → (batches : List BatchView) × IsLeft (header_of life l) (stream n l w.history) (old l) (local_of w l) bytes batches
  left_at bytes l lt may = lane_left (header_of life l) life.past w.found (stream n l w.history) (old l) (sound.landed l) (w.logger l).file (local_of w l)
      bytes (w.logger l).flight (sound.lanes l lt) may

  -- the old bodies have the past
  old_has : (l : ℕ) → l < n → counted (counts_in n old life.plan.base) (old l) ≡ map (logged_entry t0.scale) (stream n l past)
  old_has l lt = base.tell.held l lt ∙ ap (λ (es : List Entry). map (logged_entry t0.scale) (stream n l es)) base.whole

  -- what a crash leaves of a logger's file has its part of the whole history
  module _ (batches : ℕ → List BatchView) where
    abbrev left : ℕ → List BodyView
    left l = old l ++ bodies_of (batches l)

    void_same : (epoch : ℕ) → is_void n left epoch ≡ is_void n old epoch
    void_same epoch = any_same n (λ l. void_in (left l) epoch) (λ l. void_in (old l) epoch) (λ l lt. void_behind (old l) (batches l) epoch)

    all_alive : All (λ e. is_void n left (epoch_of e.tid) ≡ false) whole_history
    all_alive = All-append (λ (e : Entry). is_void n left (epoch_of e.tid) ≡ false) past w.history
        (All-weaker (λ (e : Entry). counts_in n old life.plan.base (epoch_of e.tid) ≡ true) (λ (e : Entry). is_void n left (epoch_of e.tid) ≡ false)
        (λ e is. void_same (epoch_of e.tid) ∙ counts_alive life.plan.base (epoch_of e.tid) (is_void n old) is) past past_counts)
        (All-weaker (λ (e : Entry). life.plan.base < epoch_of e.tid) (λ (e : Entry). is_void n left (epoch_of e.tid) ≡ false)
        (λ e above. void_same (epoch_of e.tid) ∙ base.alive (epoch_of e.tid) above) w.history sound.new)

    abbrev live : EntryView → Bool
    live e = not (is_void n left (epoch_of e.tid))

    old_live : (l : ℕ) → l < n → filter live (entries_of (old l)) ≡ map (logged_entry t0.scale) (stream n l past)
    old_live l lt = filter_same live (λ (e : EntryView). counts_in n old life.plan.base (epoch_of e.tid)) (entries_of (old l))
        (All-weaker (λ (e : EntryView). epoch_of e.tid ≤ life.plan.base) (λ (e : EntryView). live e ≡ counts_in n old life.plan.base (epoch_of e.tid))
        (λ e low. ap not (void_same (epoch_of e.tid))
        ∙ ap (λ (b : Bool). b && not (is_void n old (epoch_of e.tid))) (sym (le-leb (epoch_of e.tid) life.plan.base low)))
        (entries_of (old l)) (base.within l lt))
        ∙ old_has l lt

    module _ (strings : ℕ → List ℕ) (is_left : (l : ℕ) → l < n → IsLeftAt strings l (batches l)) where
      new_above : (l : ℕ) → l < n → All (λ e. life.plan.base < epoch_of e.tid) (taken_in (batches l))
      new_above l lt = all_in_front (λ (e : Entry). life.plan.base < epoch_of e.tid) (taken_in (batches l)) (is_left l lt).behind
          (subst (All (λ (e : Entry). life.plan.base < epoch_of e.tid)) (is_left l lt).all
          (All-filter (λ (e : Entry). e.terminal % n == l) (λ (e : Entry). life.plan.base < epoch_of e.tid) w.history sound.new))

      new_logged : (l : ℕ) → l < n → entries_of (bodies_of (batches l)) ≡ map (logged_entry t0.scale) (taken_in (batches l))
      new_logged l lt = (is_left l lt).logged ∙ ap (λ (s : Sizes). map (logged_entry s) (taken_in (batches l))) scale

      new_live : (l : ℕ) → l < n → filter live (entries_of (bodies_of (batches l))) ≡ map (logged_entry t0.scale) (taken_in (batches l))
      new_live l lt =
          ap (filter live) (new_logged l lt)
          ∙ test_of_map live (logged_entry t0.scale) (taken_in (batches l))
          ∙ ap (map (logged_entry t0.scale)) (filter_all (λ (e : Entry). not (is_void n left (epoch_of e.tid))) (taken_in (batches l))
          (All-weaker (λ (e : Entry). life.plan.base < epoch_of e.tid) (λ (e : Entry). not (is_void n left (epoch_of e.tid)) ≡ true)
          (λ e above. ap not (void_same (epoch_of e.tid) ∙ base.alive (epoch_of e.tid) above)) (taken_in (batches l)) (new_above l lt)))

      holds_stream : (l : ℕ) → l < n → HoldsStream t0.scale (is_void n left) (left l) (stream n l whole_history)
      holds_stream l lt = record {
        front = stream n l past ++ taken_in (batches l);
        behind = (is_left l lt).behind;
        beginning = filter-append (λ (e : Entry). e.terminal % n == l) past w.history
            ∙ ap (λ (es : List Entry). stream n l past ++ es) (is_left l lt).all
            ∙ sym (append_assoc (stream n l past) (taken_in (batches l)) (is_left l lt).behind);
        same =
            ap (filter live) (flat_map-append entries_in (old l) (bodies_of (batches l)))
            ∙ filter-append live (entries_of (old l)) (entries_of (bodies_of (batches l)))
            ∙ (λ i. old_live l lt i ++ new_live l lt i)
            ∙ sym (map-append (logged_entry t0.scale) (stream n l past) (taken_in (batches l)));
        later = (is_left l lt).above;
      }

      hold : HoldTheHistory t0.scale n left whole_history
      hold = record { each = holds_stream; alive = all_alive }

  whole_replays : Replays 1 t0 whole_history
  whole_replays = replays_join 1 t0 past w.history base.tell.replays
      (subst (λ (m : ℕ). Replays m (replay t0 past) w.history) (number ∙ ap (λ (k : ℕ). 1 + k) base.count)
      (subst (λ (t : Database). Replays (life.past + 1) t w.history) base.first sound.replays))
    where
      number : life.past + 1 ≡ 1 + life.past
      number = omega arith

  whole_fit : All (IsFitForLogs t0.scale) whole_history
  whole_fit = All-append (IsFitForLogs t0.scale) past w.history base.tell.fit (subst (λ (s : Sizes). All (IsFitForLogs s) w.history) scale sound.fit)

  -- whose reply was released, in this life or before, has committed with an epoch up to D
  all_released : All (λ e. Contains whole_history e × (epoch_of e.tid ≤ w.durable)) (w.released ++ earlier)
  all_released = All-append (λ (e : Entry). Contains whole_history e × (epoch_of e.tid ≤ w.durable)) w.released earlier
      (All-weaker (MayTell w) (λ (e : Entry). Contains whole_history e × (epoch_of e.tid ≤ w.durable))
      (λ e tell. (Contains-append_right past w.history e tell.0, tell.1)) w.released sound.released)
      (All-weaker (Contains (cut (counts_in n old life.plan.base) past)) (λ (e : Entry). Contains whole_history e × (epoch_of e.tid ≤ w.durable))
      (λ e there.
      let among : Contains past e = subst (λ (es : List Entry). Contains es e) base.whole there in
      let low : epoch_of e.tid ≤ life.plan.base = All-contains (λ (d : Entry). epoch_of d.tid ≤ life.plan.base) past e past_low among in
      (Contains-append_left past w.history e among, omega (arith, low, sound.lasting)))
      earlier base.tell.told)

  module _ (strings : ℕ → List ℕ) (crash : Crashes life w strings) where
    -- by what the files are, and the least of their last marks
    recovers_by : (batches : ℕ → List BatchView) → ((l : ℕ) → l < n → IsLeftAt strings l (batches l)) → (durable : ℕ)
        → IsLeast n (λ l. last_mark 0 (left batches l)) durable → Recovers t0 life whole_history (w.released ++ earlier) w.durable strings
    recovers_by batches is_left durable is =
        let low : w.durable ≤ durable = omega (
          arith,
          sound.durable is.among.0 is.among.1,
          (is_left is.among.0 is.among.1).kept,
          is.among.2,
        ) in
        record {
          left = left batches;
          epoch = durable;
          files = λ l lt. (is_left l lt).file;
          hold = hold batches strings is_left;
          no_less = low;
          tell = tells t0 n (left batches) durable whole_history (w.released ++ earlier) (record { among = is.among; least = is.below })
              (hold batches strings is_left) whole_replays
              (stamped_join life.plan.base past w.history base.tell.stamped sound.stamped past_low sound.new) whole_fit
              (All-weaker (λ (e : Entry). Contains whole_history e × (epoch_of e.tid ≤ w.durable))
              (λ (e : Entry). Contains whole_history e × (epoch_of e.tid ≤ durable)) (λ e tell. (tell.0, omega (arith, tell.1, low)))
              (w.released ++ earlier) all_released);
        }

    pub recovers : Recovers t0 life whole_history (w.released ++ earlier) w.durable strings
    recovers =
        let all = chosen_below n (IsLeftAt strings) [] (λ l lt. left_at (strings l) l lt (crash l lt)) in
        let e : suc (n - 1) ≡ n = omega (arith, base.tell.is_durable.among.1) in
        let least = least_of (n - 1) (λ l. last_mark 0 (left all.0 l)) in
        recovers_by all.0 all.1 least.0
        (subst (λ (m : ℕ). IsLeast m (λ l. last_mark 0 (left all.0 l)) least.0) e least.1)

  -- an entry of the past stands in the old bodies
  in_old : (l : ℕ) → l < n → (e : Entry) → Contains (stream n l past) e → Contains (entries_of (old l)) (logged_entry t0.scale e)
  in_old l lt e there =
      let kept : Contains (counted (counts_in n old life.plan.base) (old l)) (logged_entry t0.scale e)
      = subst (λ (es : List EntryView). Contains es (logged_entry t0.scale e)) (sym (old_has l lt)) (in_map (logged_entry t0.scale) (stream n l past) e there) in
      has_to (entries_of (old l)) (logged_entry t0.scale e)
      (passed (λ (d : EntryView). counts_in n old life.plan.base (epoch_of d.tid)) (entries_of (old l)) (logged_entry t0.scale e)
      (has_from (counted (counts_in n old life.plan.base) (old l)) (logged_entry t0.scale e) kept)).0

  -- and one of this life, up to the last mark, in those behind them
  in_new : (l : ℕ) (bytes : List ℕ) (batches : List BatchView) → IsLeft (header_of life l) (stream n l w.history) (old l) (local_of w l) bytes batches
      → (e : Entry) → Contains (stream n l w.history) e → epoch_of e.tid ≤ local_of w l
      → Contains (entries_of (bodies_of batches)) (logged_entry t0.scale e)
  in_new l bytes batches is_left e there low =
      let front = in_front (IsAbove (last_mark 0 (old l ++ bodies_of batches))) (taken_in batches) is_left.behind e
      (λ late. omega (arith, low, late, is_left.kept)) is_left.above (subst (λ (es : List Entry). Contains es e) is_left.all there) in
      subst (λ (es : List EntryView). Contains es (logged_entry t0.scale e))
      (sym (is_left.logged ∙ ap (λ (s : Sizes). map (logged_entry s) (taken_in batches)) scale)) (in_map (logged_entry t0.scale) (taken_in batches) e front)

  -- D is lawful: it is at most each local mark, and so at most the last mark of what a crash leaves
  pub is_lawful : IsLawfulEpoch life past w w.durable
  is_lawful = λ l lt bytes may.
      let are = left_at bytes l lt may in
      record {
        bodies = old l ++ bodies_of are.0;
        file = are.1.file;
        each = λ e among low.
            subst (λ (s : Sizes). Contains (entries_of (old l ++ bodies_of are.0)) (logged_entry s e)) (sym scale)
            (subst (λ (es : List EntryView). Contains es (logged_entry t0.scale e)) (sym (flat_map-append entries_in (old l) (bodies_of are.0)))
            (⊎_elim
            (λ before. Contains-append_left (entries_of (old l)) (entries_of (bodies_of are.0)) (logged_entry t0.scale e) (in_old l lt e before))
            (λ since. Contains-append_right (entries_of (old l)) (entries_of (bodies_of are.0)) (logged_entry t0.scale e)
            (in_new l bytes are.0 are.1 e since (omega (arith, low, sound.durable l lt))))
            (Contains-append_cases (stream n l past) (stream n l w.history) e
            (subst (λ (es : List Entry). Contains es e) (filter-append (λ (d : Entry). d.terminal % n == l) past w.history) among))));
      }
