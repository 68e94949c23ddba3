-- What holds of a history holds of a batch of it.
use Rattle.std.proofs.Common.{◌≡◌, ℕ, zero, suc, ◌+◌, ◌-◌, ◌%◌, ◌<◌, ◌≤◌, ◌==◌, Bool, true, false, cond, true≢false, ⊎_elim, List, [], ◌∷◌, length, filter}
use Rattle.std.proofs.Common.{take, drop, sym, ◌∙◌, subst, arith}
use Rattle.std.specs.Prelude.{slice_index_or}
use Rattle.std.specs.List.{All}
use Rattle.std.proofs.lemmas.Bool.Decides.{eqb_tells}
use Rattle.std.proofs.lemmas.List.Elements.{All-nil, All-cons, All-drop, All-filter, All-weaker, filter_passes}
use Rattle.tables.specs.Sizes.{Sizes}
use Rattle.tables.specs.Database.{Database}
use Rattle.tables.specs.Apply.{after}
use Rattle.tidword.specs.TidWord.{epoch_of}
use Rattle.cells.specs.Records.{CellsView, PenView}
use Rattle.board.specs.Words.{last_epoch}
use Rattle.board.specs.declared.rule.Plan.{Plan}
use Rattle.book.specs.Batches.{IsBatch}
use Rattle.book.specs.Book.{IsSound}
use Rattle.book.specs.History.{Replays}
use Rattle.book.specs.Loggable.{IsLoggable, AreLoggable, NumbersRise}
use Rattle.book.specs.Ready.{IsReady, IsPassed}
use Rattle.book.specs.Stamps.{AreStamped, Follows}
use Rattle.book.specs.Streams.{stream, last_number, IsUntakenOf}
use Rattle.tables.specs.declared.limits.TheConstants.{MAX_LOGGERS, MAX_TERMINALS}
use Rattle.book.specs.declared.entry.Entry.{Entry}
use Rattle.book.specs.declared.untaken.Untaken.{Untaken}

-- numbers that rise from above one rise from above a lower one
rise_more : (low high : ℕ) (es : List Entry) → low ≤ high → NumbersRise high es → NumbersRise low es
rise_more low high [] le h = tt
rise_more low high (e ∷ es) le h = (omega (arith, le, h.0), h.1)

replays_rise : (n : ℕ) (t : Database) (es : List Entry) → Replays (n + 1) t es → NumbersRise n es
replays_rise n t [] h = tt
replays_rise n t (e ∷ es) h = (omega (arith, h.0), subst (λ k. NumbersRise k es) (sym h.0) (replays_rise (n + 1) (after t e.input) es h.2))

replays_cap : (n cap : ℕ) (t : Database) (es : List Entry) → Replays (n + 1) t es → n + length es ≤ cap → All (λ (e : Entry). e.number ≤ cap) es
replays_cap n cap t [] h le = All-nil (λ (e : Entry). e.number ≤ cap)
replays_cap n cap t (e ∷ es) h le = All-cons (λ (d : Entry). d.number ≤ cap) e es (omega (arith, h.0, le))
    (replays_cap (n + 1) cap (after t e.input) es h.2 (omega (arith, le)))

-- a filter keeps the order of numbers and of TIDs
rise_filter : (p : Entry → Bool) (n : ℕ) (es : List Entry) → NumbersRise n es → NumbersRise n (filter p es)
rise_filter p n [] h = tt
rise_filter p n (e ∷ es) h = one (p e) (rise_filter p e.number es h.1)
  where
    one : (b : Bool) → NumbersRise e.number (filter p es) → NumbersRise n (cond b (e ∷ filter p es) (filter p es))
    one true rest = (h.0, rest)
    one false rest = rise_more n e.number (filter p es) (omega (arith, h.0)) rest

stamped_filter : (p : Entry → Bool) (es : List Entry) → AreStamped es → AreStamped (filter p es)
stamped_filter p [] h = tt
stamped_filter p (e ∷ es) h = one (p e) (stamped_filter p es h.2)
  where
    one : (b : Bool) → AreStamped (filter p es) → AreStamped (cond b (e ∷ filter p es) (filter p es))
    one true rest = (h.0, All-filter p (Follows e) es h.1, rest)
    one false rest = rest

-- and so does a drop
rise_drop : (k n : ℕ) (es : List Entry) → NumbersRise n es → NumbersRise (last_number n (take k es)) (drop k es)
rise_drop zero n es h = h
rise_drop (suc k) n [] h = tt
rise_drop (suc k) n (e ∷ es) h = rise_drop k e.number es h.1

stamped_drop : (k : ℕ) (es : List Entry) → AreStamped es → AreStamped (drop k es)
stamped_drop zero es h = h
stamped_drop (suc k) [] h = tt
stamped_drop (suc k) (e ∷ es) h = stamped_drop k es h.2

-- what holds of each entry, and of a terminal of the logger's own, holds of each that is left of its stream
left_of : (P : Entry → Type 0) (k loggers l : ℕ) (es : List Entry) → All P es
    → All (λ (e : Entry). P e × (e.terminal % loggers ≡ l)) (drop k (stream loggers l es))
left_of P k loggers l es h = All-drop (λ (e : Entry). P e × (e.terminal % loggers ≡ l)) k (stream loggers l es)
    (λ i d lt. (All-filter own P es h i d lt, its (slice_index_or (stream loggers l es) i d) (filter_passes own es i d lt)))
  where
    own : Entry → Bool
    own e = e.terminal % loggers == l

    its : (e : Entry) → (e.terminal % loggers == l) ≡ true → e.terminal % loggers ≡ l
    its e is = ⊎_elim (λ yes. yes.1) (λ no. absurd (true≢false (sym is ∙ no.0))) (eqb_tells (e.terminal % loggers) l)

module _ {past : ℕ} {t0 : Database} {run_cells : CellsView} {seen : ℕ} {written : PenView} {history : List Entry} {t : Database} (plan : Plan)
    {terminals : ℕ} (logger : ℕ) {s : Untaken} (sound : IsSound past t0 written history t) (ready : IsReady past t0 run_cells seen written history t)
    (loggable : AreLoggable t0.scale terminals history) (is : IsUntakenOf plan.base seen (stream plan.loggers logger history) s)
    (few : plan.loggers ≤ MAX_LOGGERS) (own : logger < plan.loggers) (epoch : ℕ) (later : seen ≤ epoch) (bound : epoch ≤ last_epoch) where
  abbrev left : List Entry
  left = drop s.taken (stream plan.loggers logger history)

  -- what holds of each entry of the history holds of each that is left
  each_left : (P : Entry → Type 0) → All P history → All P left
  each_left P h = All-drop P s.taken (stream plan.loggers logger history) (All-filter (λ (e : Entry). e.terminal % plan.loggers == logger) P history h)

  abbrev IsBetween : Entry → Type 0
  IsBetween e = (s.mark < epoch_of e.tid) × (epoch_of e.tid ≤ epoch - 1 + 1)

  pub epochs_left : All IsBetween left
  epochs_left = λ k d h. (is.above k d h, up_to k d h)
    where
      at_most : (n : ℕ) → n ≤ seen → n ≤ epoch - 1 + 1
      at_most n p = omega (arith, p, later, is.mark)

      up_to : All (λ (e : Entry). epoch_of e.tid ≤ epoch - 1 + 1) left
      up_to = each_left (λ (e : Entry). epoch_of e.tid ≤ epoch - 1 + 1)
          (All-weaker (IsPassed seen written history) (λ (e : Entry). epoch_of e.tid ≤ epoch - 1 + 1) (λ e p. at_most (epoch_of e.tid) p.in_epoch)
          history ready.passed)

  asked_left : All (λ (e : Entry). (e.terminal < MAX_TERMINALS) × (e.terminal % plan.loggers ≡ logger)) left
  asked_left = left_of (λ (e : Entry). e.terminal < MAX_TERMINALS) s.taken plan.loggers logger history
      (All-weaker (λ (e : Entry). e.terminal < terminals) (λ (e : Entry). e.terminal < MAX_TERMINALS) (λ e p. less e.terminal p) history loggable.asked)
    where
      less : (n : ℕ) → n < terminals → n < MAX_TERMINALS
      less n p = omega (arith, p, loggable.few)

  rise_left : NumbersRise s.last_taken left
  rise_left = subst (λ n. NumbersRise n left) (sym is.last_taken) (rise_drop s.taken 0 (stream plan.loggers logger history)
      (rise_filter (λ (e : Entry). e.terminal % plan.loggers == logger) 0 history
      (rise_more 0 past history (omega arith) (replays_rise past t0 history sound.legal.replays))))

  -- a batch of all that is left is as its type keeps it
  pub lawful_batch : (loggers first seed : ℕ) (scale : Sizes) (entries : List Entry) → loggers ≡ plan.loggers → scale ≡ t0.scale → entries ≡ left
      → IsBatch (record {
        logger = logger;
        loggers = loggers;
        scale = scale;
        seed = seed;
        first = first;
        number_before = s.last_taken;
        mark_before = s.mark;
        entries = entries;
        mark = epoch - 1;
      })
  lawful_batch loggers first seed scale entries many sizes all = subst (λ (q : ℕ × Sizes × List Entry). IsBatch (record {
    logger = logger;
    loggers = q.0;
    scale = q.1;
    seed = seed;
    first = first;
    number_before = s.last_taken;
    mark_before = s.mark;
    entries = q.2;
    mark = epoch - 1;
  })) (λ i. (sym many i, sym sizes i, sym all i)) (record {
    logger = own;
    few = few;
    rise = rise_left;
    cap = each_left (λ (e : Entry). e.number ≤ t0.scale.commits) (replays_cap past t0.scale.commits t0 history sound.legal.replays ready.cap);
    stamped = stamped_drop s.taken (stream plan.loggers logger history)
        (stamped_filter (λ (e : Entry). e.terminal % plan.loggers == logger) history sound.stamped);
    epochs = epochs_left;
    marks_rise = omega (arith, is.mark, later);
    last_mark = omega (arith, is.mark, later, bound);
    asked = asked_left;
    each = each_left (IsLoggable t0.scale) loggable.each;
  })
