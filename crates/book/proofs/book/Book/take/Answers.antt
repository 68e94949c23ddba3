use Rattle.std.proofs.Common.{◌≡◌, ℕ, ◌+◌, ◌-◌, ◌<◌, ◌≤◌, ◌^◌, All, length, map, drop, refl, sym, ap, ◌∙◌, subst, arith, rules}
use Rattle.std.proofs.lemmas.List.{get_or-map, length-map, length-drop}
use lib.Seq.{map-set}
use Rattle.std.specs.Arc.{arc_value}
use Rattle.std.specs.Prelude.{slice_set}
use Rattle.tidword.specs.TidWord.{epoch_of}
use Rattle.tables.specs.Database.{Database}
use Rattle.tables.specs.declared.limits.TheConstants.{MAX_COMMITS}
use Rattle.population.specs.Initial.{initial}
use Rattle.population.specs.declared.population.Population.{Population}
use Rattle.board.specs.Seats.{SeatView}
use Rattle.book.specs.Epochs.{HasCounted, found_epoch}
use Rattle.book.specs.History.{replay}
use Rattle.book.specs.Ready.{IsReady}
use Rattle.book.specs.Book.{BookView}
use Rattle.book.specs.Streams.{stream, AreStreams}
use Rattle.book.specs.Batches.{IsBatchOf}
use Rattle.book.specs.declared.entry.Entry.{Entry}
use Rattle.book.specs.declared.untaken.Untaken.{Untaken}
use Rattle.book.proofs.Batched.{epochs_left, lawful_batch}
use Rattle.book.proofs.Kept.{annals_floored}
use Rattle.book.proofs.Loaded.{found_later, ready_loaded}
use Rattle.book.proofs.Streams.{all_of, found, streams_later, stream_set, stream_taken, stream_within}
use Rattle.book.proofs.book.Book.take.Goals as goal

begun : (mark seen epoch : ℕ) → mark < seen → seen ≤ epoch → (1 ≤ epoch) × (mark ≤ epoch - 1) × (epoch - 1 < epoch) × (epoch - 1 + 1 ≡ epoch)
begun mark seen epoch p q = (omega (arith, p, q), omega (arith, p, q), omega (arith, p, q), omega (arith, p, q))

at_least : (a b n : ℕ) → a ≤ b → b ≤ n → a ≤ n
at_least a b n p q = omega (arith, p, q)

pub overflow_sub-mark : goal.overflow_sub-mark
overflow_sub-mark g c =
    let i = c.self.invariant.0 in
    let is = found g.K.Run.run.board.plan (found_epoch c.self.inside.seat) c.args.logger (map arc_value c.self.inside.history.items)
    c.self.inside.streams.items c.index_mut-stream.result.now i.streams c.requires.logger c.index_mut-stream.ensures.value in
    (begun c.index_mut-stream.result.now.mark (found_epoch c.self.inside.seat) c.floor-epoch.result is.mark
    (found_later c.self.inside.seat i.board c.requires.board c.floor-epoch.ensures.later)).0

-- there are few entries
few : {taken waiting all history cap : ℕ} (past : ℕ) → taken ≤ all → waiting ≡ all - taken → all ≤ history → past + history ≤ cap → cap ≤ MAX_COMMITS
    → taken + waiting < 2 ^ 64
few past a b d e f = omega (arith, a, b, d, e, f)

pub take-entries-requires : goal.take-entries-requires
take-entries-requires g c =
    let i = c.self.invariant.0 in
    let plan = g.K.Run.run.board.plan in
    let loggers = plan.loggers in
    let history = map arc_value c.self.inside.history.items in
    let s = c.index_mut-stream.result.now in
    let is = found plan (found_epoch c.self.inside.seat) c.args.logger history c.self.inside.streams.items s i.streams c.requires.logger
    c.index_mut-stream.ensures.value in
    few g.K.Run.run.past is.taken (sym (length-map s.waiting.items arc_value) ∙ ap length is.waiting ∙ length-drop s.taken (stream loggers c.args.logger history))
    (stream_within loggers c.args.logger history) i.ready.cap i.ready.few

pub invariant_of-self : goal.invariant_of-self
invariant_of-self g c =
    let i = c.self.invariant.0 in
    let t0 = g.K.Run.run.first in
    let plan = g.K.Run.run.board.plan in
    let loggers = plan.loggers in
    let seat = c.self.inside.seat in
    let epoch = c.floor-epoch.result in
    let history = map arc_value c.self.inside.history.items in
    let streams = c.self.inside.streams.items in
    let s = c.index_mut-stream.result.now in
    let later = found_later seat i.board c.requires.board c.floor-epoch.ensures.later in
    let is = found plan (found_epoch seat) c.args.logger history streams s i.streams c.requires.logger c.index_mut-stream.ensures.value in
    let mark = begun s.mark (found_epoch seat) epoch is.mark later in
    let step = c.floor-epoch.ensures.step in
    let left = c.take-entries.ensures in
    let taken = stream_set plan epoch history history streams c.args.logger c.take-entries.new.self
    (streams_later plan (found_epoch seat) epoch history streams later i.streams) c.requires.logger (λ k _. refl)
    (stream_taken plan.base (found_epoch seat) epoch (epoch - 1) (stream loggers c.args.logger history) s c.take-entries.new.self is
    (at_least plan.base s.mark (epoch - 1) is.least mark.1) mark.2
    left.taken left.last_taken left.mark left.waiting) in (
      record {
        population = i.population;
        seed = i.seed;
        past = i.past;
        become = i.become;
        sound = i.sound;
        ready = subst (λ (q : SeatView). IsReady g.K.Run.run.past t0 g.K.Run.run.cells (found_epoch q) c.self.inside.pen (map arc_value c.self.inside.history.items)
            (replay t0 (map arc_value c.self.inside.history.items))) (sym step)
            (ready_loaded seat i.board c.requires.board c.floor-epoch.ensures.later i.ready);
        totals = i.totals;
        shares = i.shares;
        lasts = i.lasts;
        board = ap (λ (q : SeatView). q.board) step ∙ i.board;
        counted = subst (λ (q : SeatView). HasCounted q (map arc_value c.self.inside.history.items)) (sym step) i.counted;
        streams = subst (λ (q : SeatView). AreStreams g.K.Run.run.board.plan (found_epoch q) (map arc_value c.self.inside.history.items)
            (slice_set c.self.inside.streams.items c.args.logger c.take-entries.new.self)) (sym step) taken;
        loggable = i.loggable;
      },
      annals_floored c.self.invariant.1 later step,
    )

pub invariant_of-result : goal.invariant_of-result
invariant_of-result g c =
    let i = c.self.invariant.0 in
    let plan = g.K.Run.run.board.plan in
    let seat = c.self.inside.seat in
    let history = map arc_value c.self.inside.history.items in
    let s = c.index_mut-stream.result.now in
    let is = found plan (found_epoch seat) c.args.logger history c.self.inside.streams.items s i.streams c.requires.logger c.index_mut-stream.ensures.value in
    let count : c.len-loggers.result ≡ length c.self.inside.streams.items = search rules in
    lawful_batch plan c.args.logger i.sound i.ready i.loggable is i.streams.few c.requires.logger c.floor-epoch.result
    (found_later seat i.board c.requires.board c.floor-epoch.ensures.later) c.floor-epoch.ensures.bound
    c.len-loggers.result s.taken c.seed.result c.scale.result (map arc_value c.take-entries.result.items) (count ∙ i.streams.count)
    (c.scale.ensures ∙ ap (λ (p : Population). (initial p).scale) c.deref.ensures ∙ ap (λ (t : Database). t.scale) i.population
    ∙ sym i.become.of_population.scale)
    (ap (map arc_value) c.take-entries.ensures.entries ∙ is.waiting)

pub returns-clause-batch : goal.returns-clause-batch
returns-clause-batch g c =
    let i = c.self.invariant.0 in
    let plan = g.K.Run.run.board.plan in
    let loggers = plan.loggers in
    let seat = c.self.inside.seat in
    let history = map arc_value c.self.inside.history.items in
    let streams = c.self.inside.streams.items in
    let s = c.index_mut-stream.result.now in
    let later = found_later seat i.board c.requires.board c.floor-epoch.ensures.later in
    let is = found plan (found_epoch seat) c.args.logger history streams s i.streams c.requires.logger c.index_mut-stream.ensures.value in
    let mark = begun s.mark (found_epoch seat) c.floor-epoch.result is.mark later in
    let here : c.args.logger < length streams = subst (λ n. c.args.logger < n) (sym i.streams.count) c.requires.logger in
    let count : c.len-loggers.result ≡ length streams = search rules in
    let entries : map arc_value c.take-entries.result.items ≡ drop s.taken (stream loggers c.args.logger history) =
    ap (map arc_value) c.take-entries.ensures.entries ∙ is.waiting in
    subst (λ (q : BookView). IsBatchOf g.K.Run.run.board.plan.loggers c.args.logger q (record {
      logger = c.args.logger;
      loggers = c.len-loggers.result;
      scale = c.scale.result;
      seed = c.seed.result;
      first = c.index_mut-stream.result.now.taken;
      number_before = c.index_mut-stream.result.now.last_taken;
      mark_before = c.index_mut-stream.result.now.mark;
      entries = map arc_value c.take-entries.result.items;
      mark = c.floor-epoch.result - 1;
    })) c.self.view_is (record {
      logger_is = refl;
      loggers_are = count ∙ i.streams.count;
      places = length-map streams (λ (t : Untaken). t.taken) ∙ i.streams.count;
      marks = length-map streams (λ (t : Untaken). t.mark) ∙ i.streams.count;
      first = sym (get_or-map (λ (t : Untaken). t.taken) streams c.args.logger s 0 here ∙ ap (λ (t : Untaken). t.taken) (sym c.index_mut-stream.ensures.value));
      within = is.taken;
      number_before = is.last_taken;
      mark_before = sym (get_or-map (λ (t : Untaken). t.mark) streams c.args.logger s 0 here ∙ ap (λ (t : Untaken). t.mark)
          (sym c.index_mut-stream.ensures.value));
      entries = entries;
      epochs = subst (All (λ (e : Entry). (s.mark < epoch_of e.tid) × (epoch_of e.tid ≤ c.floor-epoch.result - 1 + 1))) (sym entries)
          (epochs_left plan c.args.logger i.sound i.ready i.loggable is i.streams.few c.requires.logger c.floor-epoch.result later c.floor-epoch.ensures.bound);
      marks_rise = mark.1;
    })

pub returns-clause-taken : goal.returns-clause-taken
returns-clause-taken g c =
    let i = c.self.invariant.0 in
    let plan = g.K.Run.run.board.plan in
    let streams = c.self.inside.streams.items in
    let history = map arc_value c.self.inside.history.items in
    let s = c.index_mut-stream.result.now in
    let is = found plan (found_epoch c.self.inside.seat) c.args.logger history streams s i.streams c.requires.logger c.index_mut-stream.ensures.value in
    let all = c.take-entries.ensures.taken
    ∙ all_of plan.base (found_epoch c.self.inside.seat) (stream plan.loggers c.args.logger history) s is in
    record {
      written = ap (λ (q : BookView). q.written) c.self.view_is;
      history = ap (λ (q : BookView). q.history) c.self.view_is;
      taken = map-set (λ (t : Untaken). t.taken) streams c.args.logger c.take-entries.new.self
          ∙ ap (slice_set (map (λ (t : Untaken). t.taken) streams) c.args.logger) all
          ∙ ap (λ (q : BookView). slice_set q.taken c.args.logger (length (stream g.K.Run.run.board.plan.loggers c.args.logger q.history))) c.self.view_is;
      marks = map-set (λ (t : Untaken). t.mark) streams c.args.logger c.take-entries.new.self
          ∙ (λ j. slice_set (c.self.view_is j).marks c.args.logger (c.take-entries.ensures.mark j));
    }
