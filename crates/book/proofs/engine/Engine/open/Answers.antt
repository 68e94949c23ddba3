use Rattle.std.proofs.Common.{◌≡◌, ℕ, ◌≤◌, List, [], All, length, map, sym, ap, ◌∙◌, subst, arith, rules}
use Rattle.std.proofs.lemmas.List.{length-replicate}
use Rattle.std.proofs.lemmas.List.Elements.{All-replicate}
use Rattle.std.specs.Arc.{arc_value}
use Rattle.tables.specs.Sizes.{Sizes}
use Rattle.tables.specs.Database.{Database}
use Rattle.tables.specs.declared.limits.TheConstants.{MAX_COMMITS}
use Rattle.population.specs.Initial.{initial, seed_of}
use Rattle.population.specs.declared.population.Population.{Population}
use Rattle.cells.specs.Records.{CellsView, ReaderView}
use Rattle.annals.specs.Passes.{AnnalsView, AnnalistView}
use Rattle.book.specs.Base.{HasBecome}
use Rattle.book.specs.History.{replay}
use Rattle.book.specs.Book.{IsSound}
use Rattle.book.specs.declared.entry.Entry.{Entry}
use Rattle.book.specs.Ready.{IsReady, AreLast}
use Rattle.board.specs.declared.rule.Role.TheVariants.{Terminal}
use Rattle.board.specs.Seats.{BoardView, SeatView, new_seat}
use Rattle.book.specs.Epochs.{HasCounted, found_epoch}
use Rattle.book.specs.Streams.{AreStreams}
use Rattle.book.specs.Loggable.{AreLoggable}
use Rattle.totals.specs.Totals.{AreTotals}
use Rattle.tables.specs.declared.limits.TheConstants.{MAX_TERMINALS}
use Rattle.book.proofs.Opened.{first_sound, first_ready, first_lasts}
use Rattle.book.proofs.Streams.{first_streams}
use Rattle.book.proofs.Loggable.{first_loggable}
use Rattle.book.proofs.engine.Engine.open.Goals as goal

pub invariant_of-book : goal.invariant_of-book
invariant_of-book g c =
    let run = c.requires.run in
    let fresh = run.fresh in
    let start = fresh.start.tables in
    let unused = fresh.unused in
    let begun = c.args.parts.begun in
    let made = c.args.parts.fresh in
    let seat = made.seats.book in
    let few : (initial (arc_value c.args.parts.population)).scale.commits ≤ MAX_COMMITS =
    omega (
      arith,
      c.commits.ensures.value,
      c.commits.ensures.limits,
      ap (λ (s : Sizes). s.commits)
          (c.scale.ensures ∙ ap (λ (p : Population). (initial p).scale) c.deref.ensures),
    ) in
    let none : map arc_value c.args.parts.history.items ≡ [] = ap (map arc_value) fresh.history in
    let sound = first_sound unused.records begun.past start.well_formed start.consistent in
    let ready =
    first_ready unused.records begun.past (found_epoch seat) start.room start.cap
    (subst (λ (s : Sizes). s.commits ≤ MAX_COMMITS) (sym start.become.of_population.scale) few) in
    let blank = unused.blank in (
      record {
        population = ap initial fresh.lent ∙ run.population_is;
        seed = ap seed_of fresh.lent ∙ run.seed_is;
        past = run.past_is;
        become = subst (λ (q : Database × Database). HasBecome q.0 q.1 begun.rows.items)
            (λ i. (run.population_is i, run.first_is i)) start.become;
        sound = subst (λ (q : Database × ℕ × List Entry). IsSound q.1 q.0 made.records.pen q.2 (replay q.0 q.2))
            (λ i. (run.first_is i, run.past_is i, sym none i)) sound;
        ready = subst (λ (q : Database × ℕ × CellsView × List Entry).
            IsReady q.1 q.0 q.2 (found_epoch seat) made.records.pen q.3 (replay q.0 q.3))
            (λ i. (run.first_is i, run.past_is i, run.cells_are i, sym none i)) ready;
        totals = subst (λ (q : Database × List Entry). AreTotals (replay q.0 q.1) begun.totals)
            (λ i. (run.first_is i, sym none i)) fresh.start.totals;
        shares = c.open-shares.ensures.total ∙ sym (ap length none);
        lasts = subst (λ (h : List Entry). AreLast g.K.Ledger.parts h made.lasts.items) (sym none)
            (first_lasts unused.lasts (sym fresh.parts ∙ c.requires.ledger.parts_are));
        board = ap (λ (s : SeatView). s.board) unused.board.book ∙ run.board_is;
        counted = subst (λ (q : SeatView × List Entry). HasCounted q.0 q.1)
            (λ i. (sym unused.board.book i, sym none i)) (λ i. []);
        streams = subst (λ (q : BoardView × SeatView × List Entry).
            AreStreams q.0.plan (found_epoch q.1) q.2 made.streams.items)
            (λ i. (run.board_is i, sym unused.board.book i, sym none i))
            (first_streams made.board.plan made.streams.items fresh.loggers.0 fresh.loggers.1 unused.streams);
        loggable = subst (AreLoggable g.K.Run.run.first.scale g.K.Ledger.parts) (sym none)
            (first_loggable g.K.Run.run.first.scale g.K.Ledger.parts
            (subst (λ n. n ≤ MAX_TERMINALS) (sym fresh.parts ∙ c.requires.ledger.parts_are) fresh.few));
      },
      record {
        own = blank.lent ∙ run.annals_are;
        keeper = ap (λ (k : AnnalistView Entry). k.annals) blank.keeper ∙ run.annals_are;
        base = sym (ap (λ (a : AnnalsView). a.base) run.annals_are) ∙ blank.base ∙ ap (λ (b : BoardView). b.plan.base) run.board_is;
        whole = ap (λ (k : AnnalistView Entry). k.history) blank.keeper ∙ sym none;
        mark = omega (arith, ap (λ (k : AnnalistView Entry). k.mark) blank.keeper, ap found_epoch unused.board.book);
      },
    )

pub invariant_of-terminals : goal.invariant_of-terminals
invariant_of-terminals g c =
    let run = c.requires.run in
    let fresh = run.fresh in
    let unused = fresh.unused in
    let count = length c.args.parts.fresh.records.readers.items in
    let seat = new_seat c.args.parts.fresh.board Terminal in
    record {
      own = λ k d h. ap (λ (r : ReaderView). r.cells) (unused.records.readers k d h) ∙ unused.records.cells ∙ run.cells_are;
      new = subst (All (λ (s : SeatView). s ≡ new_seat g.K.Run.run.board Terminal)) (sym unused.board.terminals)
          (All-replicate (λ (s : SeatView). s ≡ new_seat g.K.Run.run.board Terminal) count seat
          (ap (λ (b : BoardView). new_seat b Terminal) run.board_is));
      as_many = ap length unused.board.terminals ∙ length-replicate count seat;
      shares = search rules;
      none = search rules;
      all = omega (arith, sym fresh.parts ∙ c.requires.ledger.parts_are);
      few = omega (arith, sym fresh.parts ∙ c.requires.ledger.parts_are, fresh.few);
    }
