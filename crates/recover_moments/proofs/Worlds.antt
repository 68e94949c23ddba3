-- A moment is a sound world.
use Rattle.std.proofs.Common.{◌≡◌, ℕ, ◌+◌, ◌%◌, ◌==◌, ◌<◌, ◌≤◌, List, ◌++◌, sym, ap, ◌∙◌, subst, arith}
use Rattle.std.specs.List.{All, Contains}
use Rattle.std.proofs.lemmas.List.Elements.{filter-append, All-filter, All-weaker, All-contains}
use Rattle.tidword.specs.TidWord.{epoch_of}
use Rattle.annals.specs.declared.claims.Claim.{Claim}
use Rattle.annals.specs.Claims.{IsSoOf}
use Rattle.board.specs.declared.rule.Role.TheVariants.{Logger}
use Rattle.board.specs.Words.{durable_in}
use Rattle.board.specs.Rule.{KnowsOwn}
use Rattle.board.proofs.Standing.{durable_stands}
use Rattle.log_text.specs.Bodies.{BodyView}
use Rattle.book.specs.Dates.{date_of}
use Rattle.book.specs.Streams.{stream}
use Rattle.book.specs.declared.entry.Entry.{Entry}
use Rattle.recover_crashes.specs.World.{Life, header_of}
use Rattle.recover_crashes.specs.Lanes.{FitsLane}
use Rattle.recover_crashes.proofs.Lanes.{lane_goes_on, lane_later}
use Rattle.recover_crashes.proofs.Sound.{IsSound, MayTell}
use Rattle.recover_moments.specs.Moments.{Moment, IsLoggerOfMoment, IsToldAt, IsMoment, world_at}

module _ (life : Life) (old : ℕ → List BodyView) (m : Moment) (is : IsMoment life old m) where
  n : ℕ
  n = life.plan.loggers

  -- a claim on the annals' history is one on the moment's
  so_here : (c : Claim Entry) → IsSoOf date_of is.annals.history is.annals.mark c → IsSoOf date_of m.history m.mark c
  so_here c so = subst (λ (x : List Entry × ℕ). IsSoOf date_of x.0 x.1 c) (λ i. (is.history i, is.mark i)) so

  -- a lane of what a pass knows is a lane of the whole
  lane_of : (l : ℕ) → (x : IsLoggerOfMoment life (old l) m l (m.logger l))
      → FitsLane (header_of life l) life.past (m.mark + 1) (stream life.plan.loggers l m.history) (old l) (m.logger l).landed (m.logger l).file
      (m.logger l).flight (m.logger l).local
  lane_of l x =
      let so = so_here x.known.own (is.annals.fits x.pass x.known x.passed).own in
      let c = x.known.own in
      let own = λ (e : Entry). e.terminal % life.plan.loggers == l in
      let whole : stream life.plan.loggers l c.front ++ stream life.plan.loggers l so.rest ≡ stream life.plan.loggers l m.history
      = sym (ap (stream life.plan.loggers l) so.beginning ∙ filter-append own c.front so.rest) in
      let longer = lane_goes_on (header_of life l) life.past (c.mark + 1) (stream life.plan.loggers l c.front) (old l) (m.logger l).landed (m.logger l).file
      (m.logger l).flight (m.logger l).local x.lane (c.mark + 1) (stream life.plan.loggers l so.rest) (omega arith)
      (All-filter own (λ e. c.mark + 1 ≤ epoch_of e.tid) so.rest
      (All-weaker (λ e. c.mark < date_of e) (λ e. c.mark + 1 ≤ epoch_of e.tid) (λ e p. omega arith) so.rest so.later)) in
      let up = so.within in
      lane_later (header_of life l) life.past (c.mark + 1) (stream life.plan.loggers l m.history) (old l) (m.logger l).landed (m.logger l).file
      (m.logger l).flight (m.logger l).local
      (subst (λ (s : List Entry). FitsLane (header_of life l) life.past (c.mark + 1) s (old l) (m.logger l).landed (m.logger l).file
      (m.logger l).flight (m.logger l).local) whole longer)
      (m.mark + 1) (omega arith)

  -- D is at most each local mark
  below : (l : ℕ) → l < life.plan.loggers → durable_in m.words ≤ (m.logger l).local
  below l lt =
      let x = is.loggers l lt in
      let fits = is.board.seats x.seat x.view x.seated in
      let own : KnowsOwn life.plan m.words (Logger l) x.view.steps = subst (λ r. KnowsOwn life.plan m.words r x.view.steps) x.role fits.owns in
      let low = is.board.durable l lt in
      let mark = own.1 in
      let stored = x.stored in
      omega arith

  tell : (e : Entry) → IsToldAt life m e → MayTell (world_at life m) e
  tell e told = (
    All-contains (Contains m.history) told.known.own.has e (so_here told.known.own (is.annals.fits told.pass told.known told.passed).own).there told.cited,
    (let fits = is.board.seats told.seat told.view told.seated in
        let stands = durable_stands life.plan.base m.words told.view.steps is.board.lasting fits.stand in
        let low = told.durable in omega arith),
  )

  pub sound : IsSound life old (world_at life m)
  sound = record {
    landed = λ l. (m.logger l).landed;
    lanes = λ l lt. lane_of l (is.loggers l lt);
    loaded = λ l. tt;
    durable = below;
    replays = is.replays;
    stamped = is.stamped;
    fit = is.fit;
    versions = is.versions;
    epochs = subst (λ (x : List Entry × ℕ). All (λ e. epoch_of e.tid ≤ x.1 + 1) x.0) (λ i. (is.history i, is.mark i)) is.annals.found;
    ends = (let low = is.board.begun in let high = is.board.ends in omega arith);
    released = All-weaker (IsToldAt life m) (MayTell (world_at life m)) tell m.released is.released;
    begun = (let low = is.annals.begun in let same = is.mark in omega arith);
    new = subst (All (λ e. life.plan.base < epoch_of e.tid)) is.history is.annals.new;
    lasting = is.board.lasting;
  }
