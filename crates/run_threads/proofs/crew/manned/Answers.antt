use Rattle.std.proofs.Common.{◌≡◌, suc, Option, Some, [], ◌∷◌, ◌++◌, IfSome, length, length-append, map, ap, sym, subst, ◌∙◌, arith}
use Rattle.std.proofs.lemmas.Iterator.Adapters.{YieldsList-from_vec}
use Rattle.std.proofs.lemmas.Iterator.Consumers.{YieldsList-end, YieldsList-turn}
use Rattle.std.proofs.lemmas.List.{map-id}
use Rattle.std.proofs.lemmas.List.Elements.{All-get_or}
use Rattle.board.specs.Seats.{SeatView}
use Rattle.lane_logger.specs.Found.{IsFoundIn}
use Rattle.run_threads.specs.Clocks.{clocks}
use Rattle.logger.specs.Logger.{LoggerView}
use Rattle.run_threads.specs.declared.pace.Paced.{Paced}
use Rattle.run_threads.specs.declared.writer.Writer.{Writer}
use Rattle.run_threads.proofs.Clocks.{clock_left, clocks_pushed, own_pushed}
use Rattle.run_threads.proofs.crew.manned.Goals as goal

pub new-requires-clause-logger : goal.new-requires-clause-logger
new-requires-clause-logger g c =
    let b = c.into_iter-log-iterator.ensures.into_iter_gives in
    let turn = YieldsList-turn (YieldsList-from_vec {s = c.into_iter-log-iterator.result} c.args.logs.items b.0 (b.1 ∙ c.args.logs.ok.0))
    c.loop-log.yielded c.loop-log.log-iterator c.loop-log.yielded_by c.next.result c.next.new.self c.in-Some.log c.in-Some.is c.next.ensures.steps in
    let own = λ (log : Paced (LoggerView g.row.D.Denot) g.row.P.Denot). IsFoundIn g.K.Run.run.board g.K.LoggedRun.found g.D.Disk.is_modelled g.D.Disk.seen g.D.Disk.story log.inner in
    subst own (sym turn.1) (All-get_or own c.args.logs.items (length c.loop-log.yielded) c.in-Some.log turn.0 c.requires.logs)

pub new-requires-clause-clock : goal.new-requires-clause-clock
new-requires-clause-clock g c =
    subst (λ (clock : Option SeatView). IfSome clock (λ (seat : SeatView). seat.board ≡ g.K.Run.run.board)) (sym c.take.ensures.value) c.loop-log.invariant.own

pub loop-log-preserved : goal.loop-log-preserved
loop-log-preserved g c =
    let i = c.loop-log.invariant in
    let more : length (c.loop-log.yielded ++ c.in-Some.log ∷ []) ≡ suc (length c.loop-log.yielded)
    = omega (arith, length-append c.loop-log.yielded (c.in-Some.log ∷ [])) in
    let clock_of = λ (writer : Writer g.row.K.Denot g.row.D.Denot g.row.P.Denot g.K.LoggedRun g.K.Run g.K.Ledger g.D.Disk). writer.clock in
    let logger_of = λ (writer : Writer g.row.K.Denot g.row.D.Denot g.row.P.Denot g.K.LoggedRun g.K.Run g.K.Ledger g.D.Disk). writer.appender.logger.logger in
    record {
      loggers =
          own_pushed logger_of (λ (log : Paced (LoggerView g.row.D.Denot) g.row.P.Denot). log.inner) c.loop-log.writers.items c.push.new.self.items c.new.result
          c.loop-log.yielded c.in-Some.log c.in_ok-push.ensures.items c.new.ensures.logger i.loggers;
      clocks =
          clocks_pushed clock_of c.loop-log.writers.items c.push.new.self.items c.new.result (Some c.args.clock) (length c.loop-log.yielded) _
          c.in_ok-push.ensures.items (c.new.ensures.clock ∙ c.take.ensures.value ∙ i.left) i.clocks more;
      left = c.take.ensures.after ∙ sym (ap (clock_left (Some c.args.clock)) more);
      own = subst (λ (clock : Option SeatView). IfSome clock (λ (seat : SeatView). seat.board ≡ g.K.Run.run.board)) (sym c.take.ensures.after) tt;
    }

pub returns-clause-loggers : goal.returns-clause-loggers
returns-clause-loggers g c =
    let b = c.into_iter-log-iterator.ensures.into_iter_gives in
    let end = YieldsList-end (YieldsList-from_vec {s = c.into_iter-log-iterator.result} c.args.logs.items b.0 (b.1 ∙ c.args.logs.ok.0))
    c.loop-log.yielded c.loop-log.log-iterator c.loop-log.yielded_by c.next.result c.next.new.self c.in-None.is c.next.ensures.steps in
    c.loop-log.invariant.loggers
    ∙ ap (map (λ (log : Paced (LoggerView g.row.D.Denot) g.row.P.Denot). log.inner)) (sym (map-id c.loop-log.yielded) ∙ end.0)

pub returns-clause-clocks : goal.returns-clause-clocks
returns-clause-clocks g c =
    let b = c.into_iter-log-iterator.ensures.into_iter_gives in
    let end = YieldsList-end (YieldsList-from_vec {s = c.into_iter-log-iterator.result} c.args.logs.items b.0 (b.1 ∙ c.args.logs.ok.0))
    c.loop-log.yielded c.loop-log.log-iterator c.loop-log.yielded_by c.next.result c.next.new.self c.in-None.is c.next.ensures.steps in
    c.loop-log.invariant.clocks ∙ ap (clocks (Some c.args.clock)) end.1
