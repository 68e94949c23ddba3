use Rattle.std.proofs.Common.{◌≡◌, ◌∙◌, ◌++◌, [], All, append-nil, ap, length, map, rules, subst, sym}
use Rattle.std.specs.Option.{option_to_list}
use Rattle.std.proofs.lemmas.List.{map_push}
use Rattle.std.proofs.lemmas.List.Elements.{All-push}
use Rattle.std.proofs.lemmas.List.Sorted.{All-permutation}
use Rattle.board.specs.Opening.{logger_seats}
use Rattle.logger.specs.Logger.{LoggerView}
use Rattle.run_threads.specs.declared.pace.Paced.{Paced}
use Rattle.logfile.specs.Standing.{LogFileView}
use Rattle.lane_logger.specs.Found.{IsFoundIn, as_they_are}
use Rattle.program_run.proofs.Seats.{AreFirstLogs, all_logs, found_last, last_pair, left_next, seats_count}
use Rattle.program_run.proofs.outfit.manned.Goals as goal

pub loop-seat-init : goal.loop-seat-init
loop-seat-init g c =
    let board = c.args.board.now in
    let count : length c.args.seats.items ≡ board.plan.loggers = ap length c.requires.seats ∙ seats_count board board.plan.loggers in
    let are : c.args.seats.items ≡ logger_seats board (length c.args.seats.items) = c.requires.seats ∙ ap (logger_seats board) (sym count) in
    let first = subst (λ n. AreFirstLogs n board.plan.loggers board.plan.base (map (λ (log : Paced (LogFileView g.row.D.Denot) g.row.P.Denot). log.inner) c.args.logs.items))
    (sym count) (all_logs c.requires.logs) in
    (are, first, ([], sym (append-nil (map (λ (log : Paced (LogFileView g.row.D.Denot) g.row.P.Denot). log.inner) c.args.logs.items))), search rules)

pub log_of-requires-clause-seat : goal.log_of-requires-clause-seat
log_of-requires-clause-seat g c =
    (last_pair c.loop-seat.invariant.0 c.loop-seat.invariant.1 (c.pop.ensures.items ∙ ap (λ r. c.pop.new.self.items ++ option_to_list r) c.in-Some.is)
    (ap (map (λ (log : Paced (LogFileView g.row.D.Denot) g.row.P.Denot). log.inner))
    (c.pop-in-Some.ensures.items ∙ ap (λ r. c.pop-in-Some.new.self.items ++ option_to_list r) c.in-Some-pop.is)
    ∙ map_push (λ (log : Paced (LogFileView g.row.D.Denot) g.row.P.Denot). log.inner) c.pop-in-Some.new.self.items c.in-Some-pop.log)).number

pub log_of-requires-clause-loggers : goal.log_of-requires-clause-loggers
log_of-requires-clause-loggers g c =
    (last_pair c.loop-seat.invariant.0 c.loop-seat.invariant.1 (c.pop.ensures.items ∙ ap (λ r. c.pop.new.self.items ++ option_to_list r) c.in-Some.is)
    (ap (map (λ (log : Paced (LogFileView g.row.D.Denot) g.row.P.Denot). log.inner))
    (c.pop-in-Some.ensures.items ∙ ap (λ r. c.pop-in-Some.new.self.items ++ option_to_list r) c.in-Some-pop.is)
    ∙ map_push (λ (log : Paced (LogFileView g.row.D.Denot) g.row.P.Denot). log.inner) c.pop-in-Some.new.self.items c.in-Some-pop.log)).loggers

pub log_of-requires-clause-base : goal.log_of-requires-clause-base
log_of-requires-clause-base g c =
    (last_pair c.loop-seat.invariant.0 c.loop-seat.invariant.1 (c.pop.ensures.items ∙ ap (λ r. c.pop.new.self.items ++ option_to_list r) c.in-Some.is)
    (ap (map (λ (log : Paced (LogFileView g.row.D.Denot) g.row.P.Denot). log.inner))
    (c.pop-in-Some.ensures.items ∙ ap (λ r. c.pop-in-Some.new.self.items ++ option_to_list r) c.in-Some-pop.is)
    ∙ map_push (λ (log : Paced (LogFileView g.row.D.Denot) g.row.P.Denot). log.inner) c.pop-in-Some.new.self.items c.in-Some-pop.log)).base

pub loop-seat-preserved : goal.loop-seat-preserved
loop-seat-preserved g c =
    let file_of = λ (log : Paced (LogFileView g.row.D.Denot) g.row.P.Denot). log.inner in
    let files = ap (map file_of) (c.pop-in-Some.ensures.items ∙ ap (λ r. c.pop-in-Some.new.self.items ++ option_to_list r) c.in-Some-pop.is)
    ∙ map_push file_of c.pop-in-Some.new.self.items c.in-Some-pop.log in
    let last = last_pair c.loop-seat.invariant.0 c.loop-seat.invariant.1
    (c.pop.ensures.items ∙ ap (λ r. c.pop.new.self.items ++ option_to_list r) c.in-Some.is) files in
    let seen = g.D.Disk.seen in
    let story = g.D.Disk.story in
    let IsThere = λ (log : Paced (LoggerView g.row.D.Denot) g.row.P.Denot).
    IsFoundIn c.args.board.now (as_they_are seen story (map file_of c.args.logs.items)) g.D.Disk.is_modelled seen story log.inner in
    let there = subst (λ (logger : LoggerView g.row.D.Denot).
    IsFoundIn c.args.board.now (as_they_are seen story (map file_of c.args.logs.items)) g.D.Disk.is_modelled seen story logger) (sym c.log_of.ensures.own)
    (record { own = last.same_board; named = λ _. found_last seen story _ _ _ _ _ files c.loop-seat.invariant.2 last.place }) in
    let own = All-push IsThere c.loop-seat.manned.items c.log_of.result c.loop-seat.invariant.3 there in (
      last.seats_left,
      last.files_left,
      left_next _ _ _ _ files c.loop-seat.invariant.2,
      subst (All IsThere) (sym c.in_ok-push.ensures.items) own,
    )

pub returns : goal.returns
returns g c =
    let file_of = λ (log : Paced (LogFileView g.row.D.Denot) g.row.P.Denot). log.inner in
    record {
      found = All-permutation (λ (log : Paced (LoggerView g.row.D.Denot) g.row.P.Denot).
          IsFoundIn c.args.board.now (as_they_are g.D.Disk.seen g.D.Disk.story (map file_of c.args.logs.items)) g.D.Disk.is_modelled g.D.Disk.seen
          g.D.Disk.story log.inner) c.loop-seat.manned.items c.reverse.new.self.items c.reverse.ensures.permutation c.loop-seat.invariant.3;
    }
