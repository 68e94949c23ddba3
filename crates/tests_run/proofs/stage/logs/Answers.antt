use Rattle.std.proofs.Common.{refl, rules}
use Rattle.population.specs.Initial.{initial}
use Rattle.lane_logger.specs.Found.{IsFoundIn, new_files}
use Rattle.lane_logger.proofs.Found.{found_as}
use Rattle.logger.specs.Logger.{LoggerView}
use Rattle.run_threads.specs.declared.pace.Paced.{Paced}
use Rattle.tests_run.proofs.Pushed.{both_meet}
use Rattle.tests_run.proofs.stage.logs.Goals as goal

pub returns : goal.returns
returns g c =
    let files = new_files 2 (initial c.args.population.now).scale 0 in
    let IsThere = λ (log : Paced (LoggerView g.row.D.Denot) g.row.P.Denot).
    IsFoundIn c.args.board.now files g.D.Disk.is_modelled g.D.Disk.seen g.D.Disk.story log.inner in
    let first : IsThere c.in_ok-log_on.field-0 = found_as refl (search rules) c.in_ok-log_on.ensures in
    let second : IsThere c.in_ok-log_on-2.field-0 = found_as refl (search rules) c.in_ok-log_on-2.ensures in
    both_meet IsThere c.new-logs.result.items c.push.new.self.items c.push-2.new.self.items
    c.in_ok-log_on.field-0 c.in_ok-log_on-2.field-0
    c.new-logs.ensures.items c.in_ok-push.ensures.items c.in_ok-push-2.ensures.items first second
