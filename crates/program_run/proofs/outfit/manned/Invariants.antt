use Rattle.std.proofs.Common.{◌≡◌, All, length, map, vec_len}
use Rattle.board.specs.Opening.{logger_seats}
use Rattle.lane_logger.specs.Found.{IsFoundIn, as_they_are}
use Rattle.program_run.proofs.Seats.{AreFirstLogs, AreLeftOf}
use Rattle.program_run.proofs.outfit.manned.Given as goal

-- the seats that are left are those of the first loggers, their log files are left too, and the loggers so far are found
-- at their places
abbrev pub invariant-loop-seat : goal.invariant-loop-seat
invariant-loop-seat g l =
    (l.seats.items ≡ logger_seats l.board (length l.seats.items))
    × AreFirstLogs (length l.seats.items) l.board.plan.loggers l.board.plan.base (map (λ log. log.inner) l.logs.items)
    × AreLeftOf (map (λ log. log.inner) l.fn.logs.items) (map (λ log. log.inner) l.logs.items)
    × All (λ log. IsFoundIn l.board (as_they_are g.D.Disk.seen g.D.Disk.story (map (λ log. log.inner) l.fn.logs.items)) g.D.Disk.is_modelled
    g.D.Disk.seen g.D.Disk.story log.inner) l.manned.items

abbrev pub decreases-loop-seat : goal.decreases-loop-seat
decreases-loop-seat g l = vec_len l.seats
