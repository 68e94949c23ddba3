use Rattle.std.proofs.Common.{inl, inr, refl, rules}
use Rattle.run_threads.specs.Appending.{IsAppenderIdle}
use Rattle.run_threads.proofs.appender.Appender.turn.Goals as goal

pub returns-then-is_idle : goal.returns-then-is_idle
returns-then-is_idle g c =
    let idle : IsAppenderIdle c.retry.new.self = search rules in
    (c.retry.new.self, c.retry.ensures, inl (idle, (c.take-taken.result, c.append.ensures)))

pub returns-else-is_idle : goal.returns-else-is_idle
returns-else-is_idle g c =
    let busy : ¬ IsAppenderIdle c.retry.new.self = search rules in
    (c.retry.new.self, c.retry.ensures, inr (busy, refl))
