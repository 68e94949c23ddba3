use Rattle.std.proofs.Common.{ℕ, subst, sym}
use Rattle.money.specs.declared.refusal.Refusal.{Refusal}
use Rattle.std.proofs.KnownBytes.{Appends-nil}
use Rattle.book.specs.Parts.{first_of, loggers_of}
use Rattle.program_run.specs.Told.{IsBroken, refusal_in}
use Rattle.program_live.specs.Resumed.{broken, refused, untold}
use Rattle.program_live.proofs.Resumed.{are_logs, driven_further}
use Rattle.program_live.proofs.resuming.run_restarted.Goals as goal

pub returns-in-Err-clause-broken : goal.returns-in-Err-clause-broken
returns-in-Err-clause-broken g c = λ known why. refused c.in-Err.ensures.others why (Appends-nil (g.W.Write.contents c.args.output.now))

pub returns-in-Err-tell_resumed-clause-broken : goal.returns-in-Err-tell_resumed-clause-broken
returns-in-Err-tell_resumed-clause-broken g c = λ known.
    let begun = c.in-Err-tell_resumed.ensures.beginning in
    untold c.in-Ok.restarted.parts c.in-Ok.restarted.commits c.in-Ok.restarted.epoch begun.0 begun.1 c.in-Ok.ensures.goes_on begun.2 begun.3 begun.4

pub drive_restarted-requires-clause-files : goal.drive_restarted-requires-clause-files
drive_restarted-requires-clause-files g c κs within =
    are_logs (loggers_of c.in-Ok.restarted.parts) c.in-Ok.ensures.goes_on.1.goes_on.are_parts.loggers_are c.in-Ok.ensures.stand

pub returns-in-Ok-drive_restarted-clause-ran : goal.returns-in-Ok-drive_restarted-clause-ran
returns-in-Ok-drive_restarted-clause-ran g c =
    driven_further c.in-Ok.ensures.goes_on c.in-Ok-tell_resumed.ensures.whole c.in-Ok-drive_restarted.ensures.ran

pub returns-in-Err-drive_restarted-clause-broken : goal.returns-in-Err-drive_restarted-clause-broken
returns-in-Err-drive_restarted-clause-broken g c = λ known why.
    let parts = c.in-Ok.restarted.parts in
    let options = c.args.options.now in
    let refusal = refusal_in c.in-Err-drive_restarted.broken in
    let is = c.from.ensures in
    broken parts c.in-Ok.restarted.commits c.in-Ok.restarted.epoch (g.W.Write.contents c.tell_resumed.new.output) c.in-Ok.ensures.goes_on
    c.in-Ok-tell_resumed.ensures.whole
    (subst (λ (it : Refusal). IsBroken c.in-Ok.restarted.commits (first_of parts) options.terminals options.count
    (g.W.Write.contents c.tell_resumed.new.output) (g.W.Write.contents c.drive_restarted.new.output) it) (sym is)
    (subst (λ (past : ℕ). IsBroken past (first_of parts) options.terminals options.count (g.W.Write.contents c.tell_resumed.new.output)
    (g.W.Write.contents c.drive_restarted.new.output) refusal) c.in-Ok.ensures.goes_on.1.goes_on.are_parts.past_is
    c.in-Err-drive_restarted.ensures.broken.is)) why
