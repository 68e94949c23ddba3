use Rattle.std.proofs.Common.{sym, subst}
use Rattle.std.proofs.KnownBytes.{Appends-nil}
use Rattle.money.specs.declared.refusal.Refusal.{Refusal}
use Rattle.population.specs.Initial.{initial, seed_of}
use Rattle.program_recovery.specs.Told.{Reports}
use Rattle.program_files.specs.Causes.{cause_of}
use Rattle.program_files.specs.Logs.{IsRefusedWith, unread, untold}
use Rattle.program_files.proofs.logs.report.Goals as goal

pub returns-in-Err-clause-refused : goal.returns-in-Err-clause-refused
returns-in-Err-clause-refused g c = unread c.in-Err.ensures.unready (Appends-nil (g.W.Write.contents c.args.output.now))

pub returns-clause-refused : goal.returns-clause-refused
returns-clause-refused g c =
    let refused = c.in-Err-checked.ensures.refused in
    subst (λ (refusal : Refusal). IsRefusedWith c.args.options.now.files Reports (initial c.args.population.now) (seed_of c.args.population.now)
    (g.W.Write.contents c.args.output.now) (g.W.Write.contents c.checked.new.writer) refusal (cause_of c.unrecovered.result)) (sym c.unrecovered.ensures.refusal)
    (untold refused.0 _ _ refused.2 c.unrecovered.ensures.cause)
