use Rattle.std.proofs.Common.{sym, subst}
use Rattle.std.proofs.KnownBytes.{Appends-nil}
use Rattle.money.specs.declared.refusal.Refusal.{Refusal}
use Rattle.population.specs.Initial.{initial, seed_of}
use Rattle.program_recovery.specs.Told.{Shows}
use Rattle.program_files.specs.Causes.{cause_of}
use Rattle.program_files.specs.Logs.{IsRefusedWith, unread, untold}
use Rattle.program_files.proofs.logs.show.Goals as goal

pub returns-in-Err-clause-refused : goal.returns-in-Err-clause-refused
returns-in-Err-clause-refused g c = unread c.in-Err.ensures.unready (Appends-nil (g.W.Write.contents c.args.output.now))

pub returns-clause-refused : goal.returns-clause-refused
returns-clause-refused g c =
    let refused = c.in-Err-show_recovered.ensures.refused in
    subst (λ (refusal : Refusal). IsRefusedWith c.args.options.now.files Shows (initial c.args.population.now) (seed_of c.args.population.now)
    (g.W.Write.contents c.args.output.now) (g.W.Write.contents c.show_recovered.new.output) refusal (cause_of c.unrecovered.result)) (sym c.unrecovered.ensures.refusal)
    (untold refused.0 _ _ refused.1 c.unrecovered.ensures.cause)
