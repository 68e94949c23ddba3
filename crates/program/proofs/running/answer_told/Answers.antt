use Rattle.std.proofs.Common.{◌≡◌, None, Err, ap, refl, subst, sym}
use Rattle.std.proofs.Math.Logic.{⊎_map}
use Rattle.population.specs.Initial.{initial}
use Rattle.program_files.specs.declared.fault.Fault.{Fault}
use Rattle.program_files.specs.Causes.{cause_of}
use Rattle.program.specs.Run.{IsBrokenOff}
use Rattle.program.proofs.running.answer_told.Goals as goal

pub returns-in-Ok-clause-answered : goal.returns-in-Ok-clause-answered
returns-in-Ok-clause-answered g c = λ bytes left.
    let whole = c.in-Ok.ensures.whole bytes left in
    record { text = whole.0; dones = c.in-Ok.dones.items; wrote = whole.1; whole = whole.2 }

pub returns-in-Err-clause-broken_off : goal.returns-in-Err-clause-broken_off
returns-in-Err-clause-broken_off g c = λ bytes left.
    let beginning = c.in-Err.ensures.beginning bytes left in
    subst (λ (fault : Fault). IsBrokenOff (initial c.args.population) bytes (g.W.Write.contents c.args.output.now) (g.W.Write.contents c.hinted_script.new.writer)
    fault.refusal × (cause_of fault ≡ None)) (sym c.of.ensures) (
      record {
        front = beginning.0;
        cause = ⊎_map (λ memory. memory) (⊎_map (λ input. (input, c.in-Err.ensures.too_many (ap Err input) bytes left)) (λ device. device))
            c.in-Err.ensures.refusals;
        wrote = beginning.1;
        beginning = beginning.2;
      },
      refl,
    )
