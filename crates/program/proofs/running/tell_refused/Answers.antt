use Rattle.program_files.specs.Causes.{cause_of}
use Rattle.program.specs.Run.{scale_of}
use Rattle.program.specs.Status.{refusal_line}
use Rattle.program.proofs.Beginnings.{begins_any}
use Rattle.program.proofs.Details.{some_detail}
use Rattle.program.proofs.running.tell_refused.Goals as goal

pub returns-in-Err-clause-lines : goal.returns-in-Err-clause-lines
returns-in-Err-clause-lines g c =
    let fault = c.args.fault.now in
    let told = some_detail c.args.asked.now.subcommand (scale_of c.args.asked.now) (cause_of fault) c.args.input.now.failure c.args.output.now.failure fault.refusal in (
      told.0,
      told.1,
      begins_any (refusal_line fault.refusal) told.0 (g.E.Write.contents c.args.errors.now)
          (g.E.Write.contents c.finish_refused-in-Err.new.errors) c.finish_refused-in-Err.ensures.lines,
    )
