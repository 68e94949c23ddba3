use Rattle.std.proofs.Common.{rules, codes, refl, true, [], ◌∷◌}
use Rattle.std.proofs.lemmas.Result.{IfOk-weaker}
use Rattle.clap.specs.Words.{app_of}
use Rattle.program_options.specs.CommandLine.{HasApp, folder_option, loggers_option, threads_option}
use Rattle.program_options.proofs.Building.{more}
use Rattle.program_options.proofs.words.with_logs.Goals as goal

pub returns : goal.returns
returns c =
    let zero : HasApp (app_of c.args.command) c.args.command = (refl, c.requires.local) in
    let one = more _ folder_option _ _ _ zero c.in_ok-arg.ensures (search rules) (search rules) in
    let two = more _ (record loggers_option { required = true }) _ _ _ one c.in_ok-arg-2.ensures (search rules) (search rules) in
    let last = record threads_option { defaults = codes "1" ∷ [] } in
    record {
      app = IfOk-weaker c.arg-3.result _ _ (λ command added. more _ last _ _ _ two added (search rules) (search rules)) c.arg-3.ensures;
    }
