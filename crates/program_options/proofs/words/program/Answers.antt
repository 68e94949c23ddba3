use Rattle.std.proofs.Common.{codes}
use Rattle.std.proofs.lemmas.Result.{IfOk-weaker}
use Rattle.clap.specs.Simple.{with_subcommand}
use Rattle.program_options.specs.CommandLine.{executing_app, info_app, on_logs_app}
use Rattle.program_options.proofs.Building.{with_sub}
use Rattle.program_options.proofs.words.program.Goals as goal

pub returns : goal.returns
returns c =
    let one = with_subcommand executing_app (on_logs_app (codes "recover")).top in
    let with_one = with_sub executing_app (on_logs_app (codes "recover")) _ _ _ c.in_ok-command.ensures.app c.in_ok-on_log_files.ensures.app
    c.in_ok-command-2.ensures in
    let two = with_subcommand one (on_logs_app (codes "check")).top in
    let with_two = with_sub one (on_logs_app (codes "check")) _ _ _ with_one c.in_ok-on_log_files-2.ensures.app c.in_ok-command-3.ensures in
    record {
      app = IfOk-weaker c.subcommand-3.result _ _ (λ command added. with_sub two info_app _ _ _ with_two c.in_ok-info.ensures.app added)
          c.subcommand-3.ensures;
    }
