use Rattle.std.proofs.lemmas.Result.{IfOk-weaker}
use Rattle.clap.specs.Simple.{with_subcommand}
use Rattle.program_options.specs.CommandLine.{bare_app, run_app, script_app}
use Rattle.program_options.proofs.Building.{settled_top, with_sub}
use Rattle.program_options.proofs.words.executing.Goals as goal

pub returns : goal.returns
returns c =
    let bare = settled_top c.new.result c.about.result c.version.result c.subcommand_required.result c.arg_required_else_help-command.result _ _
    (c.new.ensures.app, c.new.ensures.local) c.about.ensures c.version.ensures c.subcommand_required.ensures c.arg_required_else_help-command.ensures in
    let one = with_subcommand bare_app script_app.top in
    let with_one = with_sub bare_app script_app _ _ _ bare c.in_ok-script.ensures.app c.in_ok-command.ensures in
    record {
      app = IfOk-weaker c.subcommand-2.result _ _ (λ command added. with_sub one run_app _ _ _ with_one c.in_ok-run.ensures.app added)
          c.subcommand-2.ensures;
    }
