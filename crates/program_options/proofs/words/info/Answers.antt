use Rattle.std.proofs.Common.{codes, rules}
use Rattle.std.proofs.lemmas.Result.{IfOk-weaker}
use Rattle.clap.specs.Words.{new_app}
use Rattle.program_options.specs.CommandLine.{folder_option}
use Rattle.program_options.proofs.Building.{described, more}
use Rattle.program_options.proofs.words.info.Goals as goal

pub returns : goal.returns
returns c =
    let bare = described (new_app (codes "info")) c.new.result c.about-command.result _ (c.new.ensures.app, c.new.ensures.local) c.about-command.ensures in
    record { app = IfOk-weaker c.arg.result _ _ (λ command added. more _ folder_option _ _ _ bare added (search rules) (search rules)) c.arg.ensures }
