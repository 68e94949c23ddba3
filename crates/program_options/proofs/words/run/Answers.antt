use Rattle.std.proofs.Common.{◌∙◌, ap, codes, subst}
use Rattle.std.specs.Prelude.{IfOk}
use Rattle.clap.specs.Words.{App, new_app}
use Rattle.program_options.specs.CommandLine.{HasApp, with_run, with_tables}
use Rattle.program_options.proofs.Building.{described, helped}
use Rattle.program_options.proofs.words.run.Goals as goal

pub with_run-requires : goal.with_run-requires
with_run-requires c =
    let bare = described (new_app (codes "run")) c.new.result c.about.result _ (c.new.ensures.app, c.new.ensures.local) c.about.ensures in
    let whole = helped (new_app (codes "run")) c.about.result c.after_help-command.result _ bare c.after_help-command.ensures in
    record { local = whole.1 }

pub returns : goal.returns
returns c =
    let bare = described (new_app (codes "run")) c.new.result c.about.result _ (c.new.ensures.app, c.new.ensures.local) c.about.ensures in
    let whole = helped (new_app (codes "run")) c.about.result c.after_help-command.result _ bare c.after_help-command.ensures in
    let run_is = c.in_ok-command.ensures.app.0 ∙ ap with_run whole.0 in
    record { app = subst (λ (app : App). IfOk c.with_tables.result (HasApp (with_tables app))) run_is c.with_tables.ensures.app }
