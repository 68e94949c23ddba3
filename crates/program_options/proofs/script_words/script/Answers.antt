use Rattle.std.proofs.Common.{◌∙◌, ap, codes, rules, subst}
use Rattle.std.specs.Prelude.{IfOk}
use Rattle.clap.specs.Words.{App, new_app, with_rule}
use Rattle.program_options.specs.CommandLine.{HasApp, flag_option, with_tables}
use Rattle.program_options.proofs.Building.{described, helped, more}
use Rattle.program_options.proofs.script_words.script.Goals as goal

pub with_tables-requires : goal.with_tables-requires
with_tables-requires c =
    let bare = described (new_app (codes "script")) c.new.result c.about.result _ (c.new.ensures.app, c.new.ensures.local) c.about.ensures in
    let whole = helped (new_app (codes "script")) c.about.result c.after_help-command.result _ bare c.after_help-command.ensures in
    let told = more _ (flag_option (codes "explain")) _ _ _ whole c.in_ok-command.ensures (search rules) (search rules) in
    record { local = told.1 }

pub returns : goal.returns
returns c =
    let bare = described (new_app (codes "script")) c.new.result c.about.result _ (c.new.ensures.app, c.new.ensures.local) c.about.ensures in
    let whole = helped (new_app (codes "script")) c.about.result c.after_help-command.result _ bare c.after_help-command.ensures in
    let told = more _ (flag_option (codes "explain")) _ _ _ whole c.in_ok-command.ensures (search rules) (search rules) in
    record { app = subst (λ (app : App). IfOk c.with_tables.result (HasApp (with_tables app))) told.0 c.with_tables.ensures.app }
