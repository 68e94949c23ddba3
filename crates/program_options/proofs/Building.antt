-- What the builders' calls make of the program's command.
use Rattle.std.proofs.Common.{◌≡◌, ◌∙◌, ◌||◌, List, ℕ, ap, ap₂, Bool, false, true, codes}
use Rattle.std.specs.Prelude.{Option, Some}
use Rattle.std.specs.Borrow.{Bor}
use Rattle.clap.specs.Words.{AddsArg, AddsSubcommand, App, Rule, new_app, rule_of, with_rule, with_subcommand}
use Rattle.clap.specs.Simple.{app_of_fields}
use Rattle.clap.specs.declared.builder.arg.Arg.{Arg}
use Rattle.clap.specs.declared.builder.command.Command.{Command}
use Rattle.clap.specs.declared.builder.command.Command.TheOpen.{Command-F}
use Rattle.clap.specs.declared.builder.command.Command.TheViews.{out-Command}
use Rattle.program_options.specs.CommandLine.{HasApp, bare_app}

-- a text at the top of help
pub described : (app : App) (old new : Command) (text : Option (Bor (List ℕ))) → HasApp app old
    → ◌≡◌ {A = Command-F Command} (out-Command new) (record (out-Command old) { about = text }) → HasApp app new
described app old new text had is = (ap app_of_fields is ∙ had.0, ap (λ (c : Command-F Command). c.has_globals) is ∙ had.1)

-- a text at the bottom of help
pub helped : (app : App) (old new : Command) (text : Option (Bor (List ℕ))) → HasApp app old
    → ◌≡◌ {A = Command-F Command} (out-Command new) (record (out-Command old) { after_help = text }) → HasApp app new
helped app old new text had is = (ap app_of_fields is ∙ had.0, ap (λ (c : Command-F Command). c.has_globals) is ∙ had.1)

-- one more argument
pub more : (app : App) (rule : Rule) (old new : Command) (a : Arg) → HasApp app old → AddsArg old a new → rule_of a ≡ rule → a.global ≡ false
    → HasApp (with_rule app rule) new
more app rule old new a had added is local =
    (added.shape local ∙ ap₂ with_rule had.0 is, added.globals ∙ ap₂ (λ (x y : Bool). x || y) had.1 local)

-- the settings of the program's own level
pub settled_top : (new described numbered required helped : Command) (text : Option (Bor (List ℕ))) (version : Bor (List ℕ))
    → HasApp (new_app (codes "tpcc")) new
    → ◌≡◌ {A = Command-F Command} (out-Command described) (record (out-Command new) { about = text })
    → ◌≡◌ {A = Command-F Command} (out-Command numbered) (record (out-Command described) { version = Some version })
    → ◌≡◌ {A = Command-F Command} (out-Command required) (record (out-Command numbered) { subcommand_required = true })
    → ◌≡◌ {A = Command-F Command} (out-Command helped) (record (out-Command required) { arg_required_else_help = true })
    → HasApp bare_app helped
settled_top new described numbered required helped text version had about numbers needs helps =
    let about_is = ap app_of_fields about ∙ had.0 in
    let app_is = ap app_of_fields numbers ∙ ap (λ (a : App). record a { top = record a.top { has_version = true } }) about_is in
    let globals = ap (λ (c : Command-F Command). c.has_globals) numbers ∙ (ap (λ (c : Command-F Command). c.has_globals) about ∙ had.1) in
    let needs_is = ap app_of_fields needs ∙ ap (λ (a : App). record a { top = record a.top { subcommand_required = true } }) app_is in
    let helps_is = ap app_of_fields helps ∙ ap (λ (a : App). record a { top = record a.top { arg_required_else_help = true } }) needs_is in (
      helps_is,
      ap (λ (c : Command-F Command). c.has_globals) helps ∙ (ap (λ (c : Command-F Command). c.has_globals) needs ∙ globals),
    )

-- a subcommand
pub with_sub : (app sub : App) (old added new : Command) → HasApp app old → HasApp sub added → AddsSubcommand old added new
    → HasApp (with_subcommand app sub.top) new
with_sub app sub old added new had has adds =
    (adds.shape has.1 ∙ ap₂ with_subcommand had.0 (ap (λ (a : App). a.top) has.0), adds.globals ∙ ap₂ (λ (x y : Bool). x || y) had.1 has.1)
