use Rattle.std.proofs.Common.{◌≡◌, IfOk, string_bytes, ℕ, Option, subst, sym}
use Rattle.log_flaws.specs.Texts.{flaw_line}
use Rattle.log_flaws.specs.declared.flaw.FileFlaw.TheVariants.{EndsInside}
use Rattle.log_flaws.proofs.flaw.ends_told.Goals as goal

pub returns-in-Some : goal.returns-in-Some
returns-in-Some c = subst (λ (end : Option ℕ). IfOk c.format-in-Some.result
    (λ line. string_bytes line ≡ flaw_line c.args.path.now (EndsInside c.args.length c.args.at end)))
    (sym c.in-Some.is) c.format-in-Some.ensures.ok
