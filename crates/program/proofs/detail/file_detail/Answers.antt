use Rattle.std.proofs.Common.{◌≡◌, ◌++◌, List, ℕ, Option, codes, ap, ◌∙◌, subst}
use Rattle.std.specs.Prelude.{IfOk, string_bytes}
use Rattle.std.specs.declared.io.Error.{Error}
use Rattle.program_files.specs.Causes.{reason_of, trouble_of}
use Rattle.program.specs.Detail.{IsReasonTold}
use Rattle.program.proofs.detail.file_detail.Goals as goal

pub returns : goal.returns
returns c =
    let what : c.as_str.result.now ≡ c.args.path.now ++ (codes ": " ++ trouble_of c.args.trouble.now) =
    c.as_str.ensures.value ∙ c.in_ok-what.ensures.ok ∙ ap (λ (name : List ℕ). c.args.path.now ++ (codes ": " ++ name)) c.name-name.ensures in
    subst (λ (text : List ℕ). IfOk c.told.result (λ line. IsReasonTold text (reason_of c.args.trouble.now) (string_bytes line))) what
    (subst (λ (reason : Option Error). IfOk c.told.result (λ line. IsReasonTold c.as_str.result.now reason (string_bytes line))) c.reason.ensures c.told.ensures)
