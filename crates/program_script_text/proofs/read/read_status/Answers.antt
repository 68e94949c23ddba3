use Rattle.std.proofs.Common.{◌≡◌, rules, Err, []}
use Rattle.money.specs.declared.refusal.Refusal.TheVariants.{BadLine}
use Rattle.program_script_text.specs.LastNames.{who_word}
use Rattle.program_script_text.proofs.RequestLemmas.{no_status}
use Rattle.program_script_text.proofs.read.read_status.Goals as goal

pub returns-in_err-district : goal.returns-in_err-district
returns-in_err-district c =
    let is : c.from_residual-in_err-district.result ≡ Err BadLine = search rules in
    let first = c.in_ok-warehouse.ensures in
    rw is (no_status c.args.date _ (λ w d who small_w small_d has_who e. c.in_err-district.ensures.1 d small_d (who_word who) [] cc))
