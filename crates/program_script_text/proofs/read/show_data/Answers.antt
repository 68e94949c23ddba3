use Rattle.std.proofs.Common.{◌≡◌, refl, rules, Err, []}
use Rattle.std.specs.Fmt.{decimal}
use Rattle.money.specs.declared.refusal.Refusal.TheVariants.{BadLine}
use Rattle.program_script_text.proofs.RequestLemmas.{no_data}
use Rattle.program_script_text.proofs.read.show_data.Goals as goal

pub returns-in_err-district : goal.returns-in_err-district
returns-in_err-district c =
    let is : c.from_residual-in_err-district.result ≡ Err BadLine = search rules in
    let first = c.in_ok-warehouse.ensures in
    rw is (refl, no_data _ (λ w d k small_w small_d small_k e. c.in_err-district.ensures.1 d small_d (decimal k) [] cc))
