use Rattle.std.proofs.Common.{◌≡◌, Err, map, inr, rules}
use Rattle.std.specs.Fmt.{decimal}
use Rattle.money.specs.declared.refusal.Refusal.TheVariants.{BadLine}
use Rattle.program_script_text.specs.Requests.{line_word}
use Rattle.program_script_text.proofs.RequestLemmas.{no_new_order}
use Rattle.program_script_text.proofs.read.read_new_order.Goals as goal

pub returns-in_err-district : goal.returns-in_err-district
returns-in_err-district c =
    let is : c.from_residual-in_err-district.result ≡ Err BadLine = search rules in
    let first = c.in_ok-warehouse.ensures in
    rw is (inr (no_new_order c.args.date _ (λ w d k ls small_w small_d e. c.in_err-district.ensures.1 d small_d (decimal k) (map line_word ls) cc)))
