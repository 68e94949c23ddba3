use Rattle.std.proofs.Common.{◌≡◌, ◌≢◌, Ok, Err, inr, length, codes, ◌∷◌, ◌++◌, subst, sym, ap, ◌∙◌, arith, rules}
use Rattle.std.proofs.lemmas.Slice.Eq.{text_from_reads}
use Rattle.money.specs.declared.refusal.Refusal.TheVariants.{BadLine}
use Rattle.program_script_text.specs.declared.request.Request.TheVariants.{Show}
use Rattle.program_script_text.specs.Words.{words}
use Rattle.program_script_text.specs.Requests.{Answers}
use Rattle.program_script_text.proofs.Spaces.{text_from_first}
use Rattle.program_script_text.proofs.RequestLemmas.{line_request, line_refusal, refused_line, behind_show, no_show, no_verb}
use Rattle.program_script_text.proofs.read.read_request.Goals as goal

pub returns-in_ok-read_show-in-show-clause-request : goal.returns-in_ok-read_show-in-show-clause-request
returns-in_ok-read_show-in-show-clause-request c =
    let is : c.in_ok-verb.verb.now ≡ codes "show" = text_from_reads c.in_ok-verb.verb.now (codes "show") (omega arith) (search rules) in
    let key = c.in_ok-read_show-in-show.field-0 in
    let shows = behind_show c.args.date (words c.in_ok-verb.rest.now) key c.in_ok-read_show-in-show.ensures in
    line_request c.args.date c.args.line.now _ _ _ (Ok (Show key)) c.in_ok-verb.ensures is (inr shows)

pub returns-in_err-read_show-in-show-clause-refusal : goal.returns-in_err-read_show-in-show-clause-refusal
returns-in_err-read_show-in-show-clause-refusal c =
    let is : c.in_ok-verb.verb.now ≡ codes "show" = text_from_reads c.in_ok-verb.verb.now (codes "show") (omega arith) (search rules) in
    let refusal = c.in_err-read_show-in-show.field-0.0 in
    let left : c.from_residual-in_err-read_show-in-show.result ≡ Err refusal = search rules in
    let shows = no_show c.args.date (words c.in_ok-verb.rest.now) refusal c.in_err-read_show-in-show.ensures in
    rw left (line_refusal c.args.date c.args.line.now _ _ _ (Err refusal) c.in_ok-verb.ensures is (inr shows))

pub returns-in-payment-clause-request : goal.returns-in-payment-clause-request
returns-in-payment-clause-request c =
    let is : c.in_ok-verb.verb.now ≡ codes "payment" = text_from_reads c.in_ok-verb.verb.now (codes "payment") (omega arith) (search rules) in
    line_request c.args.date c.args.line.now _ _ _ c.read_payment.result c.in_ok-verb.ensures is (inr c.read_payment.ensures)

pub returns-in-payment-clause-refusal : goal.returns-in-payment-clause-refusal
returns-in-payment-clause-refusal c =
    let is : c.in_ok-verb.verb.now ≡ codes "payment" = text_from_reads c.in_ok-verb.verb.now (codes "payment") (omega arith) (search rules) in
    line_refusal c.args.date c.args.line.now _ _ _ c.read_payment.result c.in_ok-verb.ensures is (inr c.read_payment.ensures)

pub returns-in-neworder-clause-request : goal.returns-in-neworder-clause-request
returns-in-neworder-clause-request c =
    let is : c.in_ok-verb.verb.now ≡ codes "neworder" = text_from_reads c.in_ok-verb.verb.now (codes "neworder") (omega arith) (search rules) in
    line_request c.args.date c.args.line.now _ _ _ c.read_new_order.result c.in_ok-verb.ensures is c.read_new_order.ensures

pub returns-in-neworder-clause-refusal : goal.returns-in-neworder-clause-refusal
returns-in-neworder-clause-refusal c =
    let is : c.in_ok-verb.verb.now ≡ codes "neworder" = text_from_reads c.in_ok-verb.verb.now (codes "neworder") (omega arith) (search rules) in
    line_refusal c.args.date c.args.line.now _ _ _ c.read_new_order.result c.in_ok-verb.ensures is c.read_new_order.ensures

pub returns-in-neworder-clause-memory : goal.returns-in-neworder-clause-memory
returns-in-neworder-clause-memory c none =
    let is : c.in_ok-verb.verb.now ≡ codes "neworder" = text_from_reads c.in_ok-verb.verb.now (codes "neworder") (omega arith) (search rules) in
    (c.in_ok-verb.rest.now, text_from_first c.args.line.now _ _ c.in_ok-verb.ensures ∙ ap (λ verb. verb ++ 32 ∷ c.in_ok-verb.rest.now) is)

pub returns-in-delivery-clause-request : goal.returns-in-delivery-clause-request
returns-in-delivery-clause-request c =
    let is : c.in_ok-verb.verb.now ≡ codes "delivery" = text_from_reads c.in_ok-verb.verb.now (codes "delivery") (omega arith) (search rules) in
    line_request c.args.date c.args.line.now _ _ _ c.read_delivery.result c.in_ok-verb.ensures is (inr c.read_delivery.ensures)

pub returns-in-delivery-clause-refusal : goal.returns-in-delivery-clause-refusal
returns-in-delivery-clause-refusal c =
    let is : c.in_ok-verb.verb.now ≡ codes "delivery" = text_from_reads c.in_ok-verb.verb.now (codes "delivery") (omega arith) (search rules) in
    line_refusal c.args.date c.args.line.now _ _ _ c.read_delivery.result c.in_ok-verb.ensures is (inr c.read_delivery.ensures)

pub returns-in-status-clause-request : goal.returns-in-status-clause-request
returns-in-status-clause-request c =
    let is : c.in_ok-verb.verb.now ≡ codes "status" = text_from_reads c.in_ok-verb.verb.now (codes "status") (omega arith) (search rules) in
    line_request c.args.date c.args.line.now _ _ _ c.read_status.result c.in_ok-verb.ensures is (inr c.read_status.ensures)

pub returns-in-status-clause-refusal : goal.returns-in-status-clause-refusal
returns-in-status-clause-refusal c =
    let is : c.in_ok-verb.verb.now ≡ codes "status" = text_from_reads c.in_ok-verb.verb.now (codes "status") (omega arith) (search rules) in
    line_refusal c.args.date c.args.line.now _ _ _ c.read_status.result c.in_ok-verb.ensures is (inr c.read_status.ensures)

pub returns-in-level-clause-request : goal.returns-in-level-clause-request
returns-in-level-clause-request c =
    let is : c.in_ok-verb.verb.now ≡ codes "level" = text_from_reads c.in_ok-verb.verb.now (codes "level") (omega arith) (search rules) in
    line_request c.args.date c.args.line.now _ _ _ c.read_level.result c.in_ok-verb.ensures is (inr c.read_level.ensures)

pub returns-in-level-clause-refusal : goal.returns-in-level-clause-refusal
returns-in-level-clause-refusal c =
    let is : c.in_ok-verb.verb.now ≡ codes "level" = text_from_reads c.in_ok-verb.verb.now (codes "level") (omega arith) (search rules) in
    line_refusal c.args.date c.args.line.now _ _ _ c.read_level.result c.in_ok-verb.ensures is (inr c.read_level.ensures)

pub returns-in_default-clause-refusal : goal.returns-in_default-clause-refusal
returns-in_default-clause-refusal c =
    let verb = c.in_ok-verb.verb.now in
    let no_payment : verb ≢ codes "payment" = λ e. grind (arith, ap length e) in
    let no_neworder : verb ≢ codes "neworder" = λ e. grind (arith, ap length e) in
    let no_delivery : verb ≢ codes "delivery" = λ e. grind (arith, ap length e) in
    let no_status : verb ≢ codes "status" = λ e. grind (arith, ap length e) in
    let no_level : verb ≢ codes "level" = λ e. grind (arith, ap length e) in
    let no_show : verb ≢ codes "show" = λ e. grind (arith, ap length e) in
    let parts = c.in_ok-verb.ensures in
    let other = no_verb c.args.date (verb ∷ words c.in_ok-verb.rest.now) no_payment no_neworder no_delivery no_status no_level no_show in
    refused_line c.args.date c.args.line.now (Err BadLine) (inr (subst (λ ws. Answers c.args.date ws (Err BadLine)) (sym parts) other))
