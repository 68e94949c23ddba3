use Rattle.std.proofs.Common.{◌≡◌, ℤ, Err, [], ◌∷◌, inl, inr, refl, rules}
use Rattle.std.specs.Fmt.{decimal}
use Rattle.money.specs.declared.refusal.Refusal.TheVariants.{BadLine}
use Rattle.program_script_text.specs.Amount.{amount_text}
use Rattle.program_script_text.specs.LastNames.{who_word}
use Rattle.tables.specs.declared.payment.PaymentInput.{PaymentInput}
use Rattle.tables.specs.declared.input.Input.TheVariants.{Payment}
use Rattle.program_script_text.specs.declared.request.Request.TheVariants.{Transaction}
use Rattle.program_script_text.proofs.Spaces.{text_from_words}
use Rattle.program_script_text.proofs.RequestLemmas.{no_payment, payment_words}
use Rattle.program_script_text.proofs.read.read_payment.Goals as goal

pub returns-in_err-district : goal.returns-in_err-district
returns-in_err-district c =
    let is : c.from_residual-in_err-district.result ≡ Err BadLine = search rules in
    let first_warehouse = c.in_ok-warehouse.ensures in
    rw is (no_payment c.args.date _ (λ w d cw cd who z small_w small_d small_cw small_cd has_who e.
    c.in_err-district.ensures.1 d small_d (decimal cw) (decimal cd ∷ who_word who ∷ amount_text z ∷ []) cc))

pub returns-in_err-customer_warehouse : goal.returns-in_err-customer_warehouse
returns-in_err-customer_warehouse c =
    let is : c.from_residual-in_err-customer_warehouse.result ≡ Err BadLine = search rules in
    let first_warehouse = c.in_ok-warehouse.ensures in
    let first_district = c.in_ok-district.ensures in
    rw is (no_payment c.args.date _ (λ w d cw cd who z small_w small_d small_cw small_cd has_who e.
    c.in_err-customer_warehouse.ensures.1 cw small_cw (decimal cd) (who_word who ∷ amount_text z ∷ []) cc))

pub returns-in_err-customer_district : goal.returns-in_err-customer_district
returns-in_err-customer_district c =
    let is : c.from_residual-in_err-customer_district.result ≡ Err BadLine = search rules in
    let first_warehouse = c.in_ok-warehouse.ensures in
    let first_district = c.in_ok-district.ensures in
    let first_customer_warehouse = c.in_ok-customer_warehouse.ensures in
    rw is (no_payment c.args.date _ (λ w d cw cd who z small_w small_d small_cw small_cd has_who e.
    c.in_err-customer_district.ensures.1 cd small_cd (who_word who) (amount_text z ∷ []) cc))

pub returns-in_err-who : goal.returns-in_err-who
returns-in_err-who c =
    let is : c.from_residual-in_err-who.result ≡ Err BadLine = search rules in
    let first_warehouse = c.in_ok-warehouse.ensures in
    let first_district = c.in_ok-district.ensures in
    let first_customer_warehouse = c.in_ok-customer_warehouse.ensures in
    let first_customer_district = c.in_ok-customer_district.ensures in
    rw is (no_payment c.args.date _ (λ w d cw cd who z small_w small_d small_cw small_cd has_who e.
    c.in_err-who.ensures.words.1 who has_who (amount_text z) [] cc))

pub returns-in_err-amount : goal.returns-in_err-amount
returns-in_err-amount c =
    let is : c.from_residual-in_err-amount.result ≡ Err c.in_err-amount.field-0.0 = search rules in
    let first_warehouse = c.in_ok-warehouse.ensures in
    let first_district = c.in_ok-district.ensures in
    let first_customer_warehouse = c.in_ok-customer_warehouse.ensures in
    let first_customer_district = c.in_ok-customer_district.ensures in
    let first_who = c.in_ok-who.ensures.words in
    let x : ℤ → PaymentInput = λ z. record {
      date = c.args.date;
      warehouse = c.in_ok-warehouse.warehouse;
      district = c.in_ok-district.district;
      customer_warehouse = c.in_ok-customer_warehouse.customer_warehouse;
      customer_district = c.in_ok-customer_district.customer_district;
      who = c.in_ok-who.who;
      amount = z;
    } in
    elim c.in_err-amount.ensures [
      | inl h ↦ rw (is, h.0) (
        Transaction (Payment (x h.1.0)),
        (refl, search rules, search rules, search rules, search rules, c.in_ok-who.ensures.who),
        payment_words c.args.text.now c.in_ok-warehouse.rest.now c.in_ok-district.rest.now c.in_ok-customer_warehouse.rest.now
            c.in_ok-customer_district.rest.now c.in_ok-who.rest.now (x h.1.0)
            first_warehouse first_district first_customer_warehouse first_customer_district first_who h.1.1,
        h.1.2,
      )
      | inr h ↦ rw (is, h.0) (no_payment c.args.date _ (λ w d cw cd who z small_w small_d small_cw small_cd has_who e.
          h.1 z (text_from_words c.in_ok-who.rest.now (amount_text z ∷ []) cc)))
    ]

pub returns : goal.returns
returns c =
    let x : PaymentInput = record {
      date = c.args.date;
      warehouse = c.in_ok-warehouse.warehouse;
      district = c.in_ok-district.district;
      customer_warehouse = c.in_ok-customer_warehouse.customer_warehouse;
      customer_district = c.in_ok-customer_district.customer_district;
      who = c.in_ok-who.who;
      amount = c.in_ok-amount.amount;
    } in (
      payment_words c.args.text.now c.in_ok-warehouse.rest.now c.in_ok-district.rest.now c.in_ok-customer_warehouse.rest.now
          c.in_ok-customer_district.rest.now c.in_ok-who.rest.now x c.in_ok-warehouse.ensures c.in_ok-district.ensures
          c.in_ok-customer_warehouse.ensures c.in_ok-customer_district.ensures c.in_ok-who.ensures.words c.in_ok-amount.ensures.0,
      (refl, search rules, search rules, search rules, search rules, c.in_ok-who.ensures.who),
      c.in_ok-amount.ensures.1,
    )
