use Rattle.std.proofs.Common.{◌≡◌, false, None, refl, sym, ap, ◌∙◌}
use Rattle.tables.specs.Database.{Database}
use Rattle.tables.specs.Payment.{payer, has_bad_credit}
use Rattle.tables.specs.declared.keys.CustomerKey.{CustomerKey}
use Rattle.payment.proofs.Changed.{no_text, same_credit}
use Rattle.payment.proofs.text.tell.Goals as goal

pub returns-then-not-has_bad_credit-clause-tells : goal.returns-then-not-has_bad_credit-clause-tells
returns-then-not-has_bad_credit-clause-tells g c =
    let t0 = g.K.Start.tables in
    let x = c.args.payment.now in
    let id = c.args.customer in
    let good : has_bad_credit t0 (payer x id) ≡ false = ap (λ (q : Database × CustomerKey). has_bad_credit q.0 q.1)
    (λ i. (sym c.population.ensures i, sym c.payer-key.ensures i)) ∙ sym c.has_bad_credit.ensures ∙ c.if-not-has_bad_credit.true in
    record { text = None; writes = refl; right = λ t h. no_text t x id (same_credit t0 t h.of_population (payer x id) ∙ good) }
