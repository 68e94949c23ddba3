use Rattle.std.proofs.Common.{◌+◌, ◌-◌, ◌*◌, ◌<◌, mul_comm, sym, ap, ◌∙◌, subst, arith}
use Rattle.std.proofs.lemmas.Nat.{mul-add-lt}
use Rattle.totals.proofs.places.place_of_buyer.Goals as goal

pub place-requires-clause-limit : goal.place-requires-clause-limit
place-requires-clause-limit c =
    let s = c.args.scale.now in
    let rows = s.warehouses * s.districts in
    let width = c.customers-customers.result in
    let column : c.args.customer - 1 < width = omega (arith, c.requires.customer.0, c.requires.customer.1, c.customers-customers.ensures.value) in
    subst (λ q. c.args.district * width + (c.args.customer - 1) < q)
    (mul_comm width rows ∙ ap (λ q. rows * q) c.customers-customers.ensures.value ∙ sym c.size-size.ensures.value)
    (mul-add-lt c.args.district width (c.args.customer - 1) rows c.requires.district column)
