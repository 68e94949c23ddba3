use Rattle.delivery.proofs.order.credit_buyer.Goals as goal

pub returns-clause-credited : goal.returns-clause-credited
returns-clause-credited g c = λ t h. (c.in_ok-customer.customer, c.in_ok-customer.ensures.row t h, c.credited.ensures)
