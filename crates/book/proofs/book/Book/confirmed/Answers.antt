use Rattle.std.proofs.Common.{inr, subst}
use Rattle.readset.specs.Refused.{IsRefusal}
use Rattle.book.proofs.RefusedThere.{orders_full, as_refused}
use Rattle.book.proofs.book.Book.confirmed.Goals as goal

pub returns-else-has_order_number-clause-there : goal.returns-else-has_order_number-clause-there
returns-else-has_order_number-clause-there g c =
    let t0 = g.K.Run.run.first in
    let h = c.requires.refusal in
    inr (inr (orders_full g.K.Run.run.past t0 c.args.self.now.history c.args.input.now h.0 h.1.0
    (subst (IsRefusal t0 c.args.input.now h.0 h.1.0) c.in-OrdersFull.is h.1.1) c.if-has_order_number.ensures.number))

pub returns-in_default-clause-there : goal.returns-in_default-clause-there
returns-in_default-clause-there g c =
    as_refused g.K.Run.run.past g.K.Run.run.first c.args.self.now.history c.args.input.now c.requires.refusal.0 c.requires.refusal.1.0 c.args.refusal
    c.requires.refusal.1.1
    c.in_default.not-OrdersFull
