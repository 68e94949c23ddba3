use Rattle.std.proofs.Common.{ap, sym, subst, ◌∙◌, ◌==◌}
use Rattle.readset.specs.Arrivals.{AreArrivals, in_order}
use Rattle.readset.proofs.Ordered.{is_unlisted, unlisted_add}
use Rattle.readset.proofs.arrivals.Arrivals.add.Goals as goal

pub invariant_of-self : goal.invariant_of-self
invariant_of-self g c =
    let none = is_unlisted c.args.self.now.order.items c.is_empty.result (c.is_empty.ensures ∙ ap (λ n. n == 0) c.args.self.now.order.ok.0) c.if-not-is_empty.false in
    record {
      sound = subst (λ es. AreArrivals es c.args.self.now.order.items) (sym c.push_reserved.ensures.items)
          (unlisted_add c.args.self.now.entries.items c.args.self.now.order.items c.args.number c.args.at c.args.value none c.args.self.now.sound c.requires.place
          (c.requires.space.unlisted none)).1;
    }

pub returns : goal.returns
returns g c =
    let none = is_unlisted c.args.self.now.order.items c.is_empty.result (c.is_empty.ensures ∙ ap (λ n. n == 0) c.args.self.now.order.ok.0) c.if-not-is_empty.false in
    ap (λ es. in_order es c.args.self.now.order.items) c.push_reserved.ensures.items
    ∙ (unlisted_add c.args.self.now.entries.items c.args.self.now.order.items c.args.number c.args.at c.args.value none c.args.self.now.sound c.requires.place
    (c.requires.space.unlisted none)).0
