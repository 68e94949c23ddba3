use Rattle.std.proofs.Common.{◌≡◌, length, ◌++◌, [], ◌∷◌, sym, ap, ◌∙◌, subst}
use Rattle.std.specs.Ordering.{nat_cmp}
use Rattle.std.specs.BTreeMap.{insert_entry}
use Rattle.readset.specs.Arrivals.{AreArrivals, in_order}
use Rattle.readset.proofs.Ordered.{listed_goes, put_listed, put_arrivals}
use Rattle.readset.proofs.arrivals.Arrivals.add_listed.Goals as goal

pub put_place-requires-clause-at : goal.put_place-requires-clause-at
put_place-requires-clause-at g c =
    let goes = listed_goes c.args.self.now.entries.items c.args.self.now.order.items c.args.number c.args.at c.requires.listed c.args.self.now.sound c.requires.place in
    goes.inside

pub invariant_of-self : goal.invariant_of-self
invariant_of-self g c =
    let es = c.args.self.now.entries.items in
    let order = c.args.self.now.order.items in
    let goes = listed_goes es order c.args.number c.args.at c.requires.listed c.args.self.now.sound c.requires.place in
    let place : c.len-place.result ≡ length es = c.len-place.ensures ∙ c.args.self.now.entries.ok.0 in
    let items = c.put_place.ensures ∙ goes.put c.len-place.result ∙ ap (insert_entry nat_cmp order c.args.number) place in
    record {
      sound = subst (λ es. AreArrivals es c.put_place.new.order.items) (sym c.push_reserved.ensures.items)
          (subst (AreArrivals (es ++ (c.args.number, c.args.value) ∷ [])) (sym items) (put_arrivals es order c.args.number c.args.value c.requires.listed c.args.self.now.sound));
    }

pub returns : goal.returns
returns g c =
    let es = c.args.self.now.entries.items in
    let order = c.args.self.now.order.items in
    let goes = listed_goes es order c.args.number c.args.at c.requires.listed c.args.self.now.sound c.requires.place in
    let place : c.len-place.result ≡ length es = c.len-place.ensures ∙ c.args.self.now.entries.ok.0 in
    ap (λ es. in_order es c.put_place.new.order.items) c.push_reserved.ensures.items
    ∙ ap (in_order (es ++ (c.args.number, c.args.value) ∷ [])) (c.put_place.ensures ∙ goes.put c.len-place.result ∙ ap (insert_entry nat_cmp order c.args.number) place)
    ∙ put_listed es order c.args.number c.args.value c.requires.listed c.args.self.now.sound
