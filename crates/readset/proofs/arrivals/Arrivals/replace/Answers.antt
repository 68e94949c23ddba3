use Rattle.std.proofs.Common.{◌≡◌, ◌<◌, ◌++◌, [], ◌∷◌, length, ap, sym, subst, set, ◌∙◌, ◌==◌}
use Rattle.std.specs.Ordering.{nat_cmp}
use Rattle.std.specs.BTreeMap.{insert_entry}
use Rattle.readset.specs.Arrivals.{AreArrivals, in_order}
use Rattle.readset.proofs.Ordered.{is_listed, is_unlisted, listed_stands, put_listed, put_arrivals, unlisted_replace}
use Rattle.readset.proofs.arrivals.Arrivals.replace.Goals as goal

pub index_mut-requires : goal.index_mut-requires
index_mut-requires g c =
    let none = is_unlisted c.args.self.now.order.items c.is_empty.result (c.is_empty.ensures ∙ ap (λ n. n == 0) c.args.self.now.order.ok.0) c.if-is_empty.true in
    subst (λ n. c.args.at < n) (sym c.args.self.now.entries.ok.0) (unlisted_replace c.args.self.now.entries.items c.args.self.now.order.items c.args.number c.args.at c.args.value none c.args.self.now.sound c.requires).0

pub invariant_of-self : goal.invariant_of-self
invariant_of-self g c =
    let none = is_unlisted c.args.self.now.order.items c.is_empty.result (c.is_empty.ensures ∙ ap (λ n. n == 0) c.args.self.now.order.ok.0) c.if-is_empty.true in
    record { sound = (unlisted_replace c.args.self.now.entries.items c.args.self.now.order.items c.args.number c.args.at c.args.value none c.args.self.now.sound c.requires).2 }

pub returns-then-is_empty-clause-replaced : goal.returns-then-is_empty-clause-replaced
returns-then-is_empty-clause-replaced g c =
    let none = is_unlisted c.args.self.now.order.items c.is_empty.result (c.is_empty.ensures ∙ ap (λ n. n == 0) c.args.self.now.order.ok.0) c.if-is_empty.true in
    (unlisted_replace c.args.self.now.entries.items c.args.self.now.order.items c.args.number c.args.at c.args.value none c.args.self.now.sound c.requires).1

pub index_mut-requires-2 : goal.index_mut-requires-2
index_mut-requires-2 g c =
    let some = is_listed c.args.self.now.order.items c.is_empty.result (c.is_empty.ensures ∙ ap (λ n. n == 0) c.args.self.now.order.ok.0) c.if-is_empty.false in
    let stands = listed_stands c.args.self.now.entries.items c.args.self.now.order.items c.args.number c.args.at some c.args.self.now.sound c.requires in
    subst (λ n. c.args.at < n) (sym c.args.self.now.order.ok.0) stands.inside

pub invariant_of-self-2 : goal.invariant_of-self-2
invariant_of-self-2 g c =
    let es = c.args.self.now.entries.items in
    let order = c.args.self.now.order.items in
    let some = is_listed c.args.self.now.order.items c.is_empty.result (c.is_empty.ensures ∙ ap (λ n. n == 0) c.args.self.now.order.ok.0) c.if-is_empty.false in
    let stands = listed_stands es order c.args.number c.args.at some c.args.self.now.sound c.requires in
    let place : c.len-place.result ≡ length es = c.len-place.ensures ∙ c.args.self.now.entries.ok.0 in
    let items = stands.put c.len-place.result ∙ ap (insert_entry nat_cmp order c.args.number) place in
    record {
      sound = subst (λ es. AreArrivals es (set order c.args.at (c.args.number, c.len-place.result))) (sym c.in_ok-push.ensures.items)
          (subst (AreArrivals (es ++ (c.args.number, c.args.value) ∷ [])) (sym items) (put_arrivals es order c.args.number c.args.value some c.args.self.now.sound));
    }

pub returns-clause-replaced : goal.returns-clause-replaced
returns-clause-replaced g c =
    let es = c.args.self.now.entries.items in
    let order = c.args.self.now.order.items in
    let some = is_listed c.args.self.now.order.items c.is_empty.result (c.is_empty.ensures ∙ ap (λ n. n == 0) c.args.self.now.order.ok.0) c.if-is_empty.false in
    let stands = listed_stands es order c.args.number c.args.at some c.args.self.now.sound c.requires in
    let place : c.len-place.result ≡ length es = c.len-place.ensures ∙ c.args.self.now.entries.ok.0 in
    ap (λ es. in_order es (set order c.args.at (c.args.number, c.len-place.result))) c.in_ok-push.ensures.items
    ∙ ap (in_order (es ++ (c.args.number, c.args.value) ∷ [])) (stands.put c.len-place.result ∙ ap (insert_entry nat_cmp order c.args.number) place)
    ∙ put_listed es order c.args.number c.args.value some c.args.self.now.sound
