use Rattle.std.proofs.Common.{◌≡◌, ◌+◌, ◌/◌, inl, inr, rules, FitsSigned, option_copied, slice_index, to_z, of_z, refl, sym, ap, ◌∙◌, subst}
use Rattle.std.proofs.lemmas.Int.{to_z-of_z}
use Rattle.std.specs.Int.{w64}
use Rattle.tables.specs.Sizes.{Sizes, IsNumber}
use Rattle.tables.specs.Keys.{order_of}
use Rattle.tables.specs.Records.{line_at}
use Rattle.tables.specs.declared.limits.TheConstants.{MAX_ORDER_LINES}
use Rattle.totals_bounds.proofs.KeysAt.{line_is}
use Rattle.totals.specs.declared.places.Counted.{Counted}
use Rattle.totals.specs.Totals.{SumsView}
use Rattle.cells.specs.Records.{held_by}
use Rattle.totals.specs.Moves.{order_before}
use Rattle.totals.specs.Steps.{deliver_step, order_line_step, delivered_in}
use Rattle.totals.proofs.ByNumber.{order_held, counted_stepped, line_stepped}
use Rattle.totals.proofs.running.RunningSums.follow_line.Goals as goal

pub deliver-requires-clause-buyer : goal.deliver-requires-clause-buyer
deliver-requires-clause-buyer c = λ words is.
    let s = c.args.self.now.scale in
    let at = line_is s c.args.place c.requires.place in
    let same = ap (λ (w : SumsView). w.scale) c.count_in_order.ensures ∙ ap (λ (w : SumsView). w.scale) c.count_in_district.ensures in
    subst (λ (z : Sizes). IsNumber z.customers (slice_index words 0)) (sym same)
    (c.requires.buyers (order_of (line_at s c.args.place)) (at.0, at.1, at.2) words
    (sym (order_held s (held_by c.args.pen.now) c.args.counted.now.first_order c.args.place (ap (λ (q : Counted). q.first_order) c.requires.counted)) ∙ is))

pub returns-then-before-after-clause-follows : goal.returns-then-before-after-clause-follows
returns-then-before-after-clause-follows c =
    let v = c.args.self.now in
    let p = c.args.place in
    let order = p / MAX_ORDER_LINES in
    let old = option_copied c.args.old in
    let new = option_copied c.args.new in
    let was : c.delivered_amount-before.result ≡ delivered_in old = c.delivered_amount-before.ensures in
    let is : c.delivered_amount-after.result ≡ delivered_in new = c.delivered_amount-after.ensures in
    let fits : FitsSigned w64 c.delivered_amount-before.result = search rules in
    let fits' : FitsSigned w64 c.delivered_amount-after.result = search rules in
    let same : c.delivered_amount-before.result ≡ c.delivered_amount-after.result =
    sym (to_z-of_z w64 c.delivered_amount-before.result fits) ∙ ap (to_z w64) c.if-before-after.true ∙ to_z-of_z w64 c.delivered_amount-after.result fits' in
    inr (
      c.count_in_order.ensures ∙ ap (λ (w : SumsView). order_line_step w order old new) c.count_in_district.ensures
          ∙ counted_stepped v p order c.district_of_order-district.result old new refl
          (c.district_of_order-district.ensures.value ∙ ap (λ (w : SumsView). order / w.scale.orders) c.self.view_is),
      sym was ∙ same ∙ is,
    )

pub returns-clause-follows : goal.returns-clause-follows
returns-clause-follows c =
    let v = c.args.self.now in
    let p = c.args.place in
    let order = p / MAX_ORDER_LINES in
    let district = c.district_of_order-district.result in
    let held = held_by c.args.pen.now in
    let words = held (c.args.counted.now.first_order + order) in
    let old = option_copied c.args.old in
    let new = option_copied c.args.new in
    let before = to_z w64 (of_z w64 c.delivered_amount-before.result) in
    let after = to_z w64 (of_z w64 c.delivered_amount-after.result) in
    let fits : FitsSigned w64 c.delivered_amount-before.result = search rules in
    let fits' : FitsSigned w64 c.delivered_amount-after.result = search rules in
    inl (c.deliver.ensures.delivered
    ∙ ap (λ (w : SumsView). deliver_step w district words before after)
    (c.count_in_order.ensures ∙ ap (λ (w : SumsView). order_line_step w order old new) c.count_in_district.ensures)
    ∙ line_stepped v p order district old new refl
    (c.district_of_order-district.ensures.value ∙ ap (λ (w : SumsView). order / w.scale.orders) c.self.view_is)
    words (order_before v.scale held (order_of (line_at v.scale p))) before after (order_held v.scale held c.args.counted.now.first_order p (ap (λ (q : Counted). q.first_order) c.requires.counted))
    (to_z-of_z w64 c.delivered_amount-before.result fits ∙ c.delivered_amount-before.ensures)
    (to_z-of_z w64 c.delivered_amount-after.result fits' ∙ c.delivered_amount-after.ensures))
