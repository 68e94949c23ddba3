use Rattle.std.proofs.Common.{cond, sym, ap, ◌∙◌}
use Rattle.std.specs.Ordering.{eq_by_cmp}
use Rattle.tables.specs.Keys.{district_cmp}
use Rattle.conditions.specs.Numbers.{numbers_at, gathered_at}
use Rattle.conditions.proofs.Numbered.{held_more}
use Rattle.conditions.proofs.numbers.add_number.Goals as goal

pub returns : goal.returns
returns c = λ k.
    let here = eq_by_cmp district_cmp c.args.district k in
    let rest = numbers_at c.hold.new.gathered.numbers k in
    c.in_ok-hold.ensures.district k c.with-gathered.result
    ∙ ap (λ s. cond here s rest) c.with-gathered.ensures
    ∙ held_more here c.hold.new.gathered.held rest (gathered_at c.args.gathered.now k) c.args.order
    (sym (c.in_ok-hold.ensures.district k c.hold.new.gathered.held) ∙ c.in_ok-hold.ensures.stays k)
