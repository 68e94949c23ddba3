use Rattle.std.proofs.Common.{◌^◌, ℤ, ◌+ℤ◌, sym, ap, ◌∙◌, arith}
use Rattle.std.proofs.lemmas.Int.{ints}
use mir.Syntax.{w128}
use mir.Val.{to_z, of_z}
use Rattle.std.specs.Ordering.{eq_by_cmp}
use Rattle.conditions_walks.specs.Amounts.{amount_at, share}
use Rattle.conditions_walks.specs.Running.{IsWithin}
use Rattle.conditions_walks.proofs.Added.{held_more, within_more}
use Rattle.conditions_walks.proofs.running.Running.add.Goals as goal

pub plus-self-requires : goal.plus-self-requires
plus-self-requires g c =
    let held : IsWithin g.G.Ord.cmp c.hold.new.self (2 ^ 63) = c.in_ok-hold.ensures.within (2 ^ 63) c.requires in
    record { low = omega (arith, ints, held.held_low, c.from.ensures); high = omega (arith, ints, held.held_high, c.from.ensures) }

pub returns-clause-sums : goal.returns-clause-sums
returns-clause-sums g c = λ k.
    let b = eq_by_cmp g.G.Ord.cmp c.args.group k in
    let rest = amount_at g.G.Ord.cmp c.hold.new.self.sums k in
    let held : ℤ = to_z w128 (of_z w128 c.plus-self.result) in
    ap (λ t. rest +ℤ t) (c.in_ok-hold.ensures.group k held)
    ∙ held_more b rest c.hold.new.self.held c.args.amount held (omega (arith, ints, c.plus-self.ensures, c.from.ensures))
    ∙ ap (λ t. (rest +ℤ t) +ℤ share b c.args.amount) (sym (c.in_ok-hold.ensures.group k c.hold.new.self.held))
    ∙ ap (λ t. t +ℤ share b c.args.amount) (c.in_ok-hold.ensures.sums k)

pub returns-clause-within : goal.returns-clause-within
returns-clause-within g c = λ n before.
    let after : IsWithin g.G.Ord.cmp c.hold.new.self n = c.in_ok-hold.ensures.within n before in
    within_more g.G.Ord.cmp c.args.self.now (record {
      sums = c.hold.new.self.sums;
      group = c.hold.new.self.group;
      held = to_z w128 (of_z w128 c.plus-self.result);
    }) n (λ k. eq_by_cmp g.G.Ord.cmp c.args.group k) c.args.amount (omega (arith, ints)) (omega (arith, ints)) before
    (returns-clause-sums g c)
    (omega (arith, ints, after.held_low, c.plus-self.ensures, c.from.ensures))
    (omega (arith, ints, after.held_high, c.plus-self.ensures, c.from.ensures))
