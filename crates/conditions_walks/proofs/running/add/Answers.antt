use Rattle.std.proofs.Common.{◌≡◌, ℤ, pos, ◌+ℤ◌, Option, arith, ap, sym, ◌∙◌, unwrap_or, rules}
use Rattle.std.proofs.lemmas.Int.{ints}
use mir.Syntax.{w128}
use mir.Val.{to_z, of_z}
use Rattle.std.specs.BTreeMap.Entry.{map_with_value}
use Rattle.conditions_walks.specs.Amounts.{amount_at}
use Rattle.conditions_walks.proofs.Added.{added}
use Rattle.conditions_walks.proofs.running.add.Goals as goal

-- the entry's sum is written
pub returns : goal.returns
returns g c =
    let was : c.or_insert.result.now ≡ amount_at g.G.Ord.cmp c.args.sums.now c.args.group =
    c.or_insert.ensures.value ∙ ap (λ (w : Option ℤ). unwrap_or w (pos 0)) c.in_ok-sums.ensures.value in
    let sum : ℤ = to_z w128 (of_z w128 (to_z w128 (of_z w128 c.or_insert.result.now) +ℤ to_z w128 (of_z w128 c.args.amount))) in
    let is : sum ≡ amount_at g.G.Ord.cmp c.args.sums.now c.args.group +ℤ c.args.amount = omega (arith, ints, was, c.requires.low, c.requires.high) in
    let same = sym c.in_ok-sums.ensures.same_map in
    λ k. let made = added g.met.G.Ord.total c.args.sums.now (map_with_value c.in_ok-sums.field-0 sum) c.args.group c.args.amount sum
    (c.in_ok-sums.ensures.update.0 sum) is k in
    search (rules, made, same)
