use Rattle.std.proofs.Common.{◌≡◌, length, arith}
use Rattle.std.proofs.lemmas.List.{drop_all, take_all}
use Rattle.commit.proofs.value.Value.wide.Goals as goal

pub invariant_of-result : goal.invariant_of-result
invariant_of-result c =
    let long : length c.args.words ≡ 63 = search in
    (omega arith, long, drop_all 63 c.args.words (omega (arith, long)))

pub returns : goal.returns
returns c =
    let long : length c.args.words ≡ 63 = search in
    take_all 63 c.args.words (omega (arith, long))
