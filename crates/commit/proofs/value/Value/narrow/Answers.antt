use Rattle.std.proofs.Common.{◌≡◌, ℕ, List, length, replicate, arith, ◌∙◌, take_at, drop_at, length-append}
use Rattle.commit.proofs.value.Value.narrow.Goals as goal

pub invariant_of-result : goal.invariant_of-result
invariant_of-result c =
    let copied = c.copy_from_slice.new.self in
    let zeros : List ℕ = replicate 56 0 in
    let long : length copied ≡ 7 = c.copy_from_slice.ensures.len in
    (omega arith, omega (arith, long, length-append copied zeros), drop_at copied zeros 7 long)

pub returns : goal.returns
returns c =
    let copied = c.copy_from_slice in
    let zeros : List ℕ = replicate 56 0 in
    take_at copied.new.self zeros 7 copied.ensures.len ∙ copied.ensures.after
