-- OL_AMOUNT of a line stays within its range.
use Rattle.std.proofs.Common.{◌≡◌, ℕ, ◌*◌, ◌≤◌, ℤ, pos, negsuc, ◌*ℤ◌, ◌≤ℤ◌, arith, mul-le-mul}
use Rattle.std.proofs.Math.IntN.{pos-*ℤ-pos}
use Rattle.std.proofs.lemmas.Int.{ints}
use Rattle.tables.specs.declared.limits.TheConstants.{MAX_PRICE, MAX_QUANTITY}

-- a quantity times a price is at most 1,000.00
pub amount_in_range : (q : ℕ) (z : ℤ) → q ≤ MAX_QUANTITY → pos 0 ≤ℤ z → z ≤ℤ MAX_PRICE → (pos 0 ≤ℤ (pos q *ℤ z)) × ((pos q *ℤ z) ≤ℤ pos 100000)
amount_in_range q (pos p) few low high =
    let cheap : p ≤ 10000 = omega (arith, ints) in
    let most : q * p ≤ 10 * 10000 = mul-le-mul few cheap in
    let is : pos q *ℤ pos p ≡ pos (q * p) = pos-*ℤ-pos q p in
    (omega (arith, ints), omega (arith, ints))
amount_in_range q (negsuc p) few low high = absurd (omega (arith, ints))
