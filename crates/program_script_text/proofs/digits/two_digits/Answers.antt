use Rattle.std.proofs.Common.{◌≡◌, ℕ, ◌+◌, ◌-◌, ◌*◌, take, drop, ap₂, ◌∙◌, arith}
use Rattle.program_script_text.specs.declared.digits.TheConstants.{THREES}
use Rattle.program_script_text.proofs.DigitTable.{two_at, IsAscii-table}
use Rattle.program_script_text.proofs.digits.two_digits.Goals as goal

pub range-requires-clause-start_boundary : goal.range-requires-clause-start_boundary
range-requires-clause-start_boundary c =
    λ _. (omega arith, λ a b. absurd (omega (arith, IsAscii-table (c.args.number * 3 + 3 - 2))))

pub range-requires-clause-end_boundary : goal.range-requires-clause-end_boundary
range-requires-clause-end_boundary c = (omega arith, λ a b. absurd (omega (arith, IsAscii-table (c.args.number * 3 + 3))))

pub returns : goal.returns
returns c =
    let n = c.args.number in
    let width : n * 3 + 3 - (n * 3 + 3 - 2) ≡ 2 = omega arith in
    let start : n * 3 + 3 - 2 ≡ n * 3 + 1 = omega arith in
    c.range.ensures.value ∙ ap₂ (λ (w s : ℕ). take w (drop s THREES.now)) width start ∙ two_at n c.requires
