use Rattle.std.proofs.Common.{◌≡◌, ◌≤◌, ◌∷◌, ◌+◌, ◌-◌, inl, inr, Some, None, length, ap, arith, rules}
use Rattle.std.proofs.Math.Facts.{Fits-lt-pow, Fits-of_lt}
use Rattle.log_codec.specs.Numbers.{number_at}
use Rattle.log_scan.proofs.Stepping.{if_none, too_few, has_length, is_open, has_no_room}
use Rattle.log_scan.specs.declared.reading.TheConstants.{SHORTEST}
use Rattle.log_scan.proofs.reading.body_step.Goals as goal
use Rattle.log_scan.proofs.reading.body_step.Goals.{then-size-lt-SHORTEST-via-then-size-lt-SHORTEST, then-size-lt-SHORTEST-via-else-size-lt-SHORTEST+then-content-behind}

pub returns-in_err-size-clause-none : goal.returns-in_err-size-clause-none
returns-in_err-size-clause-none c = if_none c.from_residual-in_err-size.result (λ enough.
    let none : number_at 8 c.in_ok-gate.rest.now ≡ None = search rules in
    let front : c.args.bytes.now ≡ c.in_ok-gate.gate.now ∷ c.in_ok-gate.rest.now = search rules in
    absurd (omega (arith, enough, too_few c.in_ok-gate.rest.now none, ap length front)))

pub overflow_add-content : goal.overflow_add-content
overflow_add-content c =
    let front : c.args.bytes.now ≡ c.in_ok-gate.gate.now ∷ c.in_ok-gate.rest.now = search rules in
    let read : number_at 8 c.in_ok-gate.rest.now ≡ Some (c.in_ok-size.size, c.in_ok-size.content.now) = search rules in
    let has = has_length c.args.bytes.now c.in_ok-gate.rest.now c.in_ok-gate.gate.now c.in_ok-size.size c.in_ok-size.content.now (λ i. Fits-lt-pow (c.type_inv.bytes i)) front read in
    Fits-of_lt (omega (arith, has.long, ap length front, c.requires))

pub returns-then-size-lt-SHORTEST-clause-none : goal.returns-then-size-lt-SHORTEST-clause-none
returns-then-size-lt-SHORTEST-clause-none c =
    let front : c.args.bytes.now ≡ 1 ∷ c.in_ok-gate.rest.now = search rules in
    let read : number_at 8 c.in_ok-gate.rest.now ≡ Some (c.in_ok-size.size, c.in_ok-size.content.now) = search rules in
    let has = has_length c.args.bytes.now c.in_ok-gate.rest.now 1 c.in_ok-size.size c.in_ok-size.content.now (λ i. Fits-lt-pow (c.type_inv.bytes i)) front read in
    has_no_room c.args.bytes.now c.in_ok-gate.rest.now c.in_ok-size.size c.in_ok-size.content.now c.args.behind front has
    (elim c.then-size-lt-SHORTEST.branch [
      | then-size-lt-SHORTEST-via-then-size-lt-SHORTEST w ↦ inl (search rules)
      | then-size-lt-SHORTEST-via-else-size-lt-SHORTEST+then-content-behind w ↦ inr (search rules)
    ])

pub overflow_add-result : goal.overflow_add-result
overflow_add-result c =
    let front : c.args.bytes.now ≡ 1 ∷ c.in_ok-gate.rest.now = search rules in
    let read : number_at 8 c.in_ok-gate.rest.now ≡ Some (c.in_ok-size.size, c.in_ok-size.content.now) = search rules in
    let has = has_length c.args.bytes.now c.in_ok-gate.rest.now 1 c.in_ok-size.size c.in_ok-size.content.now (λ i. Fits-lt-pow (c.type_inv.bytes i)) front read in
    let long : SHORTEST ≤ c.in_ok-size.size = search rules in
    let within : c.in_ok-size.size - 1 ≤ length c.in_ok-size.content.now + c.args.behind = search rules in
    Fits-of_lt (omega (arith, has.long, ap length front, c.requires, long, within))

pub returns-clause-some : goal.returns-clause-some
returns-clause-some c =
    let front : c.args.bytes.now ≡ 1 ∷ c.in_ok-gate.rest.now = search rules in
    let read : number_at 8 c.in_ok-gate.rest.now ≡ Some (c.in_ok-size.size, c.in_ok-size.content.now) = search rules in
    let has = has_length c.args.bytes.now c.in_ok-gate.rest.now 1 c.in_ok-size.size c.in_ok-size.content.now (λ i. Fits-lt-pow (c.type_inv.bytes i)) front read in
    is_open c.args.bytes.now c.in_ok-gate.rest.now c.in_ok-size.size c.in_ok-size.content.now c.args.behind front has (search rules) (search rules)
