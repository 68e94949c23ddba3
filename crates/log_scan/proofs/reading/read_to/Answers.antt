use Rattle.std.proofs.Common.{◌≡◌, ◌<◌, ◌≤◌, ◌-◌, ◌++◌, ℕ, List, length, take, drop, ap, ◌∙◌, subst, arith, rules, append_assoc, length-append}
use Rattle.log_scan.proofs.Fronts.{longer_front}
use Rattle.log_scan.proofs.reading.read_to.Goals as goal

pub loop-bytes-preserved : goal.loop-bytes-preserved
loop-bytes-preserved g c =
    let inv = c.loop-bytes.invariant in
    let read = c.in_ok-read_more.ensures.more in
    let before : List ℕ = c.loop-bytes.bytes.items in
    let now : List ℕ = c.read_more.new.bytes.items in
    let is : now ≡ before ++ read.0 = read.1 in
    let step : c.min-step.result ≤ c.args.end - length before = search rules in
    let less : length before < c.args.end = search rules in (
      (inv.0.0 ++ read.0, is ∙ ap (λ (l : List ℕ). l ++ read.0) inv.0.1 ∙ append_assoc c.args.bytes.now.items inv.0.0 read.0),
      (λ most old end. omega (arith, end, step, less, ap length is, length-append before read.0, read.2)),
      (λ modelled front. longer_front before read.0 (g.D.Disk.seen c.args.disk.now) now c.min-step.result (inv.2 modelled front)
          (subst (λ (l : List ℕ). read.0 ≡ take c.min-step.result (drop (length before) l)) (inv.4.seen modelled) (read.3 modelled)) read.2 is),
      search rules,
      search rules,
    )
