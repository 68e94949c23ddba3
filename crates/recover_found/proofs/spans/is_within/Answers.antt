use Rattle.std.proofs.Common.{rules, arith, ◌∙◌, false, ◌≡◌}
use Rattle.std.specs.Prelude.{nat_lt}
use Rattle.std.proofs.lemmas.Bool.Decides.{nat_tests}
use Rattle.std.proofs.lemmas.List.Sorted.{IsPartitionPoint-from_clause, IsPartitionedBy-leb}
use Rattle.recover_found.specs.declared.spans.Span.{Span}
use Rattle.recover_found.proofs.Within.{begins, none_begins, last_decides}
use Rattle.recover_found.proofs.spans.is_within.Goals as goal

abbrev none : Span
none = record { low = 0; high = 0 }

pub returns-then-behind-gt0 : goal.returns-then-behind-gt0
returns-then-behind-gt0 c =
    let point = IsPartitionPoint-from_clause (begins c.args.epoch) c.args.spans.now c.partition_point-behind.result
    c.partition_point-behind.ensures.partitioned (IsPartitionedBy-leb (λ (s : Span). s.low) c.args.spans.now c.args.epoch c.requires.lows)
    (λ a r q k. search rules) in
    last_decides c.args.epoch c.args.spans.now c.partition_point-behind.result none c.requires
    c.partition_point-behind.ensures.bound point c.if-behind-gt0.true

pub returns-else-behind-gt0 : goal.returns-else-behind-gt0
returns-else-behind-gt0 c =
    let point = IsPartitionPoint-from_clause (begins c.args.epoch) c.args.spans.now c.partition_point-behind.result
    c.partition_point-behind.ensures.partitioned (IsPartitionedBy-leb (λ (s : Span). s.low) c.args.spans.now c.args.epoch c.requires.lows)
    (λ a r q k. search rules) in
    let low : nat_lt 0 c.partition_point-behind.result ≡ false = grind (arith, nat_tests, c.if-behind-gt0.false) in
    low ∙ none_begins c.args.epoch c.args.spans.now c.partition_point-behind.result none c.requires
    c.partition_point-behind.ensures.bound point (omega (arith, c.if-behind-gt0.false))
