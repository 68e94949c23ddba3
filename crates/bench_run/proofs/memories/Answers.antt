use Rattle.std.proofs.Common.{◌≡◌, All, [], ap, rules, subst, sym, arith}
use Rattle.std.proofs.lemmas.List.Elements.{All-push}
use Rattle.log_disk.specs.declared.memory.Memory.{Memory}
use Rattle.log_disk.specs.Memory.{replayed_calls}
use Rattle.run_threads.specs.declared.pace.Paced.{Paced}
use Rattle.bench_run.specs.declared.gauge.Gauge.{Gauge}
use Rattle.bench_run.proofs.memories.Goals as goal

pub loop-logger-preserved : goal.loop-logger-preserved
loop-logger-preserved g c = (
  search rules,
  subst (All (λ (slot : Paced Memory (Gauge g.row.C.Denot)). (replayed_calls slot.inner.calls).bytes ≡ [])) (sym c.in_ok-push.ensures.items)
      (All-push (λ (slot : Paced Memory (Gauge g.row.C.Denot)). (replayed_calls slot.inner.calls).bytes ≡ []) _ _ c.loop-logger.invariant.1 (ap (λ m. (replayed_calls m.calls).bytes) c.new.ensures)),
)
