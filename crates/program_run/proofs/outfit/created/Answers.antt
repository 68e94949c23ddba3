use Rattle.std.proofs.Common.{◌≡◌, ◌∙◌, ◌+◌, ◌∷◌, All, [], ap, arith, length, map, rules, subst, sym}
use Rattle.std.specs.Vec.Iter.{into_iter_items}
use Rattle.std.proofs.lemmas.List.{length-append, map_push}
use Rattle.std.proofs.lemmas.List.Elements.{All-tail}
use Rattle.log_header.specs.Header.{HeaderView}
use Rattle.logfile.specs.Standing.{LogFileView}
use Rattle.run_threads.specs.declared.pace.Paced.{Paced}
use Rattle.program_run.specs.Outfit.{IsLogOf}
use Rattle.program_run.proofs.Seats.{AreFirstLogs, are_all_logs, log_more, no_logs}
use Rattle.program_run.proofs.outfit.created.Goals as goal

pub loop-slot-init : goal.loop-slot-init
loop-slot-init g c =
    let b = c.into_iter-slot-iterator.ensures.into_iter_gives in
    let loggers : c.len-loggers.result ≡ length c.args.slots.items = search rules in
    let none : length c.new-logs.result.items ≡ 0 = ap length c.new-logs.ensures.items in
    let files = map (λ (log : Paced (LogFileView g.row.D.Denot) g.row.P.Denot). log.inner) in (
      b.1 ∙ c.args.slots.ok.0 ∙ ap length (sym b.0),
      omega (arith, none, ap length b.0, loggers),
      loggers,
      subst (λ n. AreFirstLogs n c.len-loggers.result 0 (files c.new-logs.result.items)) (sym none)
          (no_logs (files c.new-logs.result.items) (ap files c.new-logs.ensures.items)),
      λ modelled. subst (All (λ (slot : Paced g.row.D.Denot g.row.P.Denot). g.D.Disk.seen slot.inner ≡ [])) (sym b.0) (c.requires.empty modelled),
    )

pub loop-slot-preserved : goal.loop-slot-preserved
loop-slot-preserved g c =
    let i = c.loop-slot.invariant in
    let next = c.in-Some.ensures.steps.0 in
    let log = c.in_ok-new_log.field-0 in
    let file = λ (x : Paced (LogFileView g.row.D.Denot) g.row.P.Denot). x.inner in
    let pushed = c.in_ok-push.ensures.items in
    let count : length c.push.new.self.items ≡ length c.loop-slot.logs.items + 1 =
    ap length pushed ∙ length-append c.loop-slot.logs.items (log ∷ []) in
    let logger : c.len.result ≡ length c.loop-slot.logs.items = search rules in
    let own = c.in_ok-new_log.ensures.own in
    let header = c.new-header.ensures.value in
    let is : IsLogOf (length c.loop-slot.logs.items) c.len-loggers.result 0 log.inner = record {
      logger_is = ap (λ (h : HeaderView). h.logger) own.0 ∙ ap (λ (h : HeaderView). h.logger) header ∙ logger;
      loggers_are = ap (λ (h : HeaderView). h.loggers) own.0 ∙ ap (λ (h : HeaderView). h.loggers) header;
      mark_is = own.1;
    } in
    let first = log_more (length c.loop-slot.logs.items) (map file c.loop-slot.logs.items) (map file c.push.new.self.items) log.inner
    (ap (map file) pushed ∙ map_push file c.loop-slot.logs.items log) is i.3 in (
      omega (arith, c.in-Some.ensures.steps.1, i.0, ap length next),
      omega (arith, i.1, count, ap length next),
      i.2,
      subst (λ n. AreFirstLogs n c.len-loggers.result 0 (map file c.push.new.self.items)) (sym count) first,
      λ modelled. All-tail (λ (slot : Paced g.row.D.Denot g.row.P.Denot). g.D.Disk.seen slot.inner ≡ []) c.in-Some.slot (into_iter_items c.next.new.self)
          (subst (All (λ (slot : Paced g.row.D.Denot g.row.P.Denot). g.D.Disk.seen slot.inner ≡ [])) next (i.4 modelled)),
    )

pub returns-clause-logs : goal.returns-clause-logs
returns-clause-logs g c =
    let i = c.loop-slot.invariant in
    let files = map (λ (log : Paced (LogFileView g.row.D.Denot) g.row.P.Denot). log.inner) c.loop-slot.logs.items in
    let all : length c.loop-slot.logs.items ≡ length c.args.slots.items = omega (arith, i.0, i.1, i.2, c.in-None.ensures.steps.0) in
    are_all_logs all (subst (λ n. AreFirstLogs (length c.loop-slot.logs.items) n 0 files) i.2 i.3)
