use Rattle.std.proofs.Common.{sym, ap, ◌∙◌, subst, rules}
use Rattle.annals.specs.Passes.{AnnalsView, PassView}
use Rattle.annals.specs.Rule.{begun_claim}
use Rattle.book.specs.declared.entry.Entry.{Entry}
use Rattle.logger.specs.Logger.{local_mark}
use Rattle.recover_opening.specs.Opening.{file_on}
use Rattle.lane_logger.specs.Lane.{KeepsLane}
use Rattle.lane_logger.proofs.Turned.{begins}
use Rattle.lane_logger.proofs.lane.LaneLogger.new.Goals as goal

pub invariant_of-result : goal.invariant_of-result
invariant_of-result g c = (
  search rules,
  search rules,
  λ modelled.
      let file = file_on g.D.Disk.seen g.D.Disk.story c.args.logger.file in
      let local = local_mark c.args.logger.seat in
      subst (KeepsLane g.K.Run.run g.K.LoggedRun.found file local)
      (sym (ap (λ (p : PassView Entry). p.claim) c.begin.ensures ∙ ap (λ (a : AnnalsView). begun_claim a.base) c.annals.ensures.value))
      (begins g.K.Run.run g.K.LoggedRun.found file local g.K.Run.run.annals.base (c.requires.named modelled) c.annals.ensures.base c.file.ensures.own.local),
)
