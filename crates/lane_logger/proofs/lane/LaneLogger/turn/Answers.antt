use Rattle.std.proofs.Common.{sym, ap, ◌∙◌, subst, rules}
use Rattle.annals.specs.Claims.{AreOfOne}
use Rattle.annals.specs.Passes.{PassView}
use Rattle.book.specs.Dates.{date_of, TakenView, IsTakenOf}
use Rattle.book.specs.declared.entry.Entry.{Entry}
use Rattle.logfile.specs.Standing.{LogFileView}
use Rattle.logger.specs.Logger.{local_mark}
use Rattle.recover_opening.specs.Opening.{file_on}
use Rattle.lane_logger.specs.Lane.{KeepsLane}
use Rattle.lane_logger.proofs.Turned.{turned}
use Rattle.lane_logger.proofs.lane.LaneLogger.turn.Goals as goal

pub invariant_of-self : goal.invariant_of-self
invariant_of-self g c = (
  search rules,
  search rules,
  λ modelled.
      let reached = c.has_reached.ensures.0 c.if-has_reached.true in
      let shown = ap (λ (p : PassView Entry). p.claim) c.share-pass.ensures.pass in
      let one = subst (AreOfOne date_of c.self.inside.pass.claim) shown c.compare.ensures.agree in
      let of = subst (IsTakenOf c.batch-batch.result.now) (ap (λ (t : TakenView). t.claim) c.share-pass.ensures.same) c.batch-batch.ensures.of in
      subst (KeepsLane g.K.Run.run g.K.LoggedRun.found (file_on g.D.Disk.seen g.D.Disk.story c.turn-result.new.self.file) (local_mark c.turn-result.new.self.seat))
      (sym (ap (λ (p : PassView Entry). p.claim) c.compare.ensures.same.1 ∙ shown))
      (turned g.D.Disk.is_modelled g.D.Disk.seen g.D.Disk.story g.D.Disk.failed c.self.inside.logger.file c.turn-result.new.self.file c.batch-batch.result.now
      g.K.Run.run g.K.LoggedRun.found (local_mark c.self.inside.logger.seat) (local_mark c.turn-result.new.self.seat) c.self.inside.pass.claim
      c.args.taken.now.claim (c.self.invariant.2 modelled) (sym (c.has_failed-failed.ensures ∙ ap (λ (f : LogFileView g.row.D.Denot). f.failed) c.file.ensures.file) ∙ reached.0) c.entries.ensures.lawful (search rules) of one
      c.batch-batch.ensures.run.0 c.file-2.ensures.own.local modelled c.turn-result.result c.turn-result.ensures.appends reached.1),
)
