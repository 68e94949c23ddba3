use Rattle.std.proofs.Common.{◌≡◌, ◌<◌, OnErr, Result, Err, length, set, sym, subst, rules}
use Rattle.money.specs.declared.refusal.Refusal.{Refusal}
use Rattle.money.specs.declared.refusal.Refusal.TheVariants.{Device}
use Rattle.recover_opening.specs.Opening.{AreGivenBack}
use Rattle.recover_opening.proofs.GivingBack.{stops}
use Rattle.recover_opening.proofs.opening.sync_all.Goals as goal

pub returns-in_err-sync-clause-left : goal.returns-in_err-sync-clause-left
returns-in_err-sync-clause-left g c =
    let less : c.loop-n.n < length c.loop-n.disks = search rules in
    let refused : Result (Unit {0}) Refusal = Err c.in_err-sync.field-0.0 in
    let same : c.from_residual.result ≡ refused = search rules in
    subst (λ (r : Result (Unit {0}) Refusal). OnErr r (AreGivenBack g.D.Disk.is_modelled g.D.Disk.seen g.D.Disk.story g.D.Disk.failed
    Device c.args.disks.now (set c.loop-n.disks c.loop-n.n c.sync.new.self)))
    (sym same)
    (stops _ _ _ c.index-disks-n.result c.sync.new.self c.loop-n.invariant less c.in_err-sync.ensures.seen c.in_err-sync.ensures.story
    c.in_err-sync.ensures.cause.1)
