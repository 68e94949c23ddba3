use Rattle.std.proofs.Common.{rules, ◌≡◌, sym, subst, Result, set, length, ◌<◌}
use Rattle.money.specs.declared.refusal.Refusal.{Refusal}
use Rattle.recover_restart.specs.Declaring.{AreDeclared}
use Rattle.recover_restart.proofs.Fronts.{refused, goes_on, stops, ends}
use Rattle.recover_restart.proofs.declaring.declare_all.Goals as goal

pub returns-in_err-append_void-clause-declared : goal.returns-in_err-append_void-clause-declared
returns-in_err-append_void-clause-declared g c =
    let less : c.loop-n.n < length c.loop-n.files = search rules in
    let stopped = stops c.index-files-n.result c.append_void.new.self less c.loop-n.invariant c.in_err-append_void.field-0.0 c.in_err-append_void.ensures.appends in
    let same : c.from_residual.result ≡ refused c.in_err-append_void.field-0.0 = search rules in
    subst (λ (r : Result (Unit {0}) Refusal). AreDeclared g.D.Disk.is_modelled g.D.Disk.seen g.D.Disk.story g.D.Disk.failed
    c.args.low c.args.high r c.args.files.now (set c.loop-n.files c.loop-n.n c.append_void.new.self))
    (sym same) stopped

pub loop-n-preserved : goal.loop-n-preserved
loop-n-preserved g c =
    let less : c.loop-n.n < length c.loop-n.files = search rules in
    goes_on c.index-files-n.result c.append_void.new.self less c.loop-n.invariant c.in_ok-append_void.ensures.appends

pub returns-clause-declared : goal.returns-clause-declared
returns-clause-declared g c = ends (search rules) c.loop-n.invariant
