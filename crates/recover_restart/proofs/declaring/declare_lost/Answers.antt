use Rattle.std.proofs.Common.{rules, ◌≡◌, ◌+◌, ◌<◌, OnErr, Result, sym, subst}
use Rattle.recover_restart.proofs.Going.{may_declare}
use Rattle.money.specs.declared.refusal.Refusal.{Refusal}
use Rattle.recover_restart.specs.Declaring.{AreDeclared, device_failure}
use Rattle.recover_restart.proofs.Counting.{none_failed}
use Rattle.recover_restart.proofs.Losing.{have_lost, have_moved}
use Rattle.recover_restart.proofs.declaring.declare_lost.Goals as goal

pub declare_all-requires : goal.declare_all-requires
declare_all-requires g c =
    let less : c.args.durable < c.args.top = search rules in
    λ l d within. may_declare c.requires less l d within

pub returns-in_ok-declare_all-clause-lost : goal.returns-in_ok-declare_all-clause-lost
returns-in_ok-declare_all-clause-lost g c = λ modelled.
    let less : c.args.durable < c.args.top = search rules in
    have_lost modelled c.args.files.now c.declare_all.new.files less c.in_ok-declare_all.ensures.declared

pub returns-in_ok-declare_all-clause-moved : goal.returns-in_ok-declare_all-clause-moved
returns-in_ok-declare_all-clause-moved g c =
    let less : c.args.durable < c.args.top = search rules in
    have_moved c.args.files.now c.declare_all.new.files less c.in_ok-declare_all.ensures.declared

pub returns-in_ok-declare_all-clause-none_failed : goal.returns-in_ok-declare_all-clause-none_failed
returns-in_ok-declare_all-clause-none_failed g c =
    none_failed c.args.files.now c.declare_all.new.files c.in_ok-declare_all.ensures.declared

pub returns-in_err-declare_all-clause-stopped : goal.returns-in_err-declare_all-clause-stopped
returns-in_err-declare_all-clause-stopped g c =
    let same : c.declare_all.result ≡ device_failure = search rules in
    let given : c.from_residual.result ≡ device_failure = search rules in
    subst (λ (r : Result (Unit {0}) Refusal). OnErr r ((c.args.durable < c.args.top) × AreDeclared g.D.Disk.is_modelled g.D.Disk.seen g.D.Disk.story
    g.D.Disk.failed (c.args.durable + 1) c.args.top device_failure c.args.files.now c.declare_all.new.files))
    (sym given) (
      search rules,
      subst (λ (r : Result (Unit {0}) Refusal). AreDeclared g.D.Disk.is_modelled g.D.Disk.seen g.D.Disk.story g.D.Disk.failed
          (c.args.durable + 1) c.args.top r c.args.files.now c.declare_all.new.files) same c.declare_all.ensures.declared,
    )
