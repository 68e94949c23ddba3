use Rattle.std.proofs.Common.{[], ◌<◌, ◌∙◌, sym, subst, rules, length, List, ℕ}
use Rattle.std.proofs.lemmas.List.{get_or-map}
use Rattle.program_recovery.specs.Flaws.{IsVersionOf}
use Rattle.program_recovery.proofs.TextsOnDisks.{version_on}
use Rattle.program_recovery.proofs.damage.first_version.Goals as goal

pub returns-clause-version : goal.returns-clause-version
returns-clause-version g c =
    let read = c.in_ok-bytes.ensures.text in
    let some : 0 < length c.args.disks.now = search rules in (
      read.0,
      (λ modelled. read.2 modelled ∙ sym (get_or-map g.D.Disk.seen c.args.disks.now 0 c.index-disks-0.result [] some)),
      version_on c.in_ok-bytes.bytes.items read.0 c.version_of-2.result read.3
          (subst (λ (l : List ℕ). IsVersionOf l c.version_of-2.result) c.deref.ensures.value c.version_of-2.ensures.version),
    )
