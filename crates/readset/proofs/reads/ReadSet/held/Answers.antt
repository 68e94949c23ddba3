use Rattle.std.proofs.Common.{◌≡◌, Option, Some, None, Bor, sym}
use Rattle.std.specs.Prelude.{IfSome, IfNone}
use Rattle.std.specs.Option.{option_copied}
use Rattle.cells.specs.declared.cells.Version.{Version}
use Rattle.readset.specs.Reads.{IsNarrowVersion, IsWideVersion, as_version, held}
use Rattle.readset.specs.Arrived.{arrived}
use Rattle.readset.proofs.Sets.{low_found, high_of}
use Rattle.readset.proofs.TwoKinds.{find}
use Rattle.readset.proofs.reads.ReadSet.held.Goals as goal

pub returns-clause-some : goal.returns-clause-some
returns-clause-some c = told c.value_at.result c.value_at.ensures
  where
    told : (r : Option (Bor Version)) → option_copied r ≡ find c.args.number (arrived c.self.inside.versions) → IfSome r (λ v. held c.args.self.now c.args.number ≡ Some v.now)
    told None e = tt
    told (Some v) e = low_found as_version IsNarrowVersion IsWideVersion (arrived c.self.inside.versions) c.self.inside.wide.entries.items c.args.self.now c.self.view_is
        c.args.number v.now (sym e)

pub returns-clause-none : goal.returns-clause-none
returns-clause-none c = told c.value_at.result c.value_at.ensures
  where
    told : (r : Option (Bor Version)) → option_copied r ≡ find c.args.number (arrived c.self.inside.versions)
        → IfNone r ((v : Version) → held c.args.self.now c.args.number ≡ Some v → IsWideVersion v)
    told None e = high_of as_version IsNarrowVersion IsWideVersion (arrived c.self.inside.versions) c.self.inside.wide.entries.items c.args.self.now c.self.view_is
        c.args.number c.self.invariant (sym e)
    told (Some v) e = tt
