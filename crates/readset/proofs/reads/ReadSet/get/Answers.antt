use Rattle.std.proofs.Common.{◌≡◌, Some, None, Ok, IfOk, OnErr, ◌++◌, ℕ, ◌<◌, map, sym, ap, ◌∙◌, refl, arith}
use Rattle.std.specs.Ordering.{nat_cmp}
use Rattle.std.specs.BTreeMap.{insert_entry}
use Rattle.std.proofs.lemmas.Option.{same_Some}
use Rattle.cells.proofs.Grown.{grown_twice}
use Rattle.cells.specs.declared.cells.Version.{Version}
use Rattle.readset.specs.Reads.{ReadSetView, IsNarrowVersion, IsWideVersion, as_read, as_version, held}
use Rattle.readset.specs.Arrived.{arrived}
use Rattle.readset.proofs.NarrowOrWide.{reads_below, narrow_kind}
use Rattle.readset.proofs.Placed.{stands}
use Rattle.readset.proofs.Sets.{if_ok, on_err, low_there, low_absent, low_put, low_beside_if}
use Rattle.readset.proofs.Loaded.{IsLoaded, loaded, load_chain}
use Rattle.readset.proofs.reads.ReadSet.get.Given as given
use Rattle.readset.proofs.reads.ReadSet.get.Goals.{After-load}
use Rattle.readset.proofs.reads.ReadSet.get.Goals as goal

-- what is held once the load has ended
abbrev more : (g : given.Over) (c : After-load g) → ReadSetView
more g c = arrived c.load.new.versions ++ map as_read c.self.inside.wide.entries.items

below : (g : given.Over) (c : After-load g) → (m : ℕ) (v : Version) → held c.args.self.now m ≡ Some v → IsWideVersion v → c.args.number < m
below g c = reads_below c.args.cells.now c.args.self.now c.requires.kinds c.args.number c.requires.is_record

absent : (g : given.Over) (c : After-load g) → held c.args.self.now c.args.number ≡ None
absent g c = low_absent as_version IsNarrowVersion IsWideVersion (arrived c.self.inside.versions) c.self.inside.wide.entries.items c.args.self.now c.self.view_is
    c.args.number c.self.invariant (below g c) c.in-Err.at c.self.inside.versions.sound.sorted (sym c.find.ensures ∙ c.in-Err.is)

entries : (g : given.Over) (c : After-load g) → IfOk c.load.result (λ v. more g c ≡ insert_entry nat_cmp c.args.self.now c.args.number v)
entries g c = if_ok c.load.result
    (λ v. low_put as_version IsNarrowVersion IsWideVersion (arrived c.self.inside.versions) c.self.inside.wide.entries.items c.args.self.now c.self.view_is
    c.args.number c.self.invariant (below g c) v (arrived c.load.new.versions)) c.load.ensures.entries

kept : (g : given.Over) (c : After-load g) → OnErr c.load.result (more g c ≡ c.args.self.now)
kept g c = on_err c.load.result (λ e. ap (λ (es : ReadSetView). es ++ map as_read c.self.inside.wide.entries.items) e ∙ c.self.view_is) c.load.ensures.kept

facts : (g : given.Over) (c : After-load g) → IsLoaded (λ (v : Version). v) c.args.self.now (more g c) c.args.number c.load.result
facts g c = loaded (λ (v : Version). v) c.args.self.now (more g c) c.args.number c.load.result (absent g c) (entries g c) (kept g c)

none_some : (v : Version) → None ≡ Some v → ⊥
none_some v e = cc

pub value_in-requires : goal.value_in-requires
value_in-requires g c = (stands c.args.number (arrived c.self.inside.versions) c.in-Ok.at (sym c.find.ensures ∙ c.in-Ok.is)).inside

pub returns-in-Ok-clause-held : goal.returns-in-Ok-clause-held
returns-in-Ok-clause-held g c v found =
    let there = low_there as_version IsNarrowVersion IsWideVersion (arrived c.self.inside.versions) c.self.inside.wide.entries.items c.args.self.now c.self.view_is
    c.args.number c.in-Ok.at c.value_in.result.now (sym c.find.ensures ∙ c.in-Ok.is) c.value_in.ensures in
    (ap Ok (same_Some _ _ (sym there ∙ found)), refl, refl)

pub returns-in-Ok-clause-read : goal.returns-in-Ok-clause-read
returns-in-Ok-clause-read g c none =
    let there = low_there as_version IsNarrowVersion IsWideVersion (arrived c.self.inside.versions) c.self.inside.wide.entries.items c.args.self.now c.self.view_is
    c.args.number c.in-Ok.at c.value_in.result.now (sym c.find.ensures ∙ c.in-Ok.is) c.value_in.ensures in
    absurd (none_some _ (sym none ∙ there))

pub returns-in-Ok-clause-holds : goal.returns-in-Ok-clause-holds
returns-in-Ok-clause-holds g c = low_there as_version IsNarrowVersion IsWideVersion (arrived c.self.inside.versions) c.self.inside.wide.entries.items c.args.self.now c.self.view_is
    c.args.number c.in-Ok.at c.value_in.result.now (sym c.find.ensures ∙ c.in-Ok.is) c.value_in.ensures

pub invariant_of-self : goal.invariant_of-self
invariant_of-self g c = low_beside_if as_version IsNarrowVersion IsWideVersion (arrived c.self.inside.versions) c.self.inside.wide.entries.items c.args.self.now c.self.view_is
    c.args.number c.self.invariant (below g c) c.load.result (arrived c.load.new.versions) c.load.ensures.narrow c.load.ensures.entries c.load.ensures.kept

pub returns-in-Err-clause-held : goal.returns-in-Err-clause-held
returns-in-Err-clause-held g c v found = absurd (none_some v (sym (absent g c) ∙ found))

pub returns-in-Err-clause-holds : goal.returns-in-Err-clause-holds
returns-in-Err-clause-holds g c = (facts g c).holds

pub returns-in-Err-clause-others : goal.returns-in-Err-clause-others
returns-in-Err-clause-others g c = (facts g c).others

pub returns-in-Err-clause-limit : goal.returns-in-Err-clause-limit
returns-in-Err-clause-limit g c = (facts g c).limit

pub returns-in-Err-clause-keeps : goal.returns-in-Err-clause-keeps
returns-in-Err-clause-keeps g c = (facts g c).keeps

pub returns-in-Err-clause-within : goal.returns-in-Err-clause-within
returns-in-Err-clause-within g c = (facts g c).within _ (let inside = c.requires.is_record in omega (arith, inside))

pub returns-in-Err-clause-kinds : goal.returns-in-Err-clause-kinds
returns-in-Err-clause-kinds g c = (facts g c).kinds c.args.cells.now c.requires.kinds
    (if_ok c.load.result (λ v narrow. narrow_kind c.args.cells.now c.args.number (Some v.payload) c.requires.is_record narrow) c.load.ensures.narrow)

pub returns-in-Err-clause-kept : goal.returns-in-Err-clause-kept
returns-in-Err-clause-kept g c = kept g c

pub returns-in-Err-clause-chain : goal.returns-in-Err-clause-chain
returns-in-Err-clause-chain g c = λ first so_far.
    load_chain (λ (v : Version). v) first c.args.reader.now c.load.new.reader c.args.self.now (more g c) c.args.number c.load.result (absent g c)
    c.load.ensures.read (entries g c) c.load.ensures.unread (kept g c) so_far

pub returns-in-Err-clause-grown_since : goal.returns-in-Err-clause-grown_since
returns-in-Err-clause-grown_since g c = λ first before. grown_twice first c.args.reader.now c.load.new.reader before c.load.ensures.grown
