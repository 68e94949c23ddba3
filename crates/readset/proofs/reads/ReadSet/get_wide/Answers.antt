use Rattle.std.proofs.Common.{◌≡◌, Some, None, IfOk, OnErr, ◌++◌, ℕ, ◌<◌, List, map, sym, ap, ◌∙◌, refl}
use Rattle.std.specs.Ordering.{nat_cmp}
use Rattle.std.specs.BTreeMap.{insert_entry}
use Rattle.std.proofs.lemmas.Option.{same_Some}
use Rattle.cells.proofs.Grown.{grown_twice}
use Rattle.cells.specs.declared.cells.Version.{Version}
use Rattle.cells.specs.declared.wide.WideVersion.{WideVersion}
use Rattle.readset.specs.Reads.{ReadSetView, IsNarrowVersion, IsWideVersion, as_read, as_version, held}
use Rattle.readset.specs.Arrived.{arrived}
use Rattle.readset.proofs.NarrowOrWide.{reads_above, wide_kind}
use Rattle.readset.proofs.Placed.{stands}
use Rattle.readset.proofs.Sets.{if_ok, on_err, high_there, high_absent, high_put, high_beside_if}
use Rattle.readset.proofs.Loaded.{IsLoaded, loaded, load_chain}
use Rattle.readset.proofs.reads.ReadSet.get_wide.Given as given
use Rattle.readset.proofs.reads.ReadSet.get_wide.Goals.{After-load_wide}
use Rattle.readset.proofs.reads.ReadSet.get_wide.Goals as goal

-- what is held once the load has ended
abbrev more : (g : given.Over) (c : After-load_wide g) → ReadSetView
more g c = arrived c.self.inside.versions ++ map as_read c.load_wide.new.versions.entries.items

above : (g : given.Over) (c : After-load_wide g) → (m : ℕ) (v : Version) → held c.args.self.now m ≡ Some v → IsNarrowVersion v → m < c.args.number
above g c = reads_above c.args.cells.now c.args.self.now c.requires.kinds c.args.number c.requires.is_record.0

absent : (g : given.Over) (c : After-load_wide g) → held c.args.self.now c.args.number ≡ None
absent g c = high_absent as_version IsNarrowVersion IsWideVersion (arrived c.self.inside.versions) c.self.inside.wide.entries.items c.args.self.now c.self.view_is
    c.args.number c.self.invariant (above g c) c.in-Err.at c.self.inside.wide.ordered (sym c.find.ensures ∙ c.in-Err.is)

entries : (g : given.Over) (c : After-load_wide g) → IfOk c.load_wide.result (λ w. more g c ≡ insert_entry nat_cmp c.args.self.now c.args.number (as_version w))
entries g c = if_ok c.load_wide.result
    (λ w. high_put as_version IsNarrowVersion IsWideVersion (arrived c.self.inside.versions) c.self.inside.wide.entries.items c.args.self.now c.self.view_is
    c.args.number c.self.invariant (above g c) w c.load_wide.new.versions.entries.items) c.load_wide.ensures.entries

kept : (g : given.Over) (c : After-load_wide g) → OnErr c.load_wide.result (more g c ≡ c.args.self.now)
kept g c = on_err c.load_wide.result (λ e. ap (λ (es : List (ℕ × WideVersion)). arrived c.self.inside.versions ++ map as_read es) e ∙ c.self.view_is) c.load_wide.ensures.kept

facts : (g : given.Over) (c : After-load_wide g) → IsLoaded as_version c.args.self.now (more g c) c.args.number c.load_wide.result
facts g c = loaded as_version c.args.self.now (more g c) c.args.number c.load_wide.result (absent g c) (entries g c) (kept g c)

none_some : (v : Version) → None ≡ Some v → ⊥
none_some v e = cc

pub value_in-requires : goal.value_in-requires
value_in-requires g c = (stands c.args.number c.self.inside.wide.entries.items c.in-Ok.at (sym c.find.ensures ∙ c.in-Ok.is)).inside

pub returns-in-Ok-clause-held : goal.returns-in-Ok-clause-held
returns-in-Ok-clause-held g c v found =
    let there = high_there as_version IsNarrowVersion IsWideVersion (arrived c.self.inside.versions) c.self.inside.wide.entries.items c.args.self.now c.self.view_is
    c.args.number c.self.invariant
    (reads_above c.args.cells.now c.args.self.now c.requires.kinds c.args.number c.requires.is_record.0) c.in-Ok.at c.value_in.result.now (sym c.find.ensures ∙ c.in-Ok.is) c.value_in.ensures in
    (same_Some _ _ (sym there ∙ found), refl, refl)

pub returns-in-Ok-clause-read : goal.returns-in-Ok-clause-read
returns-in-Ok-clause-read g c none =
    let there = high_there as_version IsNarrowVersion IsWideVersion (arrived c.self.inside.versions) c.self.inside.wide.entries.items c.args.self.now c.self.view_is
    c.args.number c.self.invariant
    (reads_above c.args.cells.now c.args.self.now c.requires.kinds c.args.number c.requires.is_record.0) c.in-Ok.at c.value_in.result.now (sym c.find.ensures ∙ c.in-Ok.is) c.value_in.ensures in
    absurd (none_some _ (sym none ∙ there))

pub returns-in-Ok-clause-holds : goal.returns-in-Ok-clause-holds
returns-in-Ok-clause-holds g c = high_there as_version IsNarrowVersion IsWideVersion (arrived c.self.inside.versions) c.self.inside.wide.entries.items c.args.self.now c.self.view_is
    c.args.number c.self.invariant
    (reads_above c.args.cells.now c.args.self.now c.requires.kinds c.args.number c.requires.is_record.0) c.in-Ok.at c.value_in.result.now (sym c.find.ensures ∙ c.in-Ok.is) c.value_in.ensures

pub invariant_of-self : goal.invariant_of-self
invariant_of-self g c = high_beside_if as_version IsNarrowVersion IsWideVersion (arrived c.self.inside.versions) c.self.inside.wide.entries.items c.args.self.now c.self.view_is
    c.args.number c.self.invariant (above g c) c.load_wide.result c.load_wide.new.versions.entries.items c.load_wide.ensures.wide c.load_wide.ensures.entries c.load_wide.ensures.kept

pub returns-in-Err-clause-held : goal.returns-in-Err-clause-held
returns-in-Err-clause-held g c v found = absurd (none_some v (sym (absent g c) ∙ found))

pub returns-in-Err-clause-holds : goal.returns-in-Err-clause-holds
returns-in-Err-clause-holds g c = (facts g c).holds

pub returns-in-Err-clause-others : goal.returns-in-Err-clause-others
returns-in-Err-clause-others g c = (facts g c).others

pub returns-in-Err-clause-limit : goal.returns-in-Err-clause-limit
returns-in-Err-clause-limit g c = (facts g c).limit

pub returns-in-Err-clause-keeps : goal.returns-in-Err-clause-keeps
returns-in-Err-clause-keeps g c = (facts g c).keeps

pub returns-in-Err-clause-within : goal.returns-in-Err-clause-within
returns-in-Err-clause-within g c = (facts g c).within _ c.requires.is_record.1

pub returns-in-Err-clause-kinds : goal.returns-in-Err-clause-kinds
returns-in-Err-clause-kinds g c = (facts g c).kinds c.args.cells.now c.requires.kinds
    (if_ok c.load_wide.result (λ w wide. wide_kind c.args.cells.now c.args.number (Some w.payload) c.requires.is_record.0 wide) c.load_wide.ensures.wide)

pub returns-in-Err-clause-kept : goal.returns-in-Err-clause-kept
returns-in-Err-clause-kept g c = kept g c

pub returns-in-Err-clause-chain : goal.returns-in-Err-clause-chain
returns-in-Err-clause-chain g c = λ first so_far.
    load_chain as_version first c.args.reader.now c.load_wide.new.reader c.args.self.now (more g c) c.args.number c.load_wide.result (absent g c)
    c.load_wide.ensures.read (entries g c) c.load_wide.ensures.unread (kept g c) so_far

pub returns-in-Err-clause-grown_since : goal.returns-in-Err-clause-grown_since
returns-in-Err-clause-grown_since g c = λ first before. grown_twice first c.args.reader.now c.load_wide.new.reader before c.load_wide.ensures.grown
