use Rattle.std.proofs.Common.{◌≡◌, sym, ◌∙◌, subst}
use Rattle.tables.specs.Records.{key_at, key_of, IsRecordKey, IsNarrowKey, IsRowKey}
use Rattle.tables.proofs.Numbers.{numbered, narrow_numbered, row_numbered}
use Rattle.tables.proofs.located.key_of.Goals as goal

pub returns-clause-key : goal.returns-clause-key
returns-clause-key c =
    let s = c.args.scale.now in
    let is : c.key_at.result ≡ key_of s c.args.number = c.key_at.ensures ∙ (λ i. key_at s (c.locate-table.ensures.table i) (c.locate-table.ensures.place i)) in
    subst (IsRecordKey s) (sym is) (numbered s c.args.number c.requires).0

pub returns-clause-narrow : goal.returns-clause-narrow
returns-clause-narrow c = λ h.
    let s = c.args.scale.now in
    let is : c.key_at.result ≡ key_of s c.args.number = c.key_at.ensures ∙ (λ i. key_at s (c.locate-table.ensures.table i) (c.locate-table.ensures.place i)) in
    subst (IsNarrowKey s) (sym is) (narrow_numbered s c.args.number h)

pub returns-clause-row : goal.returns-clause-row
returns-clause-row c = λ h.
    let s = c.args.scale.now in
    let is : c.key_at.result ≡ key_of s c.args.number = c.key_at.ensures ∙ (λ i. key_at s (c.locate-table.ensures.table i) (c.locate-table.ensures.place i)) in
    subst IsRowKey (sym is) (row_numbered s c.args.number c.requires h)
