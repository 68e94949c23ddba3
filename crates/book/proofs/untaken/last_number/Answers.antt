use Rattle.std.proofs.Common.{◌≡◌, ◌-◌, ◌<◌, ℕ, List, length, map, slice_index_or, sym, ap, ◌∙◌, subst, arith}
use Rattle.std.proofs.lemmas.List.{get_or-map, length-map}
use Rattle.std.specs.Arc.{arc_value}
use Rattle.book.specs.declared.entry.Entry.{Entry}
use Rattle.book.proofs.Streams.{last_at}
use Rattle.book.proofs.untaken.last_number.Goals as goal

before : (n : ℕ) → 0 < n → n - 1 < n
before n h = omega (arith, h)

pub returns-in-Some : goal.returns-in-Some
returns-in-Some c =
    let arcs = c.args.entries.now in
    let entries : List Entry = map arc_value arcs in
    let last = c.in-Some.ensures.item.3 in
    let some : 0 < length entries = subst (λ n. 0 < n) (sym (length-map arcs arc_value)) last.0 in
    let is : c.deref.result.now ≡ slice_index_or entries (length arcs - 1) c.deref.result.now = c.deref.ensures ∙ ap arc_value (last.1 c.in-Some.entry.now)
    ∙ sym (get_or-map arc_value arcs (length arcs - 1) c.in-Some.entry.now c.deref.result.now (before (length arcs) last.0)) in
    ap (λ (e : Entry). e.number) is ∙ (λ i. (slice_index_or entries (sym (length-map arcs arc_value) i - 1) c.deref.result.now).number)
    ∙ last_at c.args.before entries c.deref.result.now some
