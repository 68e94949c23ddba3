use Rattle.std.proofs.Common.{◌≡◌, ◌++◌, ◌+◌, ◌-◌, ◌<◌, ℕ, map, length, get_or, sym, ap, ◌∙◌, arith}
use Rattle.std.proofs.lemmas.List.{get_or-append-add, get_or-map, length-map, length-append}
use Rattle.cells.specs.declared.cells.Version.{Version}
use Rattle.cells.specs.declared.wide.WideVersion.{WideVersion}
use Rattle.readset.specs.Reads.{ReadSetView, as_read}
use Rattle.readset.specs.Arrived.{arrived}
use Rattle.readset.proofs.reads.ReadSet.seen.Goals as goal

pub returns : goal.returns
returns c = λ d.
    let narrow = arrived c.self.inside.versions in
    let wide = c.self.inside.wide.entries.items in
    let place = c.args.place - c.count-narrow.result in
    let e : ℕ × WideVersion = (0, c.value_in-version-2.result.now) in
    let here : place < length wide =
    let long = ap length c.self.view_is in
    let both = length-append narrow (map as_read wide) in
    let many = length-map wide as_read in
    omega (arith, long, both, many, c.count-narrow.ensures, c.if-place-narrow.false, c.requires) in
    let at : length narrow + place ≡ c.args.place = omega (arith, c.count-narrow.ensures, c.if-place-narrow.false) in
    let is : get_or c.args.self.now c.args.place d ≡ as_read (get_or wide place e) =
    ap (λ (es : ReadSetView). get_or es c.args.place d) (sym c.self.view_is)
    ∙ ap (λ n. get_or (narrow ++ map as_read wide) n d) (sym at)
    ∙ get_or-append-add narrow (map as_read wide) place d
    ∙ get_or-map as_read wide place e d here in (
      ap (λ (w : WideVersion). w.record) (c.value_in-version-2.ensures e) ∙ sym (ap (λ (v : ℕ × Version). v.1.record) is),
      ap (λ (w : WideVersion). w.word) (c.value_in-version-2.ensures e) ∙ sym (ap (λ (v : ℕ × Version). v.1.word) is),
    )
