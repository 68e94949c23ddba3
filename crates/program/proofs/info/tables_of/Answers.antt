use Rattle.std.proofs.Common.{◌≡◌, ◌∙◌, ◌++◌, codes}
use Rattle.std.proofs.lemmas.Result.{IfOk-weaker}
use Rattle.program.specs.Info.{caps_text, places_text}
use Rattle.program.proofs.info.tables_of.Goals as goal

pub returns : goal.returns
returns c =
    let s = c.args.scale.now in
    let w = c.warehouses.ensures.value in
    let d = c.districts.ensures.value in
    let u = c.customers.ensures.value in
    let n = c.items.ensures.value in
    let o = c.orders.ensures.value in
    let m = c.commits.ensures.value in
    let places : c.as_str.result.now ≡ places_text s.warehouses s.districts s.customers =
    c.as_str.ensures.value ∙ (c.in_ok-places.ensures ∙ (λ i. places_text (w i) (d i) (u i))) in
    let caps : c.as_str-2.result.now ≡ caps_text s.items s.orders s.commits c.args.seed =
    c.as_str-2.ensures.value ∙ (c.in_ok-caps.ensures ∙ (λ i. caps_text (n i) (o i) (m i) c.args.seed)) in
    IfOk-weaker c.joined.result _ _ (λ text is. is ∙ (λ i. places i ++ (codes " " ++ caps i))) c.joined.ensures
