use Rattle.std.proofs.Common.{◌≡◌, ℕ, List, map, length, max, ap, ◌∙◌, arith}
use Rattle.std.proofs.lemmas.List.{length-map}
use Rattle.log_text.specs.Bodies.{BodyView}
use Rattle.log_text.specs.declared.body.Body.{Body}
use Rattle.recover_found.specs.Found.{bodies_in}
use Rattle.recover_opening.proofs.Greatest.{top_in, file_of, goes_on, ends}
use Rattle.recover_opening.proofs.top.top_epoch.Goals as goal

pub loop-bodies-preserved : goal.loop-bodies-preserved
loop-bodies-preserved c =
    let top = c.loop-bodies.top in
    let file = c.bodies-item.result in
    goes_on c.args.files.now c.loop-bodies.bodies-index top c.max-top.result file file c.loop-bodies-test.true c.bodies-item.is
    (c.max-top.ensures ∙ ap (λ (n : ℕ). max n top) (c.top_of.ensures ∙ ap (λ (bs : List Body). top_in (bodies_in bs)) c.deref.ensures.value))
    c.loop-bodies.invariant

pub returns : goal.returns
returns c =
    let files : List (List BodyView) = map file_of c.args.files.now in
    let count : length files ≡ length c.args.files.now = length-map c.args.files.now file_of in
    ends files c.loop-bodies.bodies-index c.loop-bodies.top (omega (arith, count, c.loop-bodies-test.false))
    (omega (arith, count, c.loop-bodies.auto.bodies-index-end)) c.requires c.loop-bodies.invariant
