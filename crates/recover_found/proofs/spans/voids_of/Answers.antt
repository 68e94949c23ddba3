use Rattle.std.proofs.Common.{Bool, ◌||◌, ◌∙◌, ℕ, List, Vec, Global, take, sym, ap, add-one}
use Rattle.log_text.specs.declared.body.Body.{Body}
use Rattle.recover_found.specs.Found.{bodies_in, void_in}
use Rattle.recover_found.proofs.Voids.{void_among, files_more}
use Rattle.recover_found.proofs.spans.voids_of.Goals as goal

pub loop-bodies-preserved : goal.loop-bodies-preserved
loop-bodies-preserved c epoch =
    let i = c.loop-bodies.bodies-index in
    let d : Vec Body Global = c.bodies-item.result in
    c.in_ok-add_voids.ensures epoch
    ∙ ap (λ (b : Bool). b || void_in (bodies_in c.deref.result.now) epoch) (c.loop-bodies.invariant epoch)
    ∙ ap (λ (bs : List Body). void_among (take i c.args.files.now) epoch || void_in (bodies_in bs) epoch) (c.deref.ensures.value ∙ ap (λ (v : Vec Body Global). v.items) c.bodies-item.is)
    ∙ sym (files_more c.args.files.now i d epoch c.loop-bodies-test.true)
    ∙ ap (λ (n : ℕ). void_among (take n c.args.files.now) epoch) (sym (add-one i))
