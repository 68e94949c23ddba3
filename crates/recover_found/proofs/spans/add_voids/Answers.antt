use Rattle.std.proofs.Common.{◌≡◌, Bool, ◌||◌, ◌∙◌, sym, ap, Vec, Global, take, ◌+◌, ℕ, add-one}
use Rattle.std.specs.List.{list_any}
use Rattle.log_text.specs.Bodies.{voids, body_of}
use Rattle.log_text.specs.declared.body.Body.{Body}
use Rattle.recover_found.specs.Found.{bodies_in, is_spanned, void_in}
use Rattle.recover_found.specs.declared.spans.Span.{Span}
use Rattle.recover_found.proofs.Voids.{void_more, pushed, or_assoc, or_false}
use Rattle.recover_found.proofs.spans.add_voids.Goals as goal
use Rattle.recover_found.proofs.spans.add_voids.Goals.{in-Void+in_ok-push, in_default}

pub loop-body-preserved : goal.loop-body-preserved
loop-body-preserved c epoch =
    let before = c.loop-body.invariant epoch in
    let d : Body = c.body-item.result in
    let i = c.loop-body.body-index in
    let first = list_any (is_spanned epoch) c.args.spans.now.items in
    let more : void_in (bodies_in (take (i + 1) c.args.bodies.now)) epoch ≡ (void_in (bodies_in (take i c.args.bodies.now)) epoch || voids (body_of c.body-item.result) epoch)
    = ap (λ (n : ℕ). void_in (bodies_in (take n c.args.bodies.now)) epoch) (add-one i)
    ∙ void_more c.args.bodies.now i d epoch c.loop-body-test.true
    ∙ ap (λ (b : Body). void_in (bodies_in (take i c.args.bodies.now)) epoch || voids (body_of b) epoch) (sym c.body-item.is) in
    elim c.match-body.branch [
      | in-Void+in_ok-push w ↦
          ap (list_any (is_spanned epoch)) (ap (λ (v : Vec Span Global). v.items) w.spans-is ∙ w.in_ok-push.ensures.items)
          ∙ pushed c.loop-body.spans.items (record { low = w.in-Void.low; high = w.in-Void.high }) epoch
          ∙ ap (λ (b : Bool). b || is_spanned epoch (record { low = w.in-Void.low; high = w.in-Void.high })) before
          ∙ sym (or_assoc first (void_in (bodies_in (take i c.args.bodies.now)) epoch) (is_spanned epoch (record { low = w.in-Void.low; high = w.in-Void.high })))
          ∙ ap (λ (b : Bool). first || b)
          (ap (λ (b : Body). void_in (bodies_in (take i c.args.bodies.now)) epoch || voids (body_of b) epoch) (sym w.in-Void.is) ∙ sym more)
      | in_default w ↦
          ap (λ (v : Vec Span Global). list_any (is_spanned epoch) v.items) w.spans-is
          ∙ before
          ∙ ap (λ (b : Bool). first || b)
          (sym (or_false (void_in (bodies_in (take i c.args.bodies.now)) epoch))
          ∙ ap (λ (b : Body). void_in (bodies_in (take i c.args.bodies.now)) epoch || voids (body_of b) epoch) (sym w.in_default.is) ∙ sym more)
    ]
