use Rattle.std.proofs.Common.{◌≡◌, ◌<◌, ◌^◌, ◌++◌, ◌∷◌, [], length, map, List, ℕ, sym, ap, ◌∙◌, rules}
use Rattle.std.proofs.lemmas.List.{map-append}
use Rattle.log_text.specs.Bodies.{BodyView, body_of, bodies_after, start}
use Rattle.log_text.specs.File.{opened}
use Rattle.log_text.proofs.OneFile.{next, not_empty, follows, opened_push, after_push}
use Rattle.log_text.proofs.files.read_bodies.Goals as goal

pub returns-in_default-clause-damaged : goal.returns-in_default-clause-damaged
returns-in_default-clause-damaged c = λ e all are.
    let small : length c.args.bytes.now < 2 ^ 64 = search rules in
    not_empty c.args.header.now c.bodies.last c.bodies.rest.now c.in_default.ensures.cases
    (next c.args.header.now c.requires (map body_of c.bodies.bodies.items) all c.bodies.last c.bodies.rest.now c.args.bytes.now c.bodies.invariant.0
    c.bodies.invariant.1 small are)

pub returns-in_err-body-clause-damaged : goal.returns-in_err-body-clause-damaged
returns-in_err-body-clause-damaged c = λ e all are.
    let small : length c.args.bytes.now < 2 ^ 64 = search rules in
    let front : c.bodies.rest.now ≡ 1 ∷ c.in-Some.text.now = search rules in
    let there = follows c.args.header.now c.bodies.last c.bodies.rest.now c.in-Some.text.now front
    (next c.args.header.now c.requires (map body_of c.bodies.bodies.items) all c.bodies.last c.bodies.rest.now c.args.bytes.now c.bodies.invariant.0
    c.bodies.invariant.1 small are) in
    c.in_err-body.ensures.damaged (search (rules, e)) there.0 there.1 there.2 there.3

pub bodies-preserved : goal.bodies-preserved
bodies-preserved c =
    let front : c.bodies.rest.now ≡ 1 ∷ c.in-Some.text.now = search rules in
    let read : List BodyView = map body_of c.bodies.bodies.items in
    let body : BodyView = body_of c.in_ok-body.body in
    let items : map body_of c.push.new.self.items ≡ read ++ body ∷ [] =
    ap (map body_of) c.in_ok-push.ensures.items ∙ map-append body_of c.bodies.bodies.items (c.in_ok-body.body ∷ []) in
    let is = c.in_ok-body.ensures.found in (
      c.bodies.invariant.0 ∙ ap (λ (l : List ℕ). opened read ++ l) (front ∙ ap (λ (l : List ℕ). 1 ∷ l) is.text)
          ∙ sym (opened_push read body c.in_ok-body.behind.now) ∙ sym (ap (λ (bs : List BodyView). opened bs ++ c.in_ok-body.behind.now) items),
      ap (bodies_after c.args.header.now start) items
          ∙ after_push c.args.header.now start read body c.bodies.last c.in_ok-body.now c.bodies.invariant.1 is.lawful,
    )
