use Rattle.std.proofs.Common.{◌≡◌, ◌≢◌, ◌<◌, ◌^◌, ℕ, List, Some, None, length, sym, ap, ◌∙◌, subst, rules}
use Rattle.std.proofs.Math.Facts.{Fits-lt-pow}
use Rattle.money.specs.declared.refusal.Refusal.TheVariants.{OutOfMemory}
use Rattle.log_header.specs.Header.{IsHeader}
use Rattle.log_text.specs.Bodies.{BodyView, body_of, body_after}
use Rattle.log_text.specs.Read.{body_from}
use Rattle.log_text.proofs.Texts.{pair_is}
use Rattle.log_text.proofs.BodyTexts.{codec-body, is_read}
use Rattle.log_text.proofs.bodies.read_body.Goals as goal

pub returns-in_err-body-clause-damaged : goal.returns-in_err-body-clause-damaged
returns-in_err-body-clause-damaged c = λ e body now rest is.
    let small : length c.args.bytes.now < 2 ^ 64 = search rules in
    let other : c.in_err-body.field-0.0 ≢ OutOfMemory = search (rules, e) in
    let none : body_from c.args.bytes.now ≡ None = (c.in_err-body.ensures other).1 in
    let some = is_read c.args.header.now (subst IsHeader c.header.view_is c.header.invariant) c.args.last body now rest c.args.bytes.now small is in
    absurd cc

pub returns-in-Some-clause-found : goal.returns-in-Some-clause-found
returns-in-Some-clause-found c = record {
  text = (codec-body.takes c.args.bytes.now (body_of c.in_ok-body.body, c.in_ok-body.rest.now) (λ i. Fits-lt-pow (c.type_inv.bytes i)) c.in_ok-body.ensures).0;
  lawful = sym c.in-Some.ensures;
}

pub returns-clause-damaged : goal.returns-clause-damaged
returns-clause-damaged c = λ e body now rest is.
    let small : length c.args.bytes.now < 2 ^ 64 = search rules in
    let some = is_read c.args.header.now (subst IsHeader c.header.view_is c.header.invariant) c.args.last body now rest c.args.bytes.now small is in
    let one = pair_is (body, rest) (body_of c.in_ok-body.body, c.in_ok-body.rest.now) (sym some ∙ c.in_ok-body.ensures) in
    let lawful : body_after c.args.header.now c.args.last (body_of c.in_ok-body.body) ≡ Some now =
    ap (λ (x : BodyView × List ℕ). body_after c.args.header.now c.args.last x.0) (sym one) ∙ is.lawful in
    let not_lawful : None ≡ body_after c.args.header.now c.args.last (body_of c.in_ok-body.body) = c.in-None.ensures in
    absurd cc
