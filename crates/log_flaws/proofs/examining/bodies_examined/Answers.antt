use Rattle.std.proofs.Common.{◌≡◌, ◌+◌, ◌-◌, ◌<◌, ◌^◌, ◌++◌, ◌∷◌, [], length, map, List, ℕ, refl, sym, ap, ◌∙◌, subst, rules}
use Rattle.std.proofs.lemmas.List.{map-append}
use Rattle.log_text.specs.Bodies.{BodyView, body_of, bodies_after, start}
use Rattle.log_text.specs.File.{opened}
use Rattle.log_text.proofs.OneFile.{next, not_empty, follows, opened_push, after_push}
use Rattle.log_flaws.specs.Flaws.{Reaches}
use Rattle.log_flaws.proofs.Standing.{behind_header, is_reached, nothing, body_flawed}
use Rattle.log_flaws.proofs.examining.bodies_examined.Goals as goal

pub returns-in_default : goal.returns-in_default
returns-in_default c =
    let h = c.args.header.now in
    let file = c.args.file.now in
    let bytes = c.args.bytes.now in
    let last = c.bodies.last in
    let rest = c.bodies.rest.now in
    let read : List BodyView = map body_of c.bodies.bodies.items in
    let small : length bytes < 2 ^ 64 = search rules in
    let reached = is_reached h file bytes rest read last c.requires.text c.bodies.invariant.0 c.bodies.invariant.1 in (
      (last, subst (Reaches file h (length file - length rest) last) (nothing rest c.in_default.ensures.cases) reached),
      λ bodies is. not_empty h last rest c.in_default.ensures.cases
          (next h c.requires.header read bodies last rest bytes c.bodies.invariant.0 c.bodies.invariant.1 small
          (behind_header h c.requires.header file bytes c.requires.text bodies is)),
    )

pub returns-in-Err-Damaged : goal.returns-in-Err-Damaged
returns-in-Err-Damaged c =
    let h = c.args.header.now in
    let file = c.args.file.now in
    let bytes = c.args.bytes.now in
    let last = c.bodies.last in
    let rest = c.bodies.rest.now in
    let text = c.in-Some.text.now in
    let read : List BodyView = map body_of c.bodies.bodies.items in
    let small : length bytes < 2 ^ 64 = search rules in
    let front : rest ≡ 1 ∷ text = search rules in
    let reached = is_reached h file bytes rest read last c.requires.text c.bodies.invariant.0 c.bodies.invariant.1 in
    let none = c.in-Err-Damaged.ensures.damaged (search rules) in (
      body_flawed file h (length file - length rest + 1)
          (record {
            last = last;
            text = text;
            gate = length file - length rest;
            behind = refl;
            reached = subst (Reaches file h (length file - length rest) last) front reached;
            none = none;
          })
          c.body_flaw.result c.body_flaw.ensures,
      λ bodies is.
          let there = follows h last rest text front
          (next h c.requires.header read bodies last rest bytes c.bodies.invariant.0 c.bodies.invariant.1 small
          (behind_header h c.requires.header file bytes c.requires.text bodies is)) in
          none there.0 there.1 there.2 there.3,
    )

pub bodies-preserved : goal.bodies-preserved
bodies-preserved c =
    let front : c.bodies.rest.now ≡ 1 ∷ c.in-Some.text.now = search rules in
    let read : List BodyView = map body_of c.bodies.bodies.items in
    let body : BodyView = body_of c.in-Ok.read.0 in
    let items : map body_of c.push.new.self.items ≡ read ++ body ∷ [] =
    ap (map body_of) c.in_ok-push.ensures.items ∙ map-append body_of c.bodies.bodies.items (c.in-Ok.read.0 ∷ []) in
    let is = c.in-Ok.ensures.found in (
      c.bodies.invariant.0 ∙ ap (λ (l : List ℕ). opened read ++ l) (front ∙ ap (λ (l : List ℕ). 1 ∷ l) is.text)
          ∙ sym (opened_push read body c.in-Ok.read.2.now) ∙ sym (ap (λ (bs : List BodyView). opened bs ++ c.in-Ok.read.2.now) items),
      ap (bodies_after c.args.header.now start) items
          ∙ after_push c.args.header.now start read body c.bodies.last c.in-Ok.read.1 c.bodies.invariant.1 is.lawful,
    )
