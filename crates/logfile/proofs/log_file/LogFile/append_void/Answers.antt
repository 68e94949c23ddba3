use Rattle.std.proofs.Common.{◌≡◌, Some, sym, subst, arith, rules}
use Rattle.std.proofs.lemmas.Grind.{common_steps}
use Rattle.log_text.specs.Bodies.{BodyView, Void, marked, body_after}
use Rattle.logfile.specs.Standing.{LogFileView}
use Rattle.logfile.proofs.Opening.{body_near}
use Rattle.logfile.proofs.log_file.LogFile.append_void.Goals as goal

pub add-requires-clause-body : goal.add-requires-clause-body
add-requires-clause-body g c =
    let void : BodyView = Void c.args.low c.args.high in
    let lawful : body_after c.args.self.now.header c.args.self.now.last void ≡ Some (marked c.args.high c.self.inside.last)
    = subst (λ (v : LogFileView _). body_after c.args.self.now.header c.args.self.now.last void ≡ Some (marked c.args.high v.last)) (sym c.self.view_is) c.requires in
    (void, c.void_text.ensures, lawful)

pub add-requires-clause-epoch : goal.add-requires-clause-epoch
add-requires-clause-epoch g c =
    let void : BodyView = Void c.args.low c.args.high in
    let lawful : body_after c.self.inside.header c.self.inside.last void ≡ Some (marked c.args.high c.self.inside.last)
    = subst (λ (v : LogFileView _). body_after v.header v.last void ≡ Some (marked c.args.high v.last)) (sym c.self.view_is) c.requires in
    body_near c.self.inside.header c.self.inside.last void (marked c.args.high c.self.inside.last) lawful c.self.invariant.near

pub returns-clause-appends : goal.returns-clause-appends
returns-clause-appends g c =
    let void : BodyView = Void c.args.low c.args.high in
    let lawful : body_after c.args.self.now.header c.args.self.now.last void ≡ Some (marked c.args.high c.self.inside.last)
    = subst (λ (v : LogFileView _). body_after c.args.self.now.header c.args.self.now.last void ≡ Some (marked c.args.high v.last)) (sym c.self.view_is) c.requires in
    record {
      header = search rules;
      ok = first_of (search rules, grind (arith, common_steps));
      end = first_of (search rules, grind (arith, common_steps));
      none_failed = first_of (search rules, grind (arith, common_steps));
      added = λ modelled bodies s. c.add.ensures.added modelled bodies void s c.void_text.ensures lawful;
      moments = λ modelled bodies s. c.add.ensures.moments modelled bodies void s c.void_text.ensures lawful;
      calls = first_of (search rules, grind (arith, common_steps));
      memory = first_of (search rules, grind (arith, common_steps));
      device = first_of (search rules, grind (arith, common_steps));
      refuses = first_of (search rules, grind (arith, common_steps));
      cause = first_of (search rules, grind (arith, common_steps));
      others = first_of (search rules, grind (arith, common_steps));
    }
