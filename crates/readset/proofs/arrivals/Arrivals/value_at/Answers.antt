use Rattle.std.proofs.Common.{ℕ, sym, ap, Some, ◌∙◌}
use Rattle.readset.specs.Arrived.{arrived}
use Rattle.readset.proofs.Placed.{stands, goes}
use Rattle.readset.proofs.arrivals.Arrivals.value_at.Goals as goal

pub value_in-requires : goal.value_in-requires
value_in-requires g c = (stands c.args.number (arrived c.args.self.now) c.in-Ok.at (sym c.find.ensures ∙ c.in-Ok.is)).inside

pub returns-in-Ok : goal.returns-in-Ok
returns-in-Ok g c =
    let there = stands c.args.number (arrived c.args.self.now) c.in-Ok.at (sym c.find.ensures ∙ c.in-Ok.is) in
    let d : ℕ × g.row.V.Denot = (c.args.number, c.value_in.result.now) in
    ap Some (c.value_in.ensures d) ∙ sym (there.value d)

pub returns-in-Err : goal.returns-in-Err
returns-in-Err g c =
    sym (goes c.args.number (arrived c.args.self.now) c.in-Err.field-0 c.args.self.now.sound.sorted (sym c.find.ensures ∙ c.in-Err.is)).absent
