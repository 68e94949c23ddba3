use Rattle.std.proofs.Common.{◌≡◌, ◌+◌, ℕ, Some, true, false, length, sym, ap, ◌∙◌, refl, subst, arith}
use Rattle.log_disk.specs.Memory.{IsWriteOf}
use Rattle.traces.specs.declared.lane.Lane.{Lane}
use Rattle.traces.specs.Shown.{CallsLane}
use Rattle.traces.proofs.Lanes.{text_written, text_not_written}
use Rattle.traces.proofs.lane.Lane.write_text.Goals as goal

pub returns-then-not-is_write_of : goal.returns-then-not-is_write_of
returns-then-not-is_write_of c =
    let at : c.in-Some.at ≡ c.args.self.end + 1 = omega (arith, c.in-Some.ensures) in
    text_not_written c.args.trace.now c.args.logger c.args.self c.args.batched c.args.call.now c.requires.batched c.requires.phase c.deref.result.now
    (c.deref.ensures.value ∙ c.in_ok-text.ensures)
    (λ write. let never : false ≡ true = c.if-not-is_write_of.ensures.1 (subst (λ (n : ℕ). IsWriteOf n c.deref.result.now c.args.call.now) (sym at) write) in absurd cc)

pub returns : goal.returns
returns c =
    let at : c.in-Some.at ≡ c.args.self.end + 1 = omega (arith, c.in-Some.ensures) in
    let told : c.len.result ≡ length c.deref.result.now = c.len.ensures ∙ c.in_ok-text.text.ok.0 ∙ ap length (sym c.deref.ensures.value) in
    subst (λ (new : Lane). CallsLane c.args.trace.now c.args.logger c.args.self c.args.call.now (Some new)) (sym c.after.ensures)
    (text_written c.args.trace.now c.args.logger c.args.self c.args.batched c.args.call.now c.requires.batched c.requires.phase c.deref.result.now
    (c.deref.ensures.value ∙ c.in_ok-text.ensures)
    (subst (λ (n : ℕ). IsWriteOf n c.deref.result.now c.args.call.now) at (c.if-not-is_write_of.ensures.0 refl)) c.len.result told)
