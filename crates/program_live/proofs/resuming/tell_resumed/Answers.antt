use Rattle.std.proofs.Common.{◌≡◌, ◌∙◌, ◌⊎◌, ◌++◌, List, ℕ, inr, rules, sym}
use Rattle.std.specs.Io.KnownBytes.{Appends}
use Rattle.money.specs.declared.refusal.Refusal.TheVariants.{OutOfMemory, Device}
use Rattle.program_live.specs.Resumed.{resumed_line}
use Rattle.program_live.proofs.resuming.tell_resumed.Goals as goal

pub returns-in_err-write_text-clause-beginning : goal.returns-in_err-write_text-clause-beginning
returns-in_err-write_text-clause-beginning g c =
    let failed = c.in_err-write_text.ensures.err in
    let refusal = c.in_err-write_text.field-0.0 in
    let begun : (front : List ℕ) × (rest : List ℕ) × (front ++ rest ≡ resumed_line c.args.commits c.args.epoch)
    × Appends (g.W.Write.contents c.args.output.now) (g.W.Write.contents c.write_text.new.writer) front
    × ((refusal ≡ OutOfMemory) ⊎ (refusal ≡ Device)) =
    (failed.0, failed.1, sym failed.2 ∙ (c.as_bytes.ensures.value ∙ c.in_ok-text.ensures), failed.3, inr c.in_err-write_text.ensures.device) in
    search rules
