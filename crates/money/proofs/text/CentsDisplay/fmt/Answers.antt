-- The text is that of an amount below zero in one branch, and from zero on in the other.
use Rattle.std.proofs.Common.{rules, ◌≡◌, ◌∙◌, ap, pos, ◌<ℤ◌, ◌≤ℤ◌, to_z, of_z, w64, arith, unsigned_abs, FitsSigned}
use Rattle.std.proofs.lemmas.Int.{ints, to_z-of_z}
use Rattle.std.proofs.Output.{has_written_of_eq}
use Rattle.money.proofs.MoneyText.{printed-pos, printed-neg}
use Rattle.money.proofs.text.CentsDisplay.fmt.Goals as goal
use Rattle.money.proofs.text.CentsDisplay.fmt.Goals.{then-amount-lt0, else-amount-lt0}

pub returns-clause-writes : goal.returns-clause-writes
returns-clause-writes g c =
    let written = rw c.laid_out.ensures at c.write.ensures.writes in
    let fits : FitsSigned w64 c.amount-amount.result = search rules in
    let amount : to_z w64 (of_z w64 c.amount-amount.result) ≡ c.args.self.now = to_z-of_z w64 _ fits ∙ c.amount-amount.ensures in
    let size : c.unsigned_abs-cents.result ≡ unsigned_abs c.args.self.now = c.unsigned_abs-cents.ensures.value ∙ ap unsigned_abs amount in
    elim c.if-amount-lt0.branch [
      | then-amount-lt0 w ↦ λ plain ok.
          let below : c.args.self.now <ℤ pos 0 = grind (arith, ints) in
          has_written_of_eq _ _ _ _ _ (rw w.sign-is (printed-neg c.args.self.now _ below size)) (written plain ok)
      | else-amount-lt0 w ↦ λ plain ok.
          let above : pos 0 ≤ℤ c.args.self.now = grind (arith, ints) in
          has_written_of_eq _ _ _ _ _ (rw w.sign-is (printed-pos c.args.self.now _ above size)) (written plain ok)
    ]
