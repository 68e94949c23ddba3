use Rattle.std.proofs.Common.{◌≡◌, ℕ, ◌+◌, ◌-◌, ◌≤◌, List, ◌++◌, length, take, replicate, sym, ap, ◌∙◌, subst, arith}
use Rattle.std.specs.Prelude.{All}
use Rattle.std.proofs.lemmas.List.{length-take}
use Rattle.std.proofs.lemmas.List.Elements.{All-take}
use Rattle.customer_data.proofs.Printable.{IsPrintable, printable_ascii}
use Rattle.customer_data.proofs.text.CustomerData.of_words.Goals as goal

pub returns : goal.returns
returns c = λ text is same.
    let told = c.text_of-text.ensures.text text is (c.unpack-bytes.ensures.text text is same) in
    let found = c.text_of-text.result.now in
    let end = c.front_end-end.result in
    let printable : All IsPrintable (take end found) = All-take IsPrintable end found (subst (All IsPrintable) (sym told) is.printable) in
    ap (λ (l : List ℕ). l ++ replicate (length found - end) 120)
    (c.in_ok-from_str.ensures.ok ∙ c.ascii-front.ensures.text (printable_ascii (take end found) printable)) ∙ sym c.front_end-end.ensures.letters ∙ told

pub invariant_of-result : goal.invariant_of-result
invariant_of-result c =
    let found = c.text_of-text.result.now in
    omega (
      arith,
      ap length c.in_ok-from_str.ensures.ok,
      c.ascii-front.ensures.few,
      length-take c.front_end-end.result found,
      c.front_end-end.ensures.within,
      c.text_of-text.ensures.few,
    )
