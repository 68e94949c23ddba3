use Rattle.std.proofs.Common.{◌≡◌, List, ℕ, [], ◌++◌, ◌∙◌, ap, sym, codes, append_assoc, append-nil}
use Rattle.std.specs.Fmt.{decimal}
use Rattle.std.proofs.KnownBytes.{Appends-nil, Appends-trans}
use Rattle.money.specs.Refusal.{refusal_number, refusal_name}
use Rattle.program.specs.Status.{refusal_line}
use Rattle.program.proofs.Beginnings.{broken_off}
use Rattle.program.proofs.ending.write_refusal.Goals as goal

regrouped : (a s n l : List ℕ) → ((a ++ s) ++ n) ++ l ≡ a ++ ((s ++ n) ++ l)
regrouped a s n l = simp append_assoc

pub returns-in_err-write_text-clause-beginning : goal.returns-in_err-write_text-clause-beginning
returns-in_err-write_text-clause-beginning g c = λ _.
    let number : c.as_bytes.result.now ≡ decimal (refusal_number c.args.refusal) = c.as_bytes.ensures.value ∙ c.format.ensures.text
    ∙ ap decimal c.number.ensures in
    broken_off (g.E.Write.contents c.args.errors.now) (g.E.Write.contents c.args.errors.now) (g.E.Write.contents c.write_text.new.writer)
    (refusal_line c.args.refusal) [] c.as_bytes.result.now ((codes " " ++ refusal_name c.args.refusal) ++ codes "\n")
    (ap (λ a. ((a ++ codes " ") ++ refusal_name c.args.refusal) ++ codes "\n") (sym number)
    ∙ regrouped c.as_bytes.result.now (codes " ") (refusal_name c.args.refusal) (codes "\n")) (Appends-nil _) c.in_err-write_text.ensures.err

pub returns-in_err-write_text-2-clause-beginning : goal.returns-in_err-write_text-2-clause-beginning
returns-in_err-write_text-2-clause-beginning g c = λ _.
    let number : c.as_bytes.result.now ≡ decimal (refusal_number c.args.refusal) = c.as_bytes.ensures.value ∙ c.format.ensures.text
    ∙ ap decimal c.number.ensures in
    broken_off (g.E.Write.contents c.args.errors.now) (g.E.Write.contents c.write_text.new.writer) (g.E.Write.contents c.write_text-2.new.writer)
    (refusal_line c.args.refusal) c.as_bytes.result.now (codes " ") (refusal_name c.args.refusal ++ codes "\n")
    (ap (λ a. ((a ++ codes " ") ++ refusal_name c.args.refusal) ++ codes "\n") (sym number)
    ∙ append_assoc (c.as_bytes.result.now ++ codes " ") (refusal_name c.args.refusal) (codes "\n")) c.in_ok-write_text.ensures.ok
    c.in_err-write_text-2.ensures.err

pub returns-in_err-write_text-3-clause-beginning : goal.returns-in_err-write_text-3-clause-beginning
returns-in_err-write_text-3-clause-beginning g c = λ _.
    let number : c.as_bytes.result.now ≡ decimal (refusal_number c.args.refusal) = c.as_bytes.ensures.value ∙ c.format.ensures.text
    ∙ ap decimal c.number.ensures in
    let name : c.as_bytes-2.result.now ≡ refusal_name c.args.refusal = c.as_bytes-2.ensures.value ∙ c.name.ensures in
    broken_off (g.E.Write.contents c.args.errors.now) (g.E.Write.contents c.write_text-2.new.writer) (g.E.Write.contents c.write_text-3.new.writer)
    (refusal_line c.args.refusal) (c.as_bytes.result.now ++ codes " ") c.as_bytes-2.result.now (codes "\n")
    (λ i. ((sym number i ++ codes " ") ++ sym name i) ++ codes "\n") (Appends-trans _ _ _ _ _ c.in_ok-write_text.ensures.ok c.in_ok-write_text-2.ensures.ok)
    c.in_err-write_text-3.ensures.err

pub returns-in_err-write_text-4-clause-beginning : goal.returns-in_err-write_text-4-clause-beginning
returns-in_err-write_text-4-clause-beginning g c = λ _.
    let number : c.as_bytes.result.now ≡ decimal (refusal_number c.args.refusal) = c.as_bytes.ensures.value ∙ c.format.ensures.text
    ∙ ap decimal c.number.ensures in
    let name : c.as_bytes-2.result.now ≡ refusal_name c.args.refusal = c.as_bytes-2.ensures.value ∙ c.name.ensures in
    broken_off (g.E.Write.contents c.args.errors.now) (g.E.Write.contents c.write_text-3.new.writer) (g.E.Write.contents c.write_text-4.new.writer)
    (refusal_line c.args.refusal) ((c.as_bytes.result.now ++ codes " ") ++ c.as_bytes-2.result.now) (codes "\n") []
    ((λ i. ((sym number i ++ codes " ") ++ sym name i) ++ codes "\n") ∙ sym (append-nil _))
    (Appends-trans _ _ _ _ _ (Appends-trans _ _ _ _ _ c.in_ok-write_text.ensures.ok c.in_ok-write_text-2.ensures.ok) c.in_ok-write_text-3.ensures.ok)
    c.in_err-write_text-4.ensures.err
