use Rattle.std.proofs.Common.{◌≡◌, ◌++◌, ◌+◌, ◌-◌, length, take, drop, ℕ, List, sym, ap, ◌∙◌, arith, length-append}
use Rattle.std.proofs.Math.Seq.{take-append_seam, drop-append_seam}
use Rattle.log_codec.specs.Numbers.{number}
use Rattle.log_codec.proofs.NumberTexts.{length-number}
use Rattle.log_text.proofs.writing.set_length.Goals as goal

pub returns-clause-set : goal.returns-clause-set
unfolding number
returns-clause-set c = λ front content at old.
    let start : ℕ = c.args.start in
    let bytes : List ℕ = c.args.bytes.now in
    let long = length-number 8 0 in
    let size : length bytes - start - 8 + 1 ≡ length content + 1 =
    omega (arith, ap length old, length-append front (number 8 0 ++ content), length-append (number 8 0) content, at, long) in
    let before : take start bytes ≡ front = (λ i. take (sym at i) (old i)) ∙ take-append_seam front (number 8 0 ++ content) in
    let behind : drop start bytes ≡ number 8 0 ++ content = (λ i. drop (sym at i) (old i)) ∙ drop-append_seam front (number 8 0 ++ content) in
    let eight : start + 8 - start ≡ length (number 8 0) = omega (arith, long) in
    let rest : drop (start + 8 - start) (drop start bytes) ≡ content = (λ i. drop (eight i) (behind i)) ∙ drop-append_seam (number 8 0) content in
    let field : c.copy_from_slice.new.self ≡ number 8 (length content + 1) =
    c.copy_from_slice.ensures.after ∙ c.write_u64.ensures ∙ ap (number 8) size in
    λ i. before i ++ (field i ++ rest i)
