use Rattle.std.proofs.Common.{◌≡◌, ◌++◌, ◌-◌, ◌*◌, length, drop, replicate, sym, ap, ◌∙◌, List, ℕ, Some, rules}
use Rattle.std.proofs.lemmas.List.{take-append-drop}
use Rattle.std.specs.Option.{option_and_then, option_map}
use Rattle.log_codec.specs.Read.{chosen, many}
use Rattle.log_codec.specs.Numbers.{number_at}
use Rattle.tables.specs.Rows.{payload_of}
use Rattle.log_text.specs.Read.{words_from}
use Rattle.log_text.proofs.Words.{too_few, read_in_front, drop-zeros}
use Rattle.log_text.proofs.reading.words_from.Goals as goal

pub returns-then-bytes-width : goal.returns-then-bytes-width
unfolding words_from chosen
returns-then-bytes-width c =
    ap (option_and_then (λ (a : List ℕ × List ℕ). option_map (λ (b : List ℕ). (b, a.1)) (Some (payload_of a.0))))
    (sym (too_few c.args.width c.args.bytes.now (search rules)))

pub returns : goal.returns
unfolding words_from chosen
returns c =
    let words : List ℕ = c.read_u64_into.new.dst in
    let front : List ℕ = c.split_at.result.0.now in
    let rest : List ℕ = c.split_at.result.1.now in
    let long : length words ≡ c.args.width = search rules in
    let whole : c.args.bytes.now ≡ front ++ rest =
    sym (take-append-drop (8 * c.args.width) c.args.bytes.now) ∙ (λ i. sym c.split_at.ensures.front i ++ sym c.split_at.ensures.back i) in
    let read : many c.args.width (number_at 8) c.args.bytes.now ≡ Some (words, rest) =
    ap (λ (n : ℕ). many n (number_at 8) c.args.bytes.now) (sym long) ∙ ap (many (length words) (number_at 8)) whole
    ∙ read_in_front words front rest (search rules) c.read_u64_into.ensures in
    let zeros : drop {A = ℕ} c.args.width (replicate 7 0) ≡ replicate (7 - length words) 0 =
    drop-zeros c.args.width 7 ∙ ap (λ (n : ℕ). replicate (7 - n) 0) (sym long) in
    let first : Some (words ++ drop {A = ℕ} c.args.width (replicate 7 0), rest) ≡ Some (payload_of words, rest) =
    ap (λ (z : List ℕ). Some (words ++ z, rest)) zeros in
    let second : words_from c.args.width c.args.bytes.now ≡ Some (payload_of words, rest) =
    ap (option_and_then (λ (a : List ℕ × List ℕ). option_map (λ (b : List ℕ). (b, a.1)) (Some (payload_of a.0)))) read in
    first ∙ sym second
