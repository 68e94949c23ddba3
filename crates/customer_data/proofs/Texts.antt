-- A text, its bytes and its words determine each other.
use Rattle.std.proofs.Common.{◌≡◌, ℕ, ◌-◌, ◌/◌, ◌%◌, ◌≤◌, List, ◌∷◌, ◌++◌, length, take, drop, replicate, sym, ap, ◌∙◌}
use Rattle.std.proofs.Common.{arith}
use Rattle.std.specs.Prelude.{All}
use Rattle.std.specs.List.{flat_map}
use Rattle.std.proofs.Math.Seq.{take-append_seam}
use Rattle.std.proofs.lemmas.List.{length-append, length-replicate}
use Rattle.std.proofs.lemmas.List.Elements.{All-append, All-cons, All-replicate, All-weaker}
use Rattle.byteorder.specs.Endian.{little_number, little_bytes}
use Rattle.byteorder.specs.Numbers.{little_number-reads_back}
use Rattle.customer_data.specs.Text.{IsData}
use Rattle.customer_data.specs.Words.{data_bytes, data_words}
use Rattle.customer_data.proofs.Packed.{IsByte, words_back}

-- a text's bytes are as many as its words have
length-data_bytes : (text : List ℕ) → length text ≤ 500 → length (data_bytes text) ≡ 504
length-data_bytes text few =
    let zeros : List ℕ = replicate (502 - length text) 0 in
    omega (arith, few, length-append text zeros, length-replicate {A = ℕ} (502 - length text) 0)

are_bytes : (text : List ℕ) → IsData text → All IsByte (data_bytes text)
are_bytes text is =
    let n : ℕ = 502 - length text in
    let zeros : List ℕ = replicate n 0 in
    let low : ℕ = length text % 256 in
    let high : ℕ = length text / 256 % 256 in
    let Printable : ℕ → Type 0 = λ b. (32 ≤ b) × (b ≤ 126) in
    let characters : All IsByte text = All-weaker Printable IsByte (λ b of. omega (arith, of.1)) text is.printable in
    let behind : All IsByte (text ++ zeros) =
    All-append IsByte text zeros characters (All-replicate IsByte n 0 (omega arith)) in
    let one_more : All IsByte (high ∷ (text ++ zeros)) = All-cons IsByte high (text ++ zeros) (omega arith) behind in
    All-cons IsByte low (high ∷ (text ++ zeros)) (omega arith) one_more

-- the words of a text have its bytes
pub data_back : (text : List ℕ) → IsData text → flat_map (little_bytes 8) (data_words text) ≡ data_bytes text
data_back text is = words_back 63 (data_bytes text) (length-data_bytes text is.at_most) (are_bytes text is)

-- the text in bytes, as their first two tell its length
text_in : List ℕ → List ℕ
text_in bytes = take (little_number 2 bytes) (drop 2 bytes)

text_in-data_bytes : (text : List ℕ) → length text ≤ 500 → text_in (data_bytes text) ≡ text
unfolding text_in
text_in-data_bytes text few =
    let zeros : List ℕ = replicate (502 - length text) 0 in
    let told : little_number 2 (data_bytes text) ≡ length text =
    little_number-reads_back 2 (length text) (text ++ zeros) (omega (arith, few)) in
    ap (λ k. take k (text ++ zeros)) told ∙ take-append_seam text zeros

-- texts with the same words are the same
pub text_back : (text other : List ℕ) → IsData text → IsData other → data_words text ≡ data_words other → text ≡ other
text_back text other is is_other same =
    let bytes : data_bytes text ≡ data_bytes other =
    sym (data_back text is) ∙ ap (flat_map (little_bytes 8)) same ∙ data_back other is_other in
    sym (text_in-data_bytes text is.at_most) ∙ ap text_in bytes ∙ text_in-data_bytes other is_other.at_most
