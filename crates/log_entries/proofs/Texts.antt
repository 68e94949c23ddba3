-- The text that words stand for, as a log file has it.
use Rattle.std.proofs.Common.{◌≡◌, ℕ, ◌≤◌, ◌-◌, Bool, true, ◌&&◌, List, [], ◌∷◌, ◌++◌, Option, Some, length, take, drop, replicate, refl, sym, ap, ◌∙◌, arith, All}
use Rattle.std.specs.Prelude.{nat_le}
use Rattle.std.specs.List.{list_all, flat_map}
use Rattle.std.proofs.lemmas.Bool.{and_from, le-leb}
use Rattle.std.proofs.lemmas.List.Elements.{All-head, All-tail}
use Rattle.std.proofs.lemmas.Option.{same_Some}
use Rattle.std.proofs.Math.Seq.{take-append_seam}
use Rattle.byteorder.specs.Endian.{little_number, little_bytes}
use Rattle.byteorder.specs.Numbers.{little_number-reads_back}
use Rattle.customer_data.specs.Text.{IsData}
use Rattle.customer_data.specs.Words.{data_bytes, data_words}
use Rattle.customer_data.specs.declared.words.TheConstants.{MIN_DATA, MAX_DATA}
use Rattle.customer_data.proofs.Texts.{data_back}
use Rattle.encoding.specs.Puts.{IsRow}
use Rattle.log_text.specs.Writes.{is_data}
use Rattle.log_entries.specs.Logged.{text_behind, text_of_words}

-- in the bytes of a text stands the text
behind_length : (text : List ℕ) → length text ≤ 500 → text_behind (data_bytes text) ≡ text
behind_length text few =
    let zeros : List ℕ = replicate (502 - length text) 0 in
    let told : little_number 2 (data_bytes text) ≡ length text =
    little_number-reads_back 2 (length text) (text ++ zeros) (omega (arith, few)) in
    ap (λ k. take k (text ++ zeros)) told ∙ take-append_seam text zeros

pub text_again : (words : List ℕ) (is : IsRow data_words IsData (Some words)) → text_of_words words ≡ is.0
unfolding text_of_words
text_again words is =
    ap (λ (ws : List ℕ). text_behind (flat_map (little_bytes 8) ws)) (same_Some _ _ is.1)
    ∙ ap text_behind (data_back is.0 is.2) ∙ behind_length is.0 is.2.at_most

all_printable : (text : List ℕ) → All (λ b. (32 ≤ b) × (b ≤ 126)) text → list_all (λ b. nat_le 32 b && nat_le b 126) text ≡ true
all_printable [] each = refl
all_printable (b ∷ bs) each =
    let this = All-head (λ b. (32 ≤ b) × (b ≤ 126)) b bs each in
    and_from (nat_le 32 b && nat_le b 126) (list_all (λ b. nat_le 32 b && nat_le b 126) bs)
    (and_from (nat_le 32 b) (nat_le b 126) (le-leb 32 b this.0) (le-leb b 126 this.1)) (all_printable bs (All-tail (λ b. (32 ≤ b) × (b ≤ 126)) b bs each))

-- a text of C_DATA is one of a log file
pub data_lawful : (text : List ℕ) → IsData text → is_data text ≡ true
data_lawful text is =
    and_from (nat_le MIN_DATA (length text) && nat_le (length text) MAX_DATA) (list_all (λ b. nat_le 32 b && nat_le b 126) text)
    (and_from (nat_le MIN_DATA (length text)) (nat_le (length text) MAX_DATA) (le-leb MIN_DATA (length text) is.at_least) (le-leb (length text) MAX_DATA is.at_most))
    (all_printable text is.printable)
