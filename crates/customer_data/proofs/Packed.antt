-- Bytes as words of eight each, and these words as bytes again.
use Rattle.std.proofs.Common.{◌≡◌, ℕ, zero, suc, ◌+◌, ◌*◌, ◌<◌, ◌≤◌, List, [], ◌∷◌, ◌++◌, length, get_or, take, drop}
use Rattle.std.proofs.Common.{refl, sym, ap, ◌∙◌, inl, inr, arith}
use Rattle.std.specs.Prelude.{All}
use Rattle.std.specs.List.{flat_map}
use Rattle.std.specs.Int.{w64, from_le_bytes}
use Rattle.std.proofs.lemmas.Bool.{cases_lt}
use Rattle.std.proofs.lemmas.List.{get_or_past, length-drop, length-take-le, drop-drop, take-append-drop}
use Rattle.std.proofs.lemmas.List.Elements.{All-drop, All-get_or, All-take}
use Rattle.std.proofs.lemmas.Nat.{le_bytes_8}
use Rattle.byteorder.specs.Endian.{little_from, little_number, little_bytes, IsRead}
use Rattle.byteorder.specs.Numbers.{little_from-take}
use Rattle.customer_data.specs.Words.{words_in}

abbrev pub IsByte : ℕ → Type 0
IsByte b = b < 256

-- words that are read one by one are those of the bytes
pub words_read : (n : ℕ) (bytes words : List ℕ) → length words ≡ n → IsRead little_number 8 bytes words
    → words ≡ words_in n bytes
unfolding words_in
words_read zero bytes [] long is = refl
words_read zero bytes (w ∷ ws) long is = absurd (omega arith)
words_read (suc n) bytes [] long is = absurd (omega arith)
words_read (suc n) bytes (w ∷ ws) long is =
    let behind : List ℕ = drop 8 bytes in
    let word : ℕ → ℕ = λ place. little_number 8 (drop place bytes) in
    let first : w ≡ little_number 8 bytes = is 0 (omega arith) in
    let others : ws ≡ words_in n behind =
    words_read n behind ws (omega (arith, long)) (λ k lt.
    let step : 8 * suc k ≡ 8 + 8 * k = omega arith in
    is (suc k) (omega (arith, lt)) ∙ ap word step ∙ ap (little_number 8) (sym (drop-drop (8 * k) 8 bytes))) in
    cc

-- each place of bytes has a byte, also behind their end
byte_there : (bytes : List ℕ) → All IsByte bytes → (i : ℕ) → get_or bytes i 0 < 256
byte_there bytes are i = elim (cases_lt i (length bytes)) [
  | inl within ↦ All-get_or IsByte bytes i 0 within are
  | inr past ↦ omega (arith, get_or_past bytes i 0 past)
]

number_is : (bytes : List ℕ) → little_from 0 8 bytes ≡ from_le_bytes w64 bytes
number_is bytes = omega arith

-- the bytes of the word in the first eight bytes are these
word_back : (bytes : List ℕ) → 8 ≤ length bytes → All IsByte bytes
    → little_bytes 8 (little_number 8 bytes) ≡ take 8 bytes
word_back bytes long are =
    let front : List ℕ = take 8 bytes in
    let same : little_number 8 bytes ≡ from_le_bytes w64 front =
    sym (little_from-take 0 8 8 bytes (omega arith)) ∙ number_is front in
    le_bytes_8 front _ (length-take-le 8 bytes long) (byte_there front (All-take IsByte 8 bytes are)) same

-- the bytes of bytes' words are these
pub words_back : (n : ℕ) (bytes : List ℕ) → length bytes ≡ 8 * n → All IsByte bytes
    → flat_map (little_bytes 8) (words_in n bytes) ≡ bytes
unfolding words_in
words_back zero [] long are = refl
words_back zero (b ∷ bs) long are = absurd (omega arith)
words_back (suc n) bytes long are =
    let front : List ℕ = take 8 bytes in
    let behind : List ℕ = drop 8 bytes in
    let of_behind : List ℕ = flat_map (little_bytes 8) (words_in n behind) in
    let fewer : length behind ≡ 8 * n = omega (arith, long, length-drop 8 bytes) in
    ap (λ (xs : List ℕ). xs ++ of_behind) (word_back bytes (omega (arith, long)) are)
    ∙ ap (λ (xs : List ℕ). front ++ xs) (words_back n behind fewer (All-drop IsByte 8 bytes are))
    ∙ take-append-drop 8 bytes
