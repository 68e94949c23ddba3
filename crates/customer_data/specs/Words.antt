-- The words that stand for a text.
use Rattle.std.specs.Prelude.{ℕ, zero, suc, ◌-◌, List, [], ◌∷◌, ◌++◌, length, drop, replicate}
use Rattle.byteorder.specs.Endian.{little_number, little_bytes}
use Rattle.customer_data.specs.declared.words.TheConstants.{DATA_WORDS}

-- so many words, each of the next eight bytes, the lowest first; opaque, since at 63 it would open into 63 terms in
-- each goal above
unfoldable pub words_in : ℕ → List ℕ → List ℕ
words_in zero bytes = []
words_in (suc n) bytes = little_number 8 bytes ∷ words_in n (drop 8 bytes)

-- a text as 504 bytes: its length in two bytes, the lowest first, the text, and zeros
abbrev pub data_bytes : List ℕ → List ℕ
data_bytes text = little_bytes 2 (length text) ++ (text ++ replicate (502 - length text) 0)

abbrev pub data_words : List ℕ → List ℕ
data_words text = words_in DATA_WORDS (data_bytes text)
