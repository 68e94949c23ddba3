-- Words without a mark, such as a space, and the texts that they make.
use Rattle.std.proofs.Common.{◌≡◌, ◌≢◌, ℕ, zero, suc, ◌+◌, ◌<◌, ◌/◌, ◌%◌, Bool, true, false, cond, eqb, ltb, not, List, [], ◌∷◌, ◌++◌, length, sym, ap, ◌∙◌}
use Rattle.std.proofs.Common.{refl, arith}
use Rattle.std.specs.Fmt.{decimal, digits, digits_onto, digit_glyph}
use Rattle.std.specs.List.{AllByRecursion, list_all, join_with_byte, slice_split}
use Rattle.std.proofs.lemmas.Bool.{false_from_ne_true, false≢true, not-true}
use Rattle.std.proofs.lemmas.Bool.Decides.{Decides-eqb, Decides-ltb}
use Rattle.std.proofs.lemmas.List.Elements.{All-from_recursion}
use Rattle.std.proofs.lemmas.List.Splits.{slice_split_at, slice_split_none, join_with_byte-slice_split, length-slice_split}
use Rattle.program_script_text.specs.Words.{words}
use Rattle.program_script_text.proofs.Numerals.{and_left, and_right}

-- no byte is the mark
abbrev pub Lacks : ℕ → List ℕ → Type 0
Lacks mark xs = AllByRecursion (λ b. eqb b mark ≡ false) xs

-- no byte is a space
abbrev pub HasNoSpace : List ℕ → Type 0
HasNoSpace xs = Lacks 32 xs

pub not_mark : (mark b : ℕ) → b ≢ mark → eqb b mark ≡ false
not_mark mark b apart = false_from_ne_true _ (λ e. apart ((Decides-eqb b mark).0 e))

pub not_space : (b : ℕ) → 32 < b → eqb b 32 ≡ false
not_space b above = not_mark 32 b (λ e. omega arith)

-- a text that is written out has no space
pub letters : (xs : List ℕ) → list_all (λ b. not (eqb b 32)) xs ≡ true → HasNoSpace xs
letters [] e = tt
letters (x ∷ xs) e = (not-true _ (and_left _ _ e), letters xs (and_right _ _ e))

-- the mark is no digit
abbrev pub IsNoDigit : ℕ → Type 0
IsNoDigit mark = (d : ℕ) → d < 10 → 48 + d ≢ mark

glyph_lacks : (mark d : ℕ) → IsNoDigit mark → d < 10 → eqb (digit_glyph false d) mark ≡ false
glyph_lacks mark d apart small = go (ltb d 10) ((Decides-ltb d 10).1 small)
  where
    go : (t : Bool) → t ≡ true → eqb (cond t (48 + d) (cond false (55 + d) (87 + d))) mark ≡ false
    go true e = not_mark mark (48 + d) (apart d small)
    go false e = absurd (false≢true e)

cond_lacks : (mark : ℕ) (t : Bool) (xs ys : List ℕ) → Lacks mark xs → Lacks mark ys → Lacks mark (cond t xs ys)
cond_lacks mark true xs ys h i = h
cond_lacks mark false xs ys h i = i

digits_onto_lacks : (mark k n : ℕ) (acc : List ℕ) → IsNoDigit mark → Lacks mark acc → Lacks mark (digits_onto k 10 false n acc)
digits_onto_lacks mark zero n acc apart h = h
digits_onto_lacks mark (suc k) n acc apart h =
    let more : Lacks mark (digit_glyph false (n % 10) ∷ acc) = (glyph_lacks mark (n % 10) apart (omega arith), h) in
    cond_lacks mark (eqb (n / 10) 0) _ _ more (digits_onto_lacks mark k (n / 10) (digit_glyph false (n % 10) ∷ acc) apart more)

decimal_lacks : (mark n : ℕ) → IsNoDigit mark → Lacks mark (decimal n)
unfolding digits
decimal_lacks mark n apart = digits_onto_lacks mark 64 n [] apart tt

-- neither a space nor a colon is a digit
pub decimal_no_space : (n : ℕ) → HasNoSpace (decimal n)
decimal_no_space n = decimal_lacks 32 n (λ d small e. omega arith)

pub decimal_no_colon : (n : ℕ) → Lacks 58 (decimal n)
decimal_no_colon n = decimal_lacks 58 n (λ d small e. omega arith)

-- words that lack one mark, joined by another
pub lacks_append : (mark : ℕ) (xs ys : List ℕ) → Lacks mark xs → Lacks mark ys → Lacks mark (xs ++ ys)
lacks_append mark [] ys h i = i
lacks_append mark (x ∷ xs) ys h i = (h.0, lacks_append mark xs ys h.1 i)

pub joined_lacks : (mark between : ℕ) (ws : List (List ℕ)) → eqb between mark ≡ false → AllByRecursion (Lacks mark) ws → Lacks mark (join_with_byte between ws)
joined_lacks mark between [] apart h = tt
joined_lacks mark between (w ∷ []) apart h = h.0
joined_lacks mark between (w ∷ next ∷ ws) apart h = lacks_append mark w _ h.0 (apart, joined_lacks mark between (next ∷ ws) apart h.1)

-- a word is the only word of itself
pub words_one : (word : List ℕ) → HasNoSpace word → words word ≡ word ∷ []
words_one word h = slice_split_none _ word (All-from_recursion _ word h)

-- words without the mark, joined by it, are the parts between the marks
pub parts_joined : (mark : ℕ) (first : List ℕ) (ws : List (List ℕ)) → AllByRecursion (Lacks mark) (first ∷ ws)
    → slice_split (λ b. eqb b mark) (join_with_byte mark (first ∷ ws)) ≡ first ∷ ws
parts_joined mark first [] h = slice_split_none _ first (All-from_recursion _ first h.0)
parts_joined mark first (next ∷ ws) h =
    slice_split_at _ first mark (join_with_byte mark (next ∷ ws)) (All-from_recursion _ first h.0) ((Decides-eqb mark mark).1 refl)
    ∙ ap (λ l. first ∷ l) (parts_joined mark next ws h.1)

-- words without a space, joined, are those words again
pub words_joined : (first : List ℕ) (ws : List (List ℕ)) → AllByRecursion HasNoSpace (first ∷ ws) → words (join_with_byte 32 (first ∷ ws)) ≡ first ∷ ws
words_joined first ws h = parts_joined 32 first ws h

-- a text is its words joined
pub text_from_words : (text : List ℕ) (ws : List (List ℕ)) → words text ≡ ws → text ≡ join_with_byte 32 ws
text_from_words text ws e = sym (join_with_byte-slice_split 32 text) ∙ ap (join_with_byte 32) e

-- and its first word, a space and the rest
pub text_from_first : (text first rest : List ℕ) → words text ≡ first ∷ words rest → text ≡ first ++ 32 ∷ rest
text_from_first text first rest e = text_from_words text (first ∷ words rest) e ∙ go (words rest) refl
  where
    go : (ws : List (List ℕ)) → words rest ≡ ws → join_with_byte 32 (first ∷ ws) ≡ first ++ 32 ∷ rest
    go [] is = absurd (let none : length (words rest) ≡ 0 = ap length is in omega (arith, length-slice_split (λ b. eqb b 32) rest))
    go (w ∷ ws) is = ap (λ l. first ++ 32 ∷ l) (sym (text_from_words rest (w ∷ ws) is))
