-- Each customer is named by a word of its own.
use Rattle.std.proofs.Common.{◌≡◌, ◌≢◌, ℕ, zero, suc, ◌+◌, ◌*◌, ◌<◌, ◌≤◌, ◌^◌, ◌/◌, ◌%◌, inl, inr, false, cond, eqb, List, [], ◌∷◌, ◌++◌, length, take, get_or}
use Rattle.std.proofs.Common.{codes, Option, Some, None, MatchOption, MatchResult, append-nil, append_assoc, sym, ap, ◌∙◌, subst, refl, arith, lit≤}
use Rattle.std.specs.Bool.{⊤}
use Rattle.std.specs.Cmp.Lexicographic.{pointwise}
use Rattle.std.specs.Fmt.{decimal}
use Rattle.std.specs.List.{AllByRecursion}
use Rattle.std.specs.Option.{ok_or}
use Rattle.std.proofs.lemmas.Bool.{cases_lt}
use Rattle.std.proofs.lemmas.Bool.Decides.{Decides-eqb}
use Rattle.std.proofs.lemmas.Fmt.{decimal_injective}
use Rattle.std.proofs.lemmas.List.{append_cancel_left, get_or_past}
use Rattle.std.proofs.lemmas.List.Elements.{All-from_recursion}
use Rattle.std.proofs.lemmas.Slice.Eq.{strip_prefix_is}
use Rattle.money.specs.declared.refusal.Refusal.TheVariants.{BadLine}
use Rattle.tables.specs.declared.limits.TheConstants.{LAST_NAMES}
use Rattle.tables.specs.declared.customer.Who.{Who}
use Rattle.tables.specs.declared.customer.Who.TheVariants.{Id, Last}
use Rattle.program_script_text.specs.Words.{words}
use Rattle.program_script_text.specs.LastNames.{syllables, syllable, name_word, who_word, HasWho}
use Rattle.program_script_text.proofs.Numbers.{first_of_decimal}
use Rattle.program_script_text.proofs.Spaces.{HasNoSpace, letters, lacks_append, decimal_no_space, words_one, text_from_words}

-- the digit whose syllable a text begins with: its first byte tells, and behind A, E and P the second or third
abbrev digit_from : List ℕ → ℕ
digit_from text =
    cond (eqb (get_or text 0 0) 66) 0
    (cond (eqb (get_or text 0 0) 79) 1
    (cond (eqb (get_or text 0 0) 67) 7
    (cond (eqb (get_or text 0 0) 80) (cond (eqb (get_or text 2 0) 73) 3 4)
    (cond (eqb (get_or text 0 0) 69) (cond (eqb (get_or text 1 0) 83) 5 9)
    (cond (eqb (get_or text 1 0) 66) 2 (cond (eqb (get_or text 1 0) 78) 6 8))))))

-- what holds of each number below n
abbrev Below : (ℕ → Type 0) → ℕ → Type 0
Below P zero = ⊤
Below P (suc n) = P n × Below P n

of_below : (P : ℕ → Type 0) (n d : ℕ) → Below P n → d < n → P d
of_below P zero d h small = absurd (omega arith)
of_below P (suc n) d h small =
    elim (cases_lt d n) [
      | inl below ↦ of_below P n d h.1 below
      | inr above ↦ let last : n ≡ d = omega arith in subst P last h.0
    ]

digit_of_syllable : (d : ℕ) (rest : List ℕ) → d < 10 → digit_from (syllable d ++ rest) ≡ d
digit_of_syllable d rest = of_below (λ d. digit_from (syllable d ++ rest) ≡ d) 10 d
    (refl, (refl, (refl, (refl, (refl, (refl, (refl, (refl, (refl, (refl, tt))))))))))

-- so a text begins with one syllable
same_syllable : (a b : ℕ) (xs ys : List ℕ) → a < 10 → b < 10 → syllable a ++ xs ≡ syllable b ++ ys → (a ≡ b) × (xs ≡ ys)
same_syllable a b xs ys small_a small_b e =
    let same : a ≡ b = sym (digit_of_syllable a xs small_a) ∙ ap digit_from e ∙ digit_of_syllable b ys small_b in
    (same, append_cancel_left (syllable b) xs ys (subst (λ d. syllable d ++ xs ≡ syllable b ++ ys) same e))

-- what stands behind it
behind_syllable : (a b : ℕ) (text xs ys : List ℕ) → a < 10 → b < 10 → text ≡ syllable a ++ xs → text ≡ syllable b ++ ys → xs ≡ ys
behind_syllable a b text xs ys small_a small_b e f = (same_syllable a b xs ys small_a small_b (sym e ∙ f)).1

-- the syllables of a name, one behind another
pub name_parts : (n : ℕ) → name_word n ≡ syllable (n / 100) ++ (syllable (n / 10 % 10) ++ syllable (n % 10))
name_parts n = append_assoc (syllable (n / 100)) (syllable (n / 10 % 10)) (syllable (n % 10))

-- what stands behind a name's first syllable, behind its second, and behind its third
pub behind_hundreds : (a n : ℕ) (word rest : List ℕ) → a < 10 → n < LAST_NAMES → word ≡ syllable a ++ rest → word ≡ name_word n → rest ≡ syllable (n / 10 % 10)
    ++ syllable (n % 10)
behind_hundreds a n word rest small small_n e f =
    behind_syllable a (n / 100) word rest (syllable (n / 10 % 10) ++ syllable (n % 10)) small (omega arith) e (f ∙ name_parts n)

pub behind_tens : (b n : ℕ) (text rest : List ℕ) → b < 10 → text ≡ syllable b ++ rest → text ≡ syllable (n / 10 % 10) ++ syllable (n % 10)
    → rest ≡ syllable (n % 10) ++ []
behind_tens b n text rest small e f =
    behind_syllable b (n / 10 % 10) text rest (syllable (n % 10)) small (omega arith) e f ∙ sym (append-nil (syllable (n % 10)))

pub behind_ones : (c n : ℕ) (text rest : List ℕ) → c < 10 → text ≡ syllable c ++ rest → text ≡ syllable (n % 10) ++ [] → rest ≡ []
behind_ones c n text rest small e f = behind_syllable c (n % 10) text rest [] small (omega arith) e f

-- three syllables are a name
pub name_of_digits : (a b c : ℕ) (word rest last tail : List ℕ) → a < 10 → b < 10 → c < 10 → word ≡ syllable a ++ rest → rest ≡ syllable b ++ last
    → last ≡ syllable c ++ tail → tail ≡ [] → word ≡ name_word (a * 100 + b * 10 + c)
name_of_digits a b c word rest last tail small_a small_b small_c e f g none =
    let n = a * 100 + b * 10 + c in
    let hundreds : n / 100 ≡ a = omega arith in
    let tens : n / 10 % 10 ≡ b = omega arith in
    let ones : n % 10 ≡ c = omega arith in
    let end : last ≡ syllable c = g ∙ ap (λ l. syllable c ++ l) none ∙ append-nil (syllable c) in
    let parts : word ≡ syllable a ++ (syllable b ++ syllable c) = e ∙ ap (λ l. syllable a ++ l) (f ∙ ap (λ l. syllable b ++ l) end) in
    rw (hundreds, tens, ones) (parts ∙ sym (append_assoc (syllable a) (syllable b) (syllable c)))

-- a text that begins with no syllable so far, and not with the next
pub begins_with_none : (k : ℕ) (text prefix : List ℕ) → prefix ≡ syllable k → pointwise eqb (take (length prefix) text) prefix ≡ false
    → ((d : ℕ) → d < k → (rest : List ℕ) → text ≢ syllable d ++ rest) → (d : ℕ) → d < k + 1 → (rest : List ℕ) → text ≢ syllable d ++ rest
begins_with_none k text prefix is apart none d within rest e =
    elim (cases_lt d k) [
      | inl below ↦ none d below rest e
      | inr above ↦ let last : d ≡ k = omega arith in
          strip_prefix_is Decides-eqb text prefix None apart rest (e ∙ ap (λ i. syllable i ++ rest) last ∙ ap (λ l. l ++ rest) (sym is))
    ]

-- a name is the name of one number
name_injective : (m n : ℕ) → m < LAST_NAMES → n < LAST_NAMES → name_word m ≡ name_word n → m ≡ n
name_injective m n small_m small_n e =
    let first = same_syllable (m / 100) (n / 100) (syllable (m / 10 % 10) ++ syllable (m % 10)) (syllable (n / 10 % 10) ++ syllable (n % 10)) (omega arith)
    (omega arith) (sym (name_parts m) ∙ e ∙ name_parts n) in
    let second = same_syllable (m / 10 % 10) (n / 10 % 10) (syllable (m % 10)) (syllable (n % 10)) (omega arith) (omega arith) first.1 in
    let third = same_syllable (m % 10) (n % 10) [] [] (omega arith) (omega arith)
    (append-nil (syllable (m % 10)) ∙ second.1 ∙ sym (append-nil (syllable (n % 10)))) in
    omega (arith, first.0, second.0, third.0)

-- a name begins with a letter, and no number does
syllable_letter : (d : ℕ) (rest : List ℕ) → d < 10 → 65 ≤ get_or (syllable d ++ rest) 0 0
syllable_letter d rest =
    of_below (λ d. 65 ≤ get_or (syllable d ++ rest) 0 0) 10 d
    (lit≤ tt, (lit≤ tt, (lit≤ tt, (lit≤ tt, (lit≤ tt, (lit≤ tt, (lit≤ tt, (lit≤ tt, (lit≤ tt, (lit≤ tt, tt))))))))))

pub no_name : (c n : ℕ) → c < 2 ^ 32 → n < LAST_NAMES → decimal c ≢ name_word n
no_name c n small_c small_n e =
    let letter = syllable_letter (n / 100) (syllable (n / 10 % 10) ++ syllable (n % 10)) (omega arith) in
    let same = ap (λ l. get_or l 0 0) (e ∙ name_parts n) in
    omega (arith, first_of_decimal c small_c, letter, same)

-- a word names one customer
pub same_who : (a b : Who) → HasWho a → HasWho b → who_word a ≡ who_word b → a ≡ b
same_who (Id c) (Id d) h i e = ap Id (decimal_injective c d (omega arith) (omega arith) e)
same_who (Last m) (Last n) h i e = ap Last (name_injective m n h i e)
same_who (Id c) (Last n) h i e = absurd (no_name c n h i e)
same_who (Last n) (Id c) h i e = absurd (no_name c n i h (sym e))

-- the customer at word k
pub who_at : (k : ℕ) (xs ys : List (List ℕ)) (a b : Who) → get_or xs k [] ≡ who_word a → get_or ys k [] ≡ who_word b → xs ≡ ys → HasWho a → HasWho b → a ≡ b
who_at k xs ys a b is_a is_b e h i = same_who a b h i (sym is_a ∙ ap (λ l. get_or l k []) e ∙ is_b)

-- neither a number nor a name has a space
syllables_no_space : AllByRecursion HasNoSpace syllables
syllables_no_space = (
  letters (codes "BAR") refl,
  (
    letters (codes "OUGHT") refl,
    (
      letters (codes "ABLE") refl,
      (
        letters (codes "PRI") refl,
        (
          letters (codes "PRES") refl,
          (
            letters (codes "ESE") refl,
            (
              letters (codes "ANTI") refl,
              (letters (codes "CALLY") refl, (letters (codes "ATION") refl, (letters (codes "EING") refl, tt))),
            ),
          ),
        ),
      ),
    ),
  ),
)

syllable_no_space : (d : ℕ) → HasNoSpace (syllable d)
syllable_no_space d =
    elim (cases_lt d 10) [
      | inl small ↦ All-from_recursion HasNoSpace syllables syllables_no_space d [] small
      | inr past ↦ subst HasNoSpace (sym (get_or_past syllables d [] past)) tt
    ]

pub who_no_space : (who : Who) → HasNoSpace (who_word who)
who_no_space (Id c) = decimal_no_space c
who_no_space (Last n) =
    lacks_append 32 (syllable (n / 100) ++ syllable (n / 10 % 10)) (syllable (n % 10))
    (lacks_append 32 (syllable (n / 100)) (syllable (n / 10 % 10)) (syllable_no_space (n / 100)) (syllable_no_space (n / 10 % 10)))
    (syllable_no_space (n % 10))

-- what an only word says, where it may name a customer
pub last_from_who : (text : List ℕ) (o : Option Who) → MatchOption o ((who : Who) → HasWho who → text ≢ who_word who) (λ who. text ≡ who_word who)
    → MatchResult (ok_or o BadLine) (λ who. words text ≡ who_word who ∷ [])
    (λ refusal. (refusal ≡ BadLine) × ((who : Who) → HasWho who → words text ≢ who_word who ∷ []))
last_from_who text None none = (refl, λ who h e. none who h (text_from_words text (who_word who ∷ []) e))
last_from_who text (Some who) is = ap words is ∙ words_one (who_word who) (who_no_space who)
