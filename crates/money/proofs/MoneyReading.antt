-- From a text to its parts, and back: what a reader of money texts rests on.
use Rattle.std.proofs.Common.{◌≡◌, ◌≢◌, ℕ, suc, ◌+◌, ◌-◌, ◌*◌, ◌/◌, ◌%◌, ◌<◌, ◌≤◌, ℤ, pos, negsuc, List, [], ◌∷◌, ◌++◌, length, get_or, take, drop, sym, ◌∙◌}
use Rattle.std.proofs.Common.{ap, refl, arith, w64}
use Rattle.std.proofs.lemmas.Int.{fits_signed_from_abs}
use Rattle.std.proofs.lemmas.List.{length-append, length-drop, take-append-drop}
use Rattle.std.proofs.Math.Seq.{take-length}
use Rattle.std.specs.Fmt.{decimal}
use Rattle.std.specs.Int.{IsInRange}
use Rattle.money.specs.Money.{two_digits, unsigned_money_text, IsMoneyText}
use Rattle.money.proofs.MoneyText.{same_parts, unsigned_money_text-injective, unsigned_money_text-first, money_text-injective}

-- a money text without a sign is its units and its last three bytes
pub split_text : (bs : List ℕ) (n : ℕ) → bs ≡ unsigned_money_text n
    → (take (length bs - 3) bs ≡ decimal (n / 100)) × (drop (length bs - 3) bs ≡ 46 ∷ two_digits (n % 100))
split_text bs n e =
    let size : length bs ≡ length (decimal (n / 100)) + 3 = ap length e ∙ length-append (decimal (n / 100)) (46 ∷ two_digits (n % 100)) in
    let tail : length (drop (length bs - 3) bs) ≡ 3 = omega (arith, length-drop (length bs - 3) bs) in
    same_parts (take (length bs - 3) bs) (decimal (n / 100)) (drop (length bs - 3) bs) (46 ∷ two_digits (n % 100))
    tail (take-append-drop (length bs - 3) bs ∙ e)

-- a list of three is its three elements
three : (bs : List ℕ) → length bs ≡ 3 → bs ≡ get_or bs 0 0 ∷ get_or bs 1 0 ∷ get_or bs 2 0 ∷ []
three [] e = absurd (omega arith)
three (a ∷ []) e = absurd (omega arith)
three (a ∷ b ∷ []) e = absurd (omega arith)
three (a ∷ b ∷ c ∷ []) e = refl
three (a ∷ b ∷ c ∷ d ∷ bs) e = absurd (omega arith)

-- the digits of a number made of its units and two digits
two_digits-of : (u t o : ℕ) → t < 10 → o < 10
    → ((u * 100 + (t * 10 + o)) / 100 ≡ u) × (two_digits ((u * 100 + (t * 10 + o)) % 100) ≡ (48 + t) ∷ (48 + o) ∷ [])
two_digits-of u t o p q =
    let units : (u * 100 + (t * 10 + o)) / 100 ≡ u = omega arith in
    let rest : (u * 100 + (t * 10 + o)) % 100 ≡ t * 10 + o = omega arith in
    let tens : (t * 10 + o) / 10 ≡ t = omega arith in
    let ones : (t * 10 + o) % 10 ≡ o = omega arith in
    (units, rw (rest, tens, ones))

-- units, a point and two digits are the money text of what they stand for
pub join_text : (bs us tail : List ℕ) (u t o : ℕ) → 3 ≤ length bs
    → us ≡ take (length bs - 3) bs → tail ≡ drop (length bs - 3) bs → us ≡ decimal u → get_or tail 0 0 ≡ 46
    → IsInRange 48 57 (get_or tail 1 0) → IsInRange 48 57 (get_or tail 2 0) → t ≡ get_or tail 1 0 - 48 → o ≡ get_or tail 2 0 - 48
    → bs ≡ unsigned_money_text (u * 100 + (t * 10 + o))
join_text bs us tail u t o long front back units point tens ones t_is o_is =
    let size : length tail ≡ 3 = rw back (omega (arith, length-drop (length bs - 3) bs)) in
    let t_back : get_or tail 1 0 ≡ 48 + t = omega arith in
    let o_back : get_or tail 2 0 ≡ 48 + o = omega arith in
    let ends : tail ≡ 46 ∷ (48 + t) ∷ (48 + o) ∷ [] = three tail size ∙ rw (point, t_back, o_back) in
    let parts = two_digits-of u t o (omega arith) (omega arith) in
    let whole : us ++ tail ≡ bs = rw (front, back) (take-append-drop (length bs - 3) bs) in
    sym whole ∙ rw (parts.0, parts.1, units, ends)

-- a text that begins with a minus is that minus and the rest
pub after_minus : (bs : List ℕ) → get_or bs 0 0 ≡ 45 → bs ≡ 45 ∷ take (length bs - 1) (drop 1 bs)
after_minus [] e = absurd (omega arith)
after_minus (b ∷ bs) e =
    let rest : length (b ∷ bs) - 1 ≡ length bs = omega arith in
    rw (e, rest, take-length bs)

-- after a minus stands no money text without a sign, so the whole is none
pub no_money_below : (bs rest : List ℕ) → bs ≡ 45 ∷ rest
    → ((n : ℕ) → n ≤ 10000000000000 → rest ≢ unsigned_money_text n) → (z : ℤ) → ¬ IsMoneyText bs z
no_money_below bs rest e none (pos m) text =
    unsigned_money_text-first m (omega arith) (ap (λ xs. get_or xs 0 0) (sym text.0 ∙ e))
no_money_below bs rest e none (negsuc m) text = none (suc m) text.1 (ap (drop 1) (sym e ∙ text.0))

-- the same where no minus stands
pub no_money_above : (bs : List ℕ) → get_or bs 0 0 ≢ 45
    → ((n : ℕ) → n ≤ 10000000000000 → bs ≢ unsigned_money_text n) → (z : ℤ) → ¬ IsMoneyText bs z
no_money_above bs unsigned none (pos m) text = none m text.1 text.0
no_money_above bs unsigned none (negsuc m) text = unsigned (ap (λ xs. get_or xs 0 0) text.0)

-- zero has no sign
pub no_negative_zero : (bs rest : List ℕ) → bs ≡ 45 ∷ rest → rest ≡ unsigned_money_text 0 → (z : ℤ) → ¬ IsMoneyText bs z
no_negative_zero bs rest e zero_text (pos m) text =
    unsigned_money_text-first m (omega arith) (ap (λ xs. get_or xs 0 0) (sym text.0 ∙ e))
no_negative_zero bs rest e zero_text (negsuc m) text =
    let same : suc m ≡ 0 =
    unsigned_money_text-injective (suc m) 0 (omega arith) (omega arith) (ap (drop 1) (sym text.0 ∙ e) ∙ zero_text) in
    absurd (omega arith)

-- a text is the money text of one amount within the limit at most
pub one_value : (bs : List ℕ) (a b : ℤ) → IsMoneyText bs a → IsMoneyText bs b → a ≡ b
one_value bs a b p q =
    money_text-injective a b (fits_signed_from_abs w64 a (omega arith)) (fits_signed_from_abs w64 b (omega arith)) (sym p.0 ∙ q.0)
