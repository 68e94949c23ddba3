-- Each request has a line of its own.
use Rattle.std.proofs.Common.{◌≡◌, ℕ, zero, suc, ◌+◌, ◌-◌, ◌/◌, ◌%◌, List, [], ◌∷◌, get_or, drop, map, ℤ, pos, negsuc, sym, ap, ◌∙◌, refl, arith, lit≤}
use Rattle.std.specs.Int.Digits.{digits_of}
use Rattle.std.proofs.lemmas.Int.{ints}
use Rattle.std.proofs.lemmas.Int.Digits.{same_from_digits_of}
use Rattle.tables.specs.declared.input.Input.{Input}
use Rattle.tables.specs.declared.input.Input.TheVariants.{Payment, NewOrder, Delivery, OrderStatus, StockLevel}
use Rattle.program_script_text.specs.declared.request.Request.{Request}
use Rattle.program_script_text.specs.declared.request.Request.TheVariants.{Transaction, Show}
use Rattle.program_script_text.specs.declared.request.ShowKey.{ShowKey}
use Rattle.program_script_text.specs.declared.request.ShowKey.TheVariants.{Warehouse, District, Customer, CustomerData, Stock, Order}
use Rattle.program_script_text.specs.Amount.{numeral, unsigned_amount_text, amount_text}
use Rattle.program_script_text.specs.Words.{words}
use Rattle.tables.specs.Sizes.{Sizes}
use Rattle.program_script_text.specs.Requests.{IsInputAt, HasKeyNumbers, IsRequestAt, IsWithinReach, IsInRange, input_words, key_words, request_words, request_text}
use Rattle.program_script_text.proofs.Numerals.{numeral_of_some, numeral_zero, zero_from_first}
use Rattle.program_script_text.proofs.Amounts.{units_of, cents_of, no_sign}
use Rattle.program_script_text.proofs.LastNames.{who_at}
use Rattle.program_script_text.proofs.OrderLines.{number_at, same_lines}
use Rattle.program_script_text.proofs.RequestLemmas.{kind_of, no_input, words_request}

digits_of_glyphs : (xs : List ℕ) → map (λ c. c - 48) (map (λ d. 48 + d) xs) ≡ xs
digits_of_glyphs [] = refl
digits_of_glyphs (d ∷ ds) =
    let same : 48 + d - 48 ≡ d = omega arith in
    ap (λ b. b ∷ map (λ c. c - 48) (map (λ e. 48 + e) ds)) same ∙ ap (λ l. d ∷ l) (digits_of_glyphs ds)

numeral_injective : (m n : ℕ) → numeral m ≡ numeral n → m ≡ n
numeral_injective zero zero e = refl
numeral_injective zero (suc n) e = sym (zero_from_first (suc n) (ap (λ l. get_or l 0 0) (sym e ∙ numeral_zero)))
numeral_injective (suc m) zero e = zero_from_first (suc m) (ap (λ l. get_or l 0 0) (e ∙ numeral_zero))
numeral_injective (suc m) (suc n) e =
    let glyphs = sym (numeral_of_some (suc m) (omega arith)) ∙ e ∙ numeral_of_some (suc n) (omega arith) in
    same_from_digits_of 10 (suc m) (suc n) (lit≤ tt)
    (sym (digits_of_glyphs (digits_of 10 (suc m))) ∙ ap (map (λ c. c - 48)) glyphs ∙ digits_of_glyphs (digits_of 10 (suc n)))

unsigned_injective : (m n : ℕ) → unsigned_amount_text m ≡ unsigned_amount_text n → m ≡ n
unsigned_injective m n e =
    let word = unsigned_amount_text m in
    let units : m / 100 ≡ n / 100 = numeral_injective (m / 100) (n / 100) (sym (units_of word m refl) ∙ units_of word n e) in
    let cents = sym (cents_of word m refl) ∙ cents_of word n e in
    let tens : 48 + m % 100 / 10 ≡ 48 + n % 100 / 10 = ap (λ l. get_or l 1 0) cents in
    let ones : 48 + m % 100 % 10 ≡ 48 + n % 100 % 10 = ap (λ l. get_or l 2 0) cents in
    omega arith

amount_injective : (y z : ℤ) → amount_text y ≡ amount_text z → y ≡ z
amount_injective (pos m) (pos n) e = ap pos (unsigned_injective m n e)
amount_injective (pos m) (negsuc n) e = absurd (no_sign m (ap (λ l. get_or l 0 0) e))
amount_injective (negsuc m) (pos n) e = absurd (no_sign n (ap (λ l. get_or l 0 0) (sym e)))
amount_injective (negsuc m) (negsuc n) e =
    let above : suc m ≡ suc n = unsigned_injective (suc m) (suc n) (ap (drop 1) e) in
    let same : m ≡ n = omega arith in
    ap negsuc same

same_input : (date : ℕ) (a b : Input) → IsInputAt date a → IsInputAt date b → input_words a ≡ input_words b → a ≡ b
same_input date (Payment x) (Payment y) h i e =
    let same_date : x.date ≡ y.date = h.0 ∙ sym i.0 in
    let same_w = number_at 1 _ _ x.warehouse y.warehouse refl refl e h.1 i.1 in
    let same_d = number_at 2 _ _ x.district y.district refl refl e h.2 i.2 in
    let same_cw = number_at 3 _ _ x.customer_warehouse y.customer_warehouse refl refl e h.3 i.3 in
    let same_cd = number_at 4 _ _ x.customer_district y.customer_district refl refl e h.4 i.4 in
    let same_who = who_at 5 _ _ x.who y.who refl refl e h.5 i.5 in
    let same_z = amount_injective x.amount y.amount (ap (λ l. get_or l 6 []) e) in
    λ j. Payment (record {
      date = same_date j;
      warehouse = same_w j;
      district = same_d j;
      customer_warehouse = same_cw j;
      customer_district = same_cd j;
      who = same_who j;
      amount = same_z j;
    })
same_input date (NewOrder x) (NewOrder y) h i e =
    let same_date : x.date ≡ y.date = h.0 ∙ sym i.0 in
    let same_w = number_at 1 _ _ x.warehouse y.warehouse refl refl e h.1 i.1 in
    let same_d = number_at 2 _ _ x.district y.district refl refl e h.2 i.2 in
    let same_c = number_at 3 _ _ x.customer y.customer refl refl e h.3 i.3 in
    let same_ls = same_lines x.lines y.lines h.4 i.4 (ap (drop 4) e) in
    λ j. NewOrder (record { date = same_date j; warehouse = same_w j; district = same_d j; customer = same_c j; lines = same_ls j })
same_input date (Delivery x) (Delivery y) h i e =
    let same_date : x.date ≡ y.date = h.0 ∙ sym i.0 in
    let same_w = number_at 1 _ _ x.warehouse y.warehouse refl refl e h.1 i.1 in
    let same_c = number_at 2 _ _ x.carrier y.carrier refl refl e h.2 i.2 in
    λ j. Delivery (record { date = same_date j; warehouse = same_w j; carrier = same_c j })
same_input date (OrderStatus x) (OrderStatus y) h i e =
    let same_date : x.date ≡ y.date = h.0 ∙ sym i.0 in
    let same_w = number_at 1 _ _ x.warehouse y.warehouse refl refl e h.1 i.1 in
    let same_d = number_at 2 _ _ x.district y.district refl refl e h.2 i.2 in
    let same_who = who_at 3 _ _ x.who y.who refl refl e h.3 i.3 in
    λ j. OrderStatus (record { date = same_date j; warehouse = same_w j; district = same_d j; who = same_who j })
same_input date (StockLevel x) (StockLevel y) h i e =
    let same_date : x.date ≡ y.date = h.0 ∙ sym i.0 in
    let same_w = number_at 1 _ _ x.warehouse y.warehouse refl refl e h.1 i.1 in
    let same_d = number_at 2 _ _ x.district y.district refl refl e h.2 i.2 in
    let same_t = number_at 3 _ _ x.threshold y.threshold refl refl e h.3 i.3 in
    λ j. StockLevel (record { date = same_date j; warehouse = same_w j; district = same_d j; threshold = same_t j })
same_input date a b h i e = absurd (let kinds : ◌≡◌ {A = ℕ} (kind_of (input_words a)) (kind_of (input_words b)) = ap kind_of e in omega arith)

same_key : (a b : ShowKey) → HasKeyNumbers a → HasKeyNumbers b → key_words a ≡ key_words b → a ≡ b
same_key (Warehouse w) (Warehouse v) h i e = ap Warehouse (number_at 1 _ _ w v refl refl e h i)
same_key (District k) (District l) h i e =
    let same_w = number_at 1 _ _ k.warehouse l.warehouse refl refl e h.0 i.0 in
    let same_d = number_at 2 _ _ k.district l.district refl refl e h.1 i.1 in
    λ j. District (record { warehouse = same_w j; district = same_d j })
same_key (Customer k) (Customer l) h i e =
    let same_w = number_at 1 _ _ k.warehouse l.warehouse refl refl e h.0 i.0 in
    let same_d = number_at 2 _ _ k.district l.district refl refl e h.1 i.1 in
    let same_c = number_at 3 _ _ k.customer l.customer refl refl e h.2 i.2 in
    λ j. Customer (record { warehouse = same_w j; district = same_d j; customer = same_c j })
same_key (CustomerData k) (CustomerData l) h i e =
    let same_w = number_at 1 _ _ k.warehouse l.warehouse refl refl e h.0 i.0 in
    let same_d = number_at 2 _ _ k.district l.district refl refl e h.1 i.1 in
    let same_c = number_at 3 _ _ k.customer l.customer refl refl e h.2 i.2 in
    λ j. CustomerData (record { warehouse = same_w j; district = same_d j; customer = same_c j })
same_key (Stock k) (Stock l) h i e =
    let same_w = number_at 1 _ _ k.warehouse l.warehouse refl refl e h.0 i.0 in
    let same_i = number_at 2 _ _ k.item l.item refl refl e h.1 i.1 in
    λ j. Stock (record { warehouse = same_w j; item = same_i j })
same_key (Order k) (Order l) h i e =
    let same_w = number_at 1 _ _ k.warehouse l.warehouse refl refl e h.0 i.0 in
    let same_d = number_at 2 _ _ k.district l.district refl refl e h.1 i.1 in
    let same_o = number_at 3 _ _ k.order l.order refl refl e h.2 i.2 in
    λ j. Order (record { warehouse = same_w j; district = same_d j; order = same_o j })
same_key a b h i e = absurd (let tables : ◌≡◌ {A = ℕ} (kind_of (key_words a)) (kind_of (key_words b)) = ap kind_of e in omega arith)

same_words : (date : ℕ) (a b : Request) → IsRequestAt date a → IsRequestAt date b → request_words a ≡ request_words b → a ≡ b
same_words date (Transaction x) (Transaction y) h i e = ap Transaction (same_input date x y h i e)
same_words date (Transaction x) (Show key) h i e = absurd (no_input x (key_words key) (sym e))
same_words date (Show key) (Transaction x) h i e = absurd (no_input x (key_words key) e)
same_words date (Show key) (Show other) h i e = ap Show (same_key key other h i (ap (drop 1) e))

-- the amount of a request that is in range is within the limit
pub in_reach : (s : Sizes) (request : Request) → IsInRange s request → IsWithinReach request
in_reach s (Transaction (Payment x)) is = omega (arith, ints, is.at_least, is.at_most)
in_reach s _ is = tt

-- two requests of one date with the same line are the same
pub one_line_one_request : (date : ℕ) (a b : Request) → IsRequestAt date a → IsRequestAt date b → request_text a ≡ request_text b → a ≡ b
one_line_one_request date a b h i e = same_words date a b h i (sym (words_request a) ∙ ap words e ∙ words_request b)
