-- What the words of a line can ask.
use Rattle.std.proofs.Common.{get_or, drop, ◌≡◌, ◌≢◌, ℕ, ◌<◌, ◌+◌, ◌*◌, ◌^◌, List, [], ◌∷◌, map, codes, ℤ, Result, Ok}
use Rattle.std.proofs.Common.{Err, Option, Some, None, MatchOption, MatchResult, IfOk, IfErr, ◌⊎◌, inl, inr, sym, subst}
use Rattle.std.proofs.Common.{ap, ◌∙◌, refl, arith}
use Rattle.std.specs.Fmt.{decimal}
use Rattle.std.specs.List.{AllByRecursion, join_with_byte}
use Rattle.std.specs.Option.{ok_or}
use Rattle.money.specs.declared.refusal.Refusal.{Refusal}
use Rattle.money.specs.declared.refusal.Refusal.TheVariants.{BadInput, BadLine, OutOfMemory}
use Rattle.tables.specs.declared.customer.Who.{Who}
use Rattle.tables.specs.declared.input.Input.{Input}
use Rattle.tables.specs.declared.input.Input.TheVariants.{Payment, NewOrder, Delivery, OrderStatus, StockLevel}
use Rattle.tables.specs.declared.payment.PaymentInput.{PaymentInput}
use Rattle.tables.specs.declared.new_order.RequestedLine.{RequestedLine}
use Rattle.program_script_text.specs.declared.request.Request.{Request}
use Rattle.program_script_text.specs.declared.request.Request.TheVariants.{Transaction, Show}
use Rattle.program_script_text.specs.declared.request.ShowKey.{ShowKey}
use Rattle.program_script_text.specs.declared.request.ShowKey.TheVariants.{Warehouse, District, Customer, CustomerData, Stock, Order}
use Rattle.program_script_text.specs.Amount.{amount_text}
use Rattle.program_script_text.specs.LastNames.{who_word, HasWho}
use Rattle.program_script_text.specs.Words.{words}
use Rattle.program_script_text.specs.Requests.{line_word, Answers, AnswersOrNoMemory, AnswersKey, HasKeyNumbers, IsRefusedLine, input_words, key_words, request_words}
use Rattle.program_script_text.specs.Requests.{request_text}
use Rattle.program_script_text.proofs.Amounts.{amount_no_space}
use Rattle.program_script_text.proofs.LastNames.{who_no_space}
use Rattle.program_script_text.proofs.OrderLines.{lines_no_space}
use Rattle.program_script_text.proofs.Spaces.{HasNoSpace, letters, decimal_no_space, words_one, words_joined, text_from_words}

-- what an only word says, where it may be a number
pub last_from_number : (text : List ℕ) (o : Option ℕ) → MatchOption o ((n : ℕ) → n < 2 ^ 32 → text ≢ decimal n) (λ n. text ≡ decimal n)
    → MatchResult (ok_or o BadLine) (λ n. words text ≡ decimal n ∷ []) (λ refusal. (refusal ≡ BadLine) × ((n : ℕ) → n < 2 ^ 32 → words text ≢ decimal n ∷ []))
last_from_number text None none = (refl, λ n small e. none n small (text_from_words text (decimal n ∷ []) e))
last_from_number text (Some n) is = ap words is ∙ words_one (decimal n) (decimal_no_space n)

-- a byte of a word
abbrev pub byte_of : List (List ℕ) → ℕ → ℕ → ℕ
byte_of ws word byte = get_or (get_or ws word []) byte 0

-- a number that tells by the words which kind of request they can ask: the first two bytes of the verb
abbrev pub kind_of : List (List ℕ) → ℕ
kind_of ws = 256 * byte_of ws 0 1 + byte_of ws 0 0

-- words that are no customer's key are no key
pub no_customer : (ws : List (List ℕ)) → ((w d c : ℕ) → w < 2 ^ 32 → d < 2 ^ 32 → c < 2 ^ 32 → ws ≢ decimal w ∷ decimal d ∷ decimal c ∷ [])
    → (key : ShowKey) → HasKeyNumbers key
    → codes "customer" ∷ ws ≢ key_words key
no_customer ws none (Customer k) h e = none k.warehouse k.district k.customer h.0 h.1 h.2 (ap (drop 1) e)
no_customer ws none other h e = let f : ◌≡◌ {A = ℕ} 99 (byte_of (key_words other) 0 0) = ap (λ ws. byte_of ws 0 0) e in omega arith

-- the same of C_DATA's
pub no_data : (ws : List (List ℕ)) → ((w d c : ℕ) → w < 2 ^ 32 → d < 2 ^ 32 → c < 2 ^ 32 → ws ≢ decimal w ∷ decimal d ∷ decimal c ∷ [])
    → (key : ShowKey) → HasKeyNumbers key
    → codes "data" ∷ ws ≢ key_words key
no_data ws none (CustomerData k) h e = none k.warehouse k.district k.customer h.0 h.1 h.2 (ap (drop 1) e)
no_data ws none other h e = let f : ◌≡◌ {A = ℕ} (256 * 97 + 100) (kind_of (key_words other)) = ap kind_of e in omega arith

-- the same of an order's
pub no_order : (ws : List (List ℕ)) → ((w d o : ℕ) → w < 2 ^ 32 → d < 2 ^ 32 → o < 2 ^ 32 → ws ≢ decimal w ∷ decimal d ∷ decimal o ∷ [])
    → (key : ShowKey) → HasKeyNumbers key
    → codes "order" ∷ ws ≢ key_words key
no_order ws none (Order k) h e = none k.warehouse k.district k.order h.0 h.1 h.2 (ap (drop 1) e)
no_order ws none other h e = let f : ◌≡◌ {A = ℕ} 111 (byte_of (key_words other) 0 0) = ap (λ ws. byte_of ws 0 0) e in omega arith

-- a table that none of the keys is of
pub no_table : (ws : List (List ℕ)) → get_or ws 0 [] ≢ codes "warehouse" → get_or ws 0 [] ≢ codes "district" → get_or ws 0 [] ≢ codes "customer"
    → get_or ws 0 [] ≢ codes "data" → get_or ws 0 [] ≢ codes "stock"
    → get_or ws 0 [] ≢ codes "order" → (key : ShowKey) → ws ≢ key_words key
no_table ws no_w no_d no_c no_t no_s no_o (Warehouse w) e = no_w (ap (λ l. get_or l 0 []) e)
no_table ws no_w no_d no_c no_t no_s no_o (District k) e = no_d (ap (λ l. get_or l 0 []) e)
no_table ws no_w no_d no_c no_t no_s no_o (Customer k) e = no_c (ap (λ l. get_or l 0 []) e)
no_table ws no_w no_d no_c no_t no_s no_o (CustomerData k) e = no_t (ap (λ l. get_or l 0 []) e)
no_table ws no_w no_d no_c no_t no_s no_o (Stock k) e = no_s (ap (λ l. get_or l 0 []) e)
no_table ws no_w no_d no_c no_t no_s no_o (Order k) e = no_o (ap (λ l. get_or l 0 []) e)

-- a verb that none of the requests has
pub no_verb : (date : ℕ) (ws : List (List ℕ)) → get_or ws 0 [] ≢ codes "payment" → get_or ws 0 [] ≢ codes "neworder"
    → get_or ws 0 [] ≢ codes "delivery" → get_or ws 0 [] ≢ codes "status"
    → get_or ws 0 [] ≢ codes "level" → get_or ws 0 [] ≢ codes "show" → Answers date ws (Err BadLine)
no_verb date ws no_p no_n no_d no_t no_l no_s (Transaction (Payment x)) h e = no_p (ap (λ l. get_or l 0 []) e)
no_verb date ws no_p no_n no_d no_t no_l no_s (Transaction (NewOrder x)) h e = no_n (ap (λ l. get_or l 0 []) e)
no_verb date ws no_p no_n no_d no_t no_l no_s (Transaction (Delivery x)) h e = no_d (ap (λ l. get_or l 0 []) e)
no_verb date ws no_p no_n no_d no_t no_l no_s (Transaction (OrderStatus x)) h e = no_t (ap (λ l. get_or l 0 []) e)
no_verb date ws no_p no_n no_d no_t no_l no_s (Transaction (StockLevel x)) h e = no_l (ap (λ l. get_or l 0 []) e)
no_verb date ws no_p no_n no_d no_t no_l no_s (Show key) h e = no_s (ap (λ l. get_or l 0 []) e)

-- no transaction is asked for by `show`
pub no_input : (x : Input) (ws : List (List ℕ)) → codes "show" ∷ ws ≢ input_words x
no_input (Payment x) ws e = let f : ◌≡◌ {A = ℕ} (256 * 104 + 115) (kind_of (input_words (Payment x))) = ap kind_of e in omega arith
no_input (NewOrder x) ws e = let f : ◌≡◌ {A = ℕ} (256 * 104 + 115) (kind_of (input_words (NewOrder x))) = ap kind_of e in omega arith
no_input (Delivery x) ws e = let f : ◌≡◌ {A = ℕ} (256 * 104 + 115) (kind_of (input_words (Delivery x))) = ap kind_of e in omega arith
no_input (OrderStatus x) ws e = let f : ◌≡◌ {A = ℕ} (256 * 104 + 115) (kind_of (input_words (OrderStatus x))) = ap kind_of e in omega arith
no_input (StockLevel x) ws e = let f : ◌≡◌ {A = ℕ} (256 * 104 + 115) (kind_of (input_words (StockLevel x))) = ap kind_of e in omega arith

-- what the words behind `show` get, the words with it get
pub behind_show : (date : ℕ) (ws : List (List ℕ)) (key : ShowKey) → AnswersKey ws (Ok key) → Answers date (codes "show" ∷ ws) (Ok (Show key))
behind_show date ws key h = (ap (λ l. codes "show" ∷ l) h.0, h.1, tt)

pub no_show : (date : ℕ) (ws : List (List ℕ)) (refusal : Refusal) → AnswersKey ws (Err refusal) → Answers date (codes "show" ∷ ws) (Err refusal)
no_show date ws refusal wrong = subst (λ r. Answers date (codes "show" ∷ ws) (Err r)) (sym wrong.0) none
  where
    none : Answers date (codes "show" ∷ ws) (Err BadLine)
    none (Show key) h e = wrong.1 key h (ap (drop 1) e)
    none (Transaction x) h e = no_input x ws e

-- words that are no payment's ask none
pub no_payment : (date : ℕ) (ws : List (List ℕ))
    → ((w d cw cd : ℕ) (who : Who) (z : ℤ) → w < 2 ^ 32 → d < 2 ^ 32 → cw < 2 ^ 32 → cd < 2 ^ 32 → HasWho who
    → ws ≢ decimal w ∷ decimal d ∷ decimal cw ∷ decimal cd ∷ who_word who ∷ amount_text z ∷ [])
    → Answers date (codes "payment" ∷ ws) (Err BadLine)
no_payment date ws none (Transaction (Payment x)) h e =
    none x.warehouse x.district x.customer_warehouse x.customer_district x.who x.amount h.1 h.2 h.3 h.4 h.5 (ap (drop 1) e)
no_payment date ws none other h e = let f : ◌≡◌ {A = ℕ} (256 * 97 + 112) (kind_of (request_words other)) = ap kind_of e in omega arith

-- words that are no New-Order's ask none
pub no_new_order : (date : ℕ) (ws : List (List ℕ))
    → ((w d c : ℕ) (ls : List RequestedLine) → w < 2 ^ 32 → d < 2 ^ 32 → ws ≢ decimal w ∷ decimal d ∷ decimal c ∷ map line_word ls)
    → Answers date (codes "neworder" ∷ ws) (Err BadLine)
no_new_order date ws none (Transaction (NewOrder x)) h e = none x.warehouse x.district x.customer x.lines h.1 h.2 (ap (drop 1) e)
no_new_order date ws none other h e = let f : ◌≡◌ {A = ℕ} (256 * 101 + 110) (kind_of (request_words other)) = ap kind_of e in omega arith

-- words that are no Order-Status's ask none
pub no_status : (date : ℕ) (ws : List (List ℕ))
    → ((w d : ℕ) (who : Who) → w < 2 ^ 32 → d < 2 ^ 32 → HasWho who → ws ≢ decimal w ∷ decimal d ∷ who_word who ∷ [])
    → Answers date (codes "status" ∷ ws) (Err BadLine)
no_status date ws none (Transaction (OrderStatus x)) h e = none x.warehouse x.district x.who h.1 h.2 h.3 (ap (drop 1) e)
no_status date ws none other h e = let f : ◌≡◌ {A = ℕ} (256 * 116 + 115) (kind_of (request_words other)) = ap kind_of e in omega arith

-- the same of a Stock-Level's
pub no_level : (date : ℕ) (ws : List (List ℕ)) → ((w d h : ℕ) → w < 2 ^ 32 → d < 2 ^ 32 → h < 2 ^ 32 → ws ≢ decimal w ∷ decimal d ∷ decimal h ∷ [])
    → Answers date (codes "level" ∷ ws) (Err BadLine)
no_level date ws none (Transaction (StockLevel x)) h e = none x.warehouse x.district x.threshold h.1 h.2 h.3 (ap (drop 1) e)
no_level date ws none other h e = let f : ◌≡◌ {A = ℕ} (256 * 101 + 108) (kind_of (request_words other)) = ap kind_of e in omega arith

-- what the last word says, where it may be an amount
pub words_amount : (text : List ℕ) (z : ℤ) → text ≡ amount_text z → words text ≡ amount_text z ∷ []
words_amount text z e = ap words e ∙ words_one (amount_text z) (amount_no_space z)

-- no word of a request has a space
input_no_space : (x : Input) → AllByRecursion HasNoSpace (input_words x)
input_no_space (Payment x) =
    let amount : AllByRecursion HasNoSpace (who_word x.who ∷ amount_text x.amount ∷ []) = (who_no_space x.who, (amount_no_space x.amount, tt)) in
    let district = decimal_no_space x.customer_district in
    (letters (codes "payment") refl, (decimal_no_space x.warehouse, (decimal_no_space x.district, (decimal_no_space x.customer_warehouse, (district, amount)))))
input_no_space (NewOrder x) =
    (letters (codes "neworder") refl, (decimal_no_space x.warehouse, (decimal_no_space x.district, (decimal_no_space x.customer, lines_no_space x.lines))))
input_no_space (Delivery x) = (letters (codes "delivery") refl, (decimal_no_space x.warehouse, (decimal_no_space x.carrier, tt)))
input_no_space (OrderStatus x) = (letters (codes "status") refl, (decimal_no_space x.warehouse, (decimal_no_space x.district, (who_no_space x.who, tt))))
input_no_space (StockLevel x) =
    (letters (codes "level") refl, (decimal_no_space x.warehouse, (decimal_no_space x.district, (decimal_no_space x.threshold, tt))))

key_no_space : (key : ShowKey) → AllByRecursion HasNoSpace (key_words key)
key_no_space (Warehouse w) = (letters (codes "warehouse") refl, (decimal_no_space w, tt))
key_no_space (District k) = (letters (codes "district") refl, (decimal_no_space k.warehouse, (decimal_no_space k.district, tt)))
key_no_space (Customer k) =
    (letters (codes "customer") refl, (decimal_no_space k.warehouse, (decimal_no_space k.district, (decimal_no_space k.customer, tt))))
key_no_space (CustomerData k) =
    (letters (codes "data") refl, (decimal_no_space k.warehouse, (decimal_no_space k.district, (decimal_no_space k.customer, tt))))
key_no_space (Stock k) = (letters (codes "stock") refl, (decimal_no_space k.warehouse, (decimal_no_space k.item, tt)))
key_no_space (Order k) = (letters (codes "order") refl, (decimal_no_space k.warehouse, (decimal_no_space k.district, (decimal_no_space k.order, tt))))

-- the words of a request's line are its words
words_input : (x : Input) → words (join_with_byte 32 (input_words x)) ≡ input_words x
words_input (Payment x) = words_joined _ _ (input_no_space (Payment x))
words_input (NewOrder x) = words_joined _ _ (input_no_space (NewOrder x))
words_input (Delivery x) = words_joined _ _ (input_no_space (Delivery x))
words_input (OrderStatus x) = words_joined _ _ (input_no_space (OrderStatus x))
words_input (StockLevel x) = words_joined _ _ (input_no_space (StockLevel x))

pub words_request : (request : Request) → words (request_text request) ≡ request_words request
words_request (Transaction x) = words_input x
words_request (Show key) = words_joined _ _ (letters (codes "show") refl, key_no_space key)

-- what the words behind a verb get, the line gets
behind_verb : (date : ℕ) (line verb written : List ℕ) (rest : List (List ℕ)) (answer : Result Request Refusal) → words line ≡ verb ∷ rest → verb ≡ written
    → AnswersOrNoMemory date (written ∷ rest) answer → AnswersOrNoMemory date (words line) answer
behind_verb date line verb written rest answer parts is = subst (λ ws. AnswersOrNoMemory date ws answer) (sym (parts ∙ ap (λ w. w ∷ rest) is))

asked_line : (date : ℕ) (line : List ℕ) (answer : Result Request Refusal) → AnswersOrNoMemory date (words line) answer
    → IfOk answer (λ request. line ≡ request_text request)
asked_line date line (Ok request) (inl none) = absurd (let no : Ok request ≡ Err OutOfMemory = none in cc)
asked_line date line (Ok request) (inr h) = text_from_words line (request_words request) h.0
asked_line date line (Err e) h = tt

words_refusal : (date : ℕ) (line : List ℕ) (refusal : Refusal) → Answers date (words line) (Err refusal) → IsRefusedLine date line refusal
words_refusal date line BadInput h = (h.0, h.1, text_from_words line (request_words h.0) h.2, h.3)
words_refusal date line BadLine h = λ request small e. h request small (ap words e ∙ words_request request)
words_refusal date line _ h = h

pub refused_line : (date : ℕ) (line : List ℕ) (answer : Result Request Refusal) → AnswersOrNoMemory date (words line) answer
    → IfErr answer (λ refusal. (refusal ≡ OutOfMemory) ⊎ IsRefusedLine date line refusal)
refused_line date line (Ok request) h = tt
refused_line date line (Err e) (inl none) = inl (let no : ◌≡◌ {A = Result Request Refusal} (Err e) (Err OutOfMemory) = none in cc)
refused_line date line (Err e) (inr h) = inr (words_refusal date line e h)

-- what the words ask, the line asks, and the refusal that they get, it gets
module _ (date : ℕ) (line verb written : List ℕ) (rest : List (List ℕ)) (answer : Result Request Refusal)
    (parts : words line ≡ verb ∷ rest) (is : verb ≡ written) where
  pub line_request : AnswersOrNoMemory date (written ∷ rest) answer → IfOk answer (λ request. line ≡ request_text request)
  line_request h = asked_line date line answer (behind_verb date line verb written rest answer parts is h)

  pub line_refusal : AnswersOrNoMemory date (written ∷ rest) answer → IfErr answer (λ refusal. (refusal ≡ OutOfMemory) ⊎ IsRefusedLine date line refusal)
  line_refusal h = refused_line date line answer (behind_verb date line verb written rest answer parts is h)

-- a payment's words, one after another
pub payment_words : (t0 t1 t2 t3 t4 t5 : List ℕ) (x : PaymentInput) → words t0 ≡ decimal x.warehouse ∷ words t1
    → words t1 ≡ decimal x.district ∷ words t2 → words t2 ≡ decimal x.customer_warehouse ∷ words t3
    → words t3 ≡ decimal x.customer_district ∷ words t4 → words t4 ≡ who_word x.who ∷ words t5 → t5 ≡ amount_text x.amount
    → codes "payment" ∷ words t0 ≡ input_words (Payment x)
payment_words t0 t1 t2 t3 t4 t5 x e0 e1 e2 e3 e4 e5 =
    let last : words t5 ≡ amount_text x.amount ∷ [] = words_amount t5 x.amount e5 in
    let customer : words t2 ≡ decimal x.customer_warehouse ∷ decimal x.customer_district ∷ who_word x.who ∷ amount_text x.amount ∷ [] =
    e2 ∙ ap (λ l. decimal x.customer_warehouse ∷ l) (e3 ∙ ap (λ l. decimal x.customer_district ∷ l) (e4 ∙ ap (λ l. who_word x.who ∷ l) last)) in
    ap (λ l. codes "payment" ∷ l) (e0 ∙ ap (λ l. decimal x.warehouse ∷ l) (e1 ∙ ap (λ l. decimal x.district ∷ l) customer))
