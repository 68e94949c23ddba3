-- Which lines are requests, and which refusal any other line gets.
use Rattle.std.specs.Prelude.{◌≡◌, ◌≢◌, ◌⊎◌, ◌<◌, ◌^◌, ⊤, List, [], ◌∷◌, ◌++◌, map, ℕ, Result, Ok, Err, codes}
use Rattle.std.specs.Fmt.{decimal}
use Rattle.std.specs.List.{All, join_with_byte}
use Rattle.money.specs.Money.{IsWithinLimit}
use Rattle.money.specs.declared.refusal.Refusal.{Refusal}
use Rattle.money.specs.declared.refusal.Refusal.TheVariants.{BadInput, BadLine, OutOfMemory}
use Rattle.tables.specs.Sizes.{Sizes}
use Rattle.tables.specs.Keys.{IsWarehouseKey, IsDistrictKey, IsCustomerKey, IsOrderKey, IsStockKey}
use Rattle.tables.specs.Inputs.{IsInput}
use Rattle.tables.specs.declared.input.Input.{Input}
use Rattle.tables.specs.declared.input.Input.TheVariants.{Payment, NewOrder, Delivery, OrderStatus, StockLevel}
use Rattle.tables.specs.declared.new_order.RequestedLine.{RequestedLine}
use Rattle.program_script_text.specs.declared.request.Request.{Request}
use Rattle.program_script_text.specs.declared.request.Request.TheVariants.{Transaction, Show}
use Rattle.program_script_text.specs.declared.request.ShowKey.{ShowKey}
use Rattle.program_script_text.specs.declared.request.ShowKey.TheVariants.{Warehouse, District, Customer, CustomerData, Stock, Order}
use Rattle.program_script_text.specs.Amount.{amount_text}
use Rattle.program_script_text.specs.LastNames.{who_word, HasWho}

-- the word of a line of an order: its item, its supplying warehouse and its quantity
abbrev pub line_word : RequestedLine → List ℕ
line_word l = join_with_byte 58 (decimal l.item ∷ decimal l.supply_warehouse ∷ decimal l.quantity ∷ [])

-- the words that ask for a transaction. Its date isn't among them
abbrev pub input_words : Input → List (List ℕ)
input_words (Payment x) =
    codes "payment" ∷ decimal x.warehouse ∷ decimal x.district
    ∷ decimal x.customer_warehouse ∷ decimal x.customer_district ∷ who_word x.who ∷ amount_text x.amount ∷ []
input_words (NewOrder x) =
    codes "neworder" ∷ decimal x.warehouse ∷ decimal x.district ∷ decimal x.customer ∷ map line_word x.lines
input_words (Delivery x) = codes "delivery" ∷ decimal x.warehouse ∷ decimal x.carrier ∷ []
input_words (OrderStatus x) = codes "status" ∷ decimal x.warehouse ∷ decimal x.district ∷ who_word x.who ∷ []
input_words (StockLevel x) =
    codes "level" ∷ decimal x.warehouse ∷ decimal x.district ∷ decimal x.threshold ∷ []

-- the words behind `show`
abbrev pub key_words : ShowKey → List (List ℕ)
key_words (Warehouse w) = codes "warehouse" ∷ decimal w ∷ []
key_words (District k) = codes "district" ∷ decimal k.warehouse ∷ decimal k.district ∷ []
key_words (Customer k) = codes "customer" ∷ decimal k.warehouse ∷ decimal k.district ∷ decimal k.customer ∷ []
key_words (CustomerData k) = codes "data" ∷ decimal k.warehouse ∷ decimal k.district ∷ decimal k.customer ∷ []
key_words (Stock k) = codes "stock" ∷ decimal k.warehouse ∷ decimal k.item ∷ []
key_words (Order k) = codes "order" ∷ decimal k.warehouse ∷ decimal k.district ∷ decimal k.order ∷ []

-- the words of a request's line
abbrev pub request_words : Request → List (List ℕ)
request_words (Transaction x) = input_words x
request_words (Show key) = codes "show" ∷ key_words key

-- the one line of a request
abbrev pub request_text : Request → List ℕ
request_text request = join_with_byte 32 (request_words request)

-- each number of an order's line is one of 32 bits
abbrev pub HasLineNumbers : RequestedLine → Type 0
HasLineNumbers l = (l.item < 2 ^ 32) × (l.supply_warehouse < 2 ^ 32) × (l.quantity < 2 ^ 32)

-- the input has this date, each other number is one of 32 bits, and a last name is one of the 1,000
abbrev pub IsInputAt : ℕ → Input → Type 0
IsInputAt date (Payment x) =
    (x.date ≡ date) × (x.warehouse < 2 ^ 32) × (x.district < 2 ^ 32)
    × (x.customer_warehouse < 2 ^ 32) × (x.customer_district < 2 ^ 32) × HasWho x.who
IsInputAt date (NewOrder x) =
    (x.date ≡ date) × (x.warehouse < 2 ^ 32) × (x.district < 2 ^ 32) × (x.customer < 2 ^ 32)
    × All HasLineNumbers x.lines
IsInputAt date (Delivery x) = (x.date ≡ date) × (x.warehouse < 2 ^ 32) × (x.carrier < 2 ^ 32)
IsInputAt date (OrderStatus x) =
    (x.date ≡ date) × (x.warehouse < 2 ^ 32) × (x.district < 2 ^ 32) × HasWho x.who
IsInputAt date (StockLevel x) =
    (x.date ≡ date) × (x.warehouse < 2 ^ 32) × (x.district < 2 ^ 32) × (x.threshold < 2 ^ 32)

-- each number of a key is one of 32 bits
abbrev pub HasKeyNumbers : ShowKey → Type 0
HasKeyNumbers (Warehouse w) = w < 2 ^ 32
HasKeyNumbers (District k) = (k.warehouse < 2 ^ 32) × (k.district < 2 ^ 32)
HasKeyNumbers (Customer k) = (k.warehouse < 2 ^ 32) × (k.district < 2 ^ 32) × (k.customer < 2 ^ 32)
HasKeyNumbers (CustomerData k) = (k.warehouse < 2 ^ 32) × (k.district < 2 ^ 32) × (k.customer < 2 ^ 32)
HasKeyNumbers (Stock k) = (k.warehouse < 2 ^ 32) × (k.item < 2 ^ 32)
HasKeyNumbers (Order k) = (k.warehouse < 2 ^ 32) × (k.district < 2 ^ 32) × (k.order < 2 ^ 32)

-- a request that a line of this date can ask
abbrev pub IsRequestAt : ℕ → Request → Type 0
IsRequestAt date (Transaction x) = IsInputAt date x
IsRequestAt date (Show key) = HasKeyNumbers key

-- the request's amount, if it has one, is within the limit
abbrev pub IsWithinReach : Request → Type 0
IsWithinReach (Transaction (Payment x)) = IsWithinLimit x.amount
IsWithinReach _ = ⊤

-- what asks these requests gets this refusal: `BadInput` where one has its amount beyond the limit, `BadLine` where
-- there is none
abbrev pub IsLineRefusal : ℕ → (Request → Type 0) → Refusal → Type 0
IsLineRefusal date IsAsked BadInput =
    (request : Request) × IsRequestAt date request × IsAsked request × ¬ IsWithinReach request
IsLineRefusal date IsAsked BadLine = (request : Request) → IsRequestAt date request → ¬ IsAsked request
IsLineRefusal date IsAsked _ = ⊥

-- a line of this date gets this refusal
abbrev pub IsRefusedLine : ℕ → List ℕ → Refusal → Type 0
IsRefusedLine date line = IsLineRefusal date (λ request. line ≡ request_text request)

-- the keys of rows that a scale has
abbrev pub IsShowKey : Sizes → ShowKey → Type 0
IsShowKey s (Warehouse w) = IsWarehouseKey s w
IsShowKey s (District k) = IsDistrictKey s k
IsShowKey s (Customer k) = IsCustomerKey s k
IsShowKey s (CustomerData k) = IsCustomerKey s k
IsShowKey s (Stock k) = IsStockKey s k
IsShowKey s (Order k) = IsOrderKey s k

-- each number of the request is within its range at this scale
abbrev pub IsInRange : Sizes → Request → Type 0
IsInRange s (Transaction x) = IsInput s x
IsInRange s (Show key) = IsShowKey s key

-- the line begins as a New-Order's
abbrev pub BeginsNewOrder : List ℕ → Type 0
BeginsNewOrder line = (behind : List ℕ) × (line ≡ codes "neworder " ++ behind)

-- the words of a line of this date get this answer
abbrev pub Answers : ℕ → List (List ℕ) → Result Request Refusal → Type 0
Answers date ws (Ok request) = (ws ≡ request_words request) × IsRequestAt date request × IsWithinReach request
Answers date ws (Err refusal) = IsLineRefusal date (λ request. ws ≡ request_words request) refusal

-- the same, or there is no memory for it
abbrev pub AnswersOrNoMemory : ℕ → List (List ℕ) → Result Request Refusal → Type 0
AnswersOrNoMemory date ws answer = (answer ≡ Err OutOfMemory) ⊎ Answers date ws answer

-- the words behind `show` get this answer
abbrev pub AnswersKey : List (List ℕ) → Result ShowKey Refusal → Type 0
AnswersKey ws (Ok key) = (ws ≡ key_words key) × HasKeyNumbers key
AnswersKey ws (Err refusal) =
    (refusal ≡ BadLine) × ((key : ShowKey) → HasKeyNumbers key → ws ≢ key_words key)
