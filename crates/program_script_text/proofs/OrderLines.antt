-- The words of an order's lines.
use Rattle.std.proofs.Common.{◌≡◌, ℕ, ◌<◌, ◌^◌, eqb, List, [], ◌∷◌, ◌++◌, map, length, get_or, drop, inl, inr, sym, ap, ◌∙◌, refl, arith}
use Rattle.std.specs.Fmt.{decimal}
use Rattle.std.specs.List.{All, AllByRecursion, slice_split, join_with_byte}
use Rattle.std.proofs.lemmas.Fmt.{decimal_injective}
use Rattle.std.proofs.lemmas.List.Elements.{All-head, All-tail}
use Rattle.std.proofs.lemmas.List.Splits.{join_with_byte-slice_split}
use Rattle.money.specs.declared.refusal.Refusal.{Refusal}
use Rattle.tables.specs.declared.new_order.RequestedLine.{RequestedLine}
use Rattle.program_script_text.specs.Requests.{line_word, HasLineNumbers}
use Rattle.program_script_text.specs.OrderWords.{IsNoLine, AreNoLines, IsUnread}
use Rattle.program_script_text.proofs.Spaces.{HasNoSpace, decimal_no_space, decimal_no_colon, joined_lacks, parts_joined}

-- the numbers of a line, as its word has them
abbrev pub numbers_of : RequestedLine → List (List ℕ)
numbers_of l = decimal l.item ∷ decimal l.supply_warehouse ∷ decimal l.quantity ∷ []

-- a line is one word
line_no_space : (l : RequestedLine) → HasNoSpace (line_word l)
line_no_space l = joined_lacks 32 58 (numbers_of l) refl (decimal_no_space l.item, (decimal_no_space l.supply_warehouse, (decimal_no_space l.quantity, tt)))

pub lines_no_space : (ls : List RequestedLine) → AllByRecursion HasNoSpace (map line_word ls)
lines_no_space [] = tt
lines_no_space (l ∷ ls) = (line_no_space l, lines_no_space ls)

-- the parts of a word between its colons
abbrev pub parts : List ℕ → List (List ℕ)
parts word = slice_split (λ b. eqb b 58) word

-- those of a line's word are its numbers
parts_of_line : (l : RequestedLine) → parts (line_word l) ≡ numbers_of l
parts_of_line l = parts_joined 58 _ _ (decimal_no_colon l.item, (decimal_no_colon l.supply_warehouse, (decimal_no_colon l.quantity, tt)))

-- the number that is word k
pub number_at : (k : ℕ) (xs ys : List (List ℕ)) (m n : ℕ) → get_or xs k [] ≡ decimal m → get_or ys k [] ≡ decimal n → xs ≡ ys → m < 2 ^ 32 → n < 2 ^ 32 → m ≡ n
number_at k xs ys m n is_m is_n e small_m small_n =
    decimal_injective m n (omega arith) (omega arith) (sym is_m ∙ ap (λ l. get_or l k []) e ∙ is_n)

-- a line is its numbers
abbrev line_of : ℕ → ℕ → ℕ → RequestedLine
line_of item supply_warehouse quantity = record { item = item; supply_warehouse = supply_warehouse; quantity = quantity }

-- a word is the word of one line
same_line : (l m : RequestedLine) → HasLineNumbers l → HasLineNumbers m → line_word l ≡ line_word m → l ≡ m
same_line l m h i e =
    let numbers = sym (parts_of_line l) ∙ ap parts e ∙ parts_of_line m in
    let same_item : l.item ≡ m.item = number_at 0 _ _ l.item m.item refl refl numbers h.0 i.0 in
    let same_supply : l.supply_warehouse ≡ m.supply_warehouse = number_at 1 _ _ l.supply_warehouse m.supply_warehouse refl refl numbers h.1 i.1 in
    let same_quantity : l.quantity ≡ m.quantity = number_at 2 _ _ l.quantity m.quantity refl refl numbers h.2 i.2 in
    ap (λ n. line_of n l.supply_warehouse l.quantity) same_item ∙ ap (λ n. line_of m.item n l.quantity) same_supply
    ∙ ap (λ n. line_of m.item m.supply_warehouse n) same_quantity

-- and words are the words of one list of lines
pub same_lines : (ls ms : List RequestedLine) → All HasLineNumbers ls → All HasLineNumbers ms → map line_word ls ≡ map line_word ms → ls ≡ ms
same_lines [] [] h i e = refl
same_lines [] (m ∷ ms) h i e = absurd (let f : 0 ≡ length (map line_word (m ∷ ms)) = ap length e in omega arith)
same_lines (l ∷ ls) [] h i e = absurd (let f : length (map line_word (l ∷ ls)) ≡ 0 = ap length e in omega arith)
same_lines (l ∷ ls) (m ∷ ms) h i e =
    let first = same_line l m (All-head HasLineNumbers l ls h) (All-head HasLineNumbers m ms i) (ap (λ ws. get_or ws 0 []) e) in
    let rest = same_lines ls ms (All-tail HasLineNumbers l ls h) (All-tail HasLineNumbers m ms i) (ap (drop 1) e) in
    cc

-- a word with no colon, or with one, is no line's
pub no_colon : (word : List ℕ) → parts word ≡ word ∷ [] → IsNoLine word
no_colon word e l h is = let two : 1 ≡ length (numbers_of l) = ap length (sym e ∙ ap parts is ∙ parts_of_line l) in omega arith

pub one_colon : (word item rest : List ℕ) → parts word ≡ item ∷ parts rest → parts rest ≡ rest ∷ [] → IsNoLine word
one_colon word item rest e f l h is =
    let two : 2 ≡ length (numbers_of l) = ap length (sym (e ∙ ap (λ l. item ∷ l) f) ∙ ap parts is ∙ parts_of_line l) in omega arith

-- what stands between a line's colons
pub numbers_between : (word item rest supply quantity : List ℕ) → parts word ≡ item ∷ parts rest → parts rest ≡ supply ∷ parts quantity → (l : RequestedLine)
    → word ≡ line_word l → (item ≡ decimal l.item) × (supply ≡ decimal l.supply_warehouse) × (quantity ≡ decimal l.quantity)
numbers_between word item rest supply quantity e f l is =
    let numbers : item ∷ supply ∷ parts quantity ≡ numbers_of l = sym (e ∙ ap (λ l. item ∷ l) f) ∙ ap parts is ∙ parts_of_line l in (
      ap (λ ws. get_or ws 0 []) numbers,
      ap (λ ws. get_or ws 1 []) numbers,
      sym (join_with_byte-slice_split 58 quantity)
          ∙ ap (λ ws. join_with_byte 58 (drop 2 ws)) numbers,
    )

-- words are no lines' where one of them is no line's
pub no_lines : (before : List (List ℕ)) (word : List ℕ) (behind : List (List ℕ)) → IsNoLine word → AreNoLines (before ++ word ∷ behind)
no_lines [] word behind none [] h e = let f : length (word ∷ behind) ≡ 0 = ap length e in omega arith
no_lines [] word behind none (l ∷ ls) h e = none l (All-head HasLineNumbers l ls h) (ap (λ ws. get_or ws 0 []) e)
no_lines (first ∷ before) word behind none [] h e = let f : length (first ∷ before ++ word ∷ behind) ≡ 0 = ap length e in omega arith
no_lines (first ∷ before) word behind none (l ∷ ls) h e = no_lines before word behind none ls (All-tail HasLineNumbers l ls h) (ap (drop 1) e)

-- what is wrong with a part of the words is wrong with them
pub unread_whole : {A B : Type 0} (refusal : Refusal) → (A → B) → IsUnread A refusal → IsUnread B refusal
unread_whole refusal wrong (inl none) = inl none
unread_whole refusal wrong (inr h) = inr (h.0, wrong h.1)
