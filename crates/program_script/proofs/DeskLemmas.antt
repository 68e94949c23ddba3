-- How the lines that a desk answers add up.
use Rattle.std.proofs.Common.{◌≡◌, ◌≢◌, ℕ, ◌+◌, ◌≤◌, false, eqb, cond, Option, Some, List, [], ◌∷◌, ◌++◌, length, length-append, append_assoc, append-nil, add-zero}
use Rattle.std.proofs.Common.{codes, refl, sym, ap, ◌∙◌, subst, arith}
use Rattle.std.proofs.lemmas.Bool.Decides.{nat_tests}
use Rattle.std.proofs.lemmas.List.{flat_map_more, length_push}
use Rattle.std.proofs.lemmas.List.Elements.{All-nil}
use Rattle.std.specs.List.{AllByRecursion, flat_map}
use Rattle.std.specs.Prelude.{Result, Err, IsErrOf, ◌⊎◌}
use Rattle.std.proofs.Common.{inl, inr}
use Rattle.money.specs.declared.refusal.Refusal.{Refusal}
use Rattle.money.specs.declared.refusal.Refusal.TheVariants.{OutOfMemory, BadInput}
use Rattle.tables.specs.Database.{Database}
use Rattle.program_script_text.specs.Lines.{HasNoLineFeed, IsCut, buffered, held_after, last_line, text_lines}
use Rattle.program_script_text.specs.Output.{answer_text}
use Rattle.program_script_text.specs.declared.answer.Answer.{Answer}
use Rattle.program_script_text.proofs.Cutting.{lines_first, lines_of_cut, cut_line, cut_more, held_more}
use Rattle.program_script.specs.declared.running.TheConstants.{MAX_LINES}
use Rattle.program_script.specs.Turns.{State, Turn, IsLineTurn, AreTurns}
use Rattle.program_script.specs.Written.{first_state, answers_text, HasTooManyLines}
use Rattle.program_script.specs.Answered.{state_of, Standing, HasAnswered, HasAnsweredAll, HasTooMany}
use Rattle.program_script.proofs.TurnLemmas.{held_some}

-- at first no line is answered
pub none_answered : (tables : Database) (d : Standing) → d.session ≡ record { history = []; dones = [] } → d.line ≡ Some [] → d.answered ≡ 0
    → d.output ≡ [] → HasAnswered tables [] [] d
none_answered tables d session line answered output = record {
  lines = [];
  rest = [];
  answers = [];
  cut = record { whole = refl; each = tt; last = All-nil (λ b. b ≢ 10) };
  line_is = line;
  turns = (refl, ap (state_of tables) session);
  count = answered;
  output_is = sym output;
}

-- one more line
pub turns_more : (s : State) (n : ℕ) (lines : List (List ℕ)) (answers : List Answer) (mid : State) (line : List ℕ) (turn : Turn)
    → AreTurns s n lines answers mid → IsLineTurn mid (n + length lines) line turn → AreTurns s n (lines ++ line ∷ []) (answers ++ turn.answer ∷ []) turn.state
turns_more s n [] answers mid line turn p h =
    let here = subst (λ k. IsLineTurn s k line turn) (add-zero n) (subst (λ m. IsLineTurn m (n + 0) line turn) p.1 h) in
    (turn, [], here, ap (λ a. a ++ turn.answer ∷ []) p.0, (refl, refl))
turns_more s n (first ∷ lines) answers mid line turn p h =
    let number : n + length (first ∷ lines) ≡ (n + 1) + length lines = omega arith in
    let later = subst (λ k. IsLineTurn mid k line turn) number h in
    (p.0, p.1 ++ turn.answer ∷ [], p.2, ap (λ a. a ++ turn.answer ∷ []) p.3, turns_more p.0.state (n + 1) lines p.1 mid line turn p.4 later)

lines_begun : (lines : List (List ℕ)) (tail : List ℕ) → AllByRecursion HasNoLineFeed lines
    → text_lines (flat_map (λ line. line ++ (10 ∷ [])) lines ++ tail) ≡ lines ++ text_lines tail
lines_begun [] tail each = refl
lines_begun (line ∷ lines) tail each =
    let later = flat_map (λ l. l ++ (10 ∷ [])) lines in
    let together : ((line ++ (10 ∷ [])) ++ later) ++ tail ≡ line ++ (10 ∷ (later ++ tail)) = simp append_assoc in
    ap text_lines together ∙ lines_first line (later ++ tail) each.0 ∙ ap (λ l. line ∷ l) (lines_begun lines tail each.1)

-- the lines of a text that goes on
pub lines_of_more : (text : List ℕ) (lines : List (List ℕ)) (rest later : List ℕ) → IsCut text lines rest → text_lines (text ++ later) ≡ lines
    ++ text_lines (rest ++ later)
lines_of_more text lines rest later cut =
    ap text_lines (ap (λ t. t ++ later) cut.whole ∙ append_assoc _ rest later) ∙ lines_begun lines (rest ++ later) cut.each

-- the answer stands behind those before
more_output : (written : List ℕ) (d e : Standing) (turn : Turn) (answers : List Answer) → answers_text answers ≡ written ++ d.output → e.output ≡ d.output
    ++ (answer_text turn.answer ++ codes "\n") → answers_text (answers ++ turn.answer ∷ []) ≡ written ++ e.output
more_output written d e turn answers before after =
    sym (flat_map_more (λ told. answer_text told ++ codes "\n") [] answers turn.answer)
    ∙ ap (λ t. t ++ (answer_text turn.answer ++ codes "\n")) before
    ∙ append_assoc written (d.output) (answer_text turn.answer ++ codes "\n")
    ∙ ap (λ t. written ++ t) (sym after)

-- the buffered line ends, and is answered
pub line_answered : (tables : Database) (text written end : List ℕ) (d e : Standing) (h : HasAnswered tables text written d) → HasNoLineFeed end
    → (turn : Turn) × IsLineTurn (state_of tables d.session) (d.answered + 1) (h.rest ++ end) turn × ((state_of tables e.session) ≡ turn.state)
    × (e.output ≡ d.output ++ (answer_text turn.answer ++ codes "\n"))
    → e.answered ≡ d.answered + 1 → e.line ≡ Some [] → HasAnswered tables (text ++ (end ++ 10 ∷ [])) written e
line_answered tables text written end d e h feeds t count line =
    let number : d.answered + 1 ≡ 1 + length h.lines = omega (arith, h.count) in
    let turn = subst (λ k. IsLineTurn (state_of tables d.session) k (h.rest ++ end) t.0) number t.1 in
    record {
      lines = h.lines ++ (h.rest ++ end) ∷ [];
      rest = [];
      answers = h.answers ++ t.0.answer ∷ [];
      cut = cut_line text h.lines h.rest end h.cut feeds;
      line_is = line;
      turns = subst (λ s. AreTurns (first_state tables) 1 (h.lines ++ (h.rest ++ end) ∷ []) (h.answers ++ t.0.answer ∷ []) s) (sym t.2)
          (turns_more (first_state tables) 1 h.lines h.answers (state_of tables d.session) (h.rest ++ end) t.0 h.turns turn);
      count = count ∙ ap (λ n. n + 1) h.count ∙ sym (length_push _ _);
      output_is = more_output written d e t.0 h.answers h.output_is t.3;
    }

-- the buffered line goes on
pub more_held : (tables : Database) (text written more : List ℕ) (d : Standing) (line : Option (List ℕ)) → HasAnswered tables text written d
    → HasNoLineFeed more → line ≡ held_after d.line more → HasAnswered tables (text ++ more) written (record d { line = line })
more_held tables text written more d line h feeds is = record {
  lines = h.lines;
  rest = h.rest ++ more;
  answers = h.answers;
  cut = cut_more text h.lines h.rest more h.cut feeds;
  line_is = is ∙ ap (λ l. held_after l more) h.line_is ∙ held_more h.rest more;
  turns = h.turns;
  count = h.count;
  output_is = h.output_is;
}

some_last : (rest : List ℕ) → (rest ≡ [] → ⊥) → last_line rest ≡ rest ∷ []
some_last [] some = absurd (some refl)
some_last (b ∷ rest) some =
    let more : eqb (length (b ∷ rest)) 0 ≡ false = grind (arith, nat_tests) in
    ap (λ t. cond t [] ((b ∷ rest) ∷ [])) more

-- there is no last line
pub last_empty : (tables : Database) (text written : List ℕ) (d : Standing) → HasAnswered tables text written d → d.line ≡ Some []
    → HasAnsweredAll tables text written d
last_empty tables text written d h empty =
    let none : h.rest ≡ [] = (held_some h.rest [] (sym empty ∙ h.line_is)).1 in
    let all : text_lines text ≡ h.lines = lines_of_cut text h.lines h.rest h.cut ∙ ap (λ r. h.lines ++ last_line r) none ∙ append-nil h.lines in
    record {
      answers = h.answers;
      turns = subst (λ ls. AreTurns (first_state tables) 1 ls h.answers (state_of tables d.session)) (sym all) h.turns;
      output_is = h.output_is;
    }

all_lines : (tables : Database) (text written : List ℕ) (d : Standing) (h : HasAnswered tables text written d) → (d.line ≡ Some [] → ⊥)
    → text_lines text ≡ h.lines ++ h.rest ∷ []
all_lines tables text written d h some =
    let some_rest : h.rest ≡ [] → ⊥ = λ e. some (h.line_is ∙ ap buffered e) in
    lines_of_cut text h.lines h.rest h.cut ∙ ap (λ l. h.lines ++ l) (some_last h.rest some_rest)

-- the last line is answered
pub last_answered : (tables : Database) (text written : List ℕ) (d e : Standing) (h : HasAnswered tables text written d) → (d.line ≡ Some [] → ⊥)
    → (turn : Turn) × IsLineTurn (state_of tables d.session) (d.answered + 1) h.rest turn × ((state_of tables e.session) ≡ turn.state)
    × (e.output ≡ d.output ++ (answer_text turn.answer ++ codes "\n"))
    → HasAnsweredAll tables text written e
last_answered tables text written d e h some t =
    let number : d.answered + 1 ≡ 1 + length h.lines = omega (arith, h.count) in
    let turn = subst (λ k. IsLineTurn (state_of tables d.session) k h.rest t.0) number t.1 in
    let turns = turns_more (first_state tables) 1 h.lines h.answers (state_of tables d.session) h.rest t.0 h.turns turn in
    record {
      answers = h.answers ++ t.0.answer ∷ [];
      turns = subst (λ ls. AreTurns (first_state tables) 1 ls (h.answers ++ t.0.answer ∷ []) (state_of tables e.session))
          (sym (all_lines tables text written d h some))
          (subst (λ s. AreTurns (first_state tables) 1 (h.lines ++ h.rest ∷ []) (h.answers ++ t.0.answer ∷ []) s) (sym t.2) turns);
      output_is = more_output written d e t.0 h.answers h.output_is t.3;
    }

-- a line that ends beyond the last number
pub too_many : (tables : Database) (text written end : List ℕ) (d : Standing) → HasAnswered tables text written d → HasNoLineFeed end → MAX_LINES ≤ d.answered
    → HasTooMany (text ++ (end ++ 10 ∷ []))
too_many tables text written end d h feeds full later =
    let cut = cut_line text h.lines h.rest end h.cut feeds in
    let all = ap length (lines_of_more (text ++ (end ++ 10 ∷ [])) (h.lines ++ (h.rest ++ end) ∷ []) [] later cut) in
    let count : length ((h.lines ++ (h.rest ++ end) ∷ []) ++ text_lines later) ≡ (length h.lines + 1) + length (text_lines later) =
    length-append (h.lines ++ (h.rest ++ end) ∷ []) (text_lines later) ∙ ap (λ n. n + length (text_lines later)) (length_push _ _) in
    let answered = h.count in
    omega arith

-- more of the text
pub too_many_more : (text more : List ℕ) → HasTooMany text → HasTooMany (text ++ more)
too_many_more text more many later = subst HasTooManyLines (sym (append_assoc text more later)) (many (more ++ later))

-- a last line beyond the last number
pub last_too_many : (tables : Database) (text written : List ℕ) (d : Standing) → HasAnswered tables text written d → (d.line ≡ Some [] → ⊥)
    → MAX_LINES ≤ d.answered → HasTooManyLines text
last_too_many tables text written d h some full =
    let all = ap length (all_lines tables text written d h some) ∙ length_push _ _ in
    let answered = h.count in
    omega arith

-- the line that is taken from a piece is answered
pub line_taken : (tables : Database) (text written piece rest after : List ℕ) (d e : Standing) (line : Option (List ℕ))
    → (taken : List ℕ) × (piece ≡ taken ++ rest) × HasAnswered tables (text ++ taken) written d
    → (end : List ℕ) × (rest ≡ end ++ 10 ∷ after) × HasNoLineFeed end × (line ≡ held_after d.line end)
    → ((bytes : List ℕ) → line ≡ buffered bytes → (turn : Turn) × IsLineTurn (state_of tables d.session) (d.answered + 1) bytes turn
    × ((state_of tables e.session) ≡ turn.state) × (e.output ≡ d.output ++ (answer_text turn.answer ++ codes "\n")))
    → e.answered ≡ d.answered + 1 → e.line ≡ Some []
    → (taken : List ℕ) × (piece ≡ taken ++ after) × HasAnswered tables (text ++ taken) written e
line_taken tables text written piece rest after d e line before ended turn count empty =
    let h = before.2 in
    let end = ended.0 in
    let is : line ≡ buffered (h.rest ++ end) = ended.3 ∙ ap (λ l. held_after l end) h.line_is ∙ held_more h.rest end in
    let answered = line_answered tables (text ++ before.0) written end d e h ended.2 (turn (h.rest ++ end) is) count empty in
    let parts : piece ≡ (before.0 ++ (end ++ 10 ∷ [])) ++ after =
    before.1 ∙ ap (λ r. before.0 ++ r) (ended.1 ∙ sym (append_assoc end (10 ∷ []) after)) ∙ sym (append_assoc before.0 (end ++ 10 ∷ []) after) in
    (before.0 ++ (end ++ 10 ∷ []), parts, subst (λ t. HasAnswered tables t written e) (append_assoc text before.0 (end ++ 10 ∷ [])) answered)

-- the line that is taken from a piece is beyond the last number
pub line_too_many : (tables : Database) (text written piece rest after : List ℕ) (d : Standing) (line : Option (List ℕ))
    → (taken : List ℕ) × (piece ≡ taken ++ rest) × HasAnswered tables (text ++ taken) written d
    → (end : List ℕ) × (rest ≡ end ++ 10 ∷ after) × HasNoLineFeed end × (line ≡ held_after d.line end)
    → MAX_LINES ≤ d.answered → HasTooMany (text ++ piece)
line_too_many tables text written piece rest after d line before ended full =
    let end = ended.0 in
    let many = too_many_more ((text ++ before.0) ++ (end ++ 10 ∷ [])) after (too_many tables (text ++ before.0) written end d before.2 ended.2 full) in
    let parts : ((text ++ before.0) ++ (end ++ 10 ∷ [])) ++ after ≡ text ++ piece =
    append_assoc (text ++ before.0) (end ++ 10 ∷ []) after ∙ ap (λ r. (text ++ before.0) ++ r) (append_assoc end (10 ∷ []) after ∙ sym ended.1)
    ∙ append_assoc text before.0 rest ∙ ap (λ p. text ++ p) (sym before.1) in
    subst HasTooMany parts many

-- the rest of a piece, which ends no line, is buffered
pub rest_held : (tables : Database) (text written piece rest : List ℕ) (d : Standing) (line : Option (List ℕ))
    → (taken : List ℕ) × (piece ≡ taken ++ rest) × HasAnswered tables (text ++ taken) written d
    → HasNoLineFeed rest → line ≡ held_after d.line rest → HasAnswered tables (text ++ piece) written (record d { line = line })
rest_held tables text written piece rest d line before feeds is =
    let whole : (text ++ before.0) ++ rest ≡ text ++ piece = append_assoc text before.0 rest ∙ ap (λ p. text ++ p) (sym before.1) in
    subst (λ t. HasAnswered tables t written (record d { line = line })) whole (more_held tables (text ++ before.0) written rest d line before.2 feeds is)

-- a refusal that names too many lines
pub full_at : (P : Type 0) (result : Result (Unit {0}) Refusal) (refusal : Refusal) → result ≡ Err refusal → (refusal ≡ OutOfMemory)
    ⊎ ((refusal ≡ BadInput) × P) → IsErrOf result BadInput → P
full_at P result refusal is (inl memory) bad = absurd (differ (sym memory ∙ err_is refusal BadInput (sym is ∙ bad)))
  where
    err_is : (a b : Refusal) → ◌≡◌ {A = Result (Unit {0}) Refusal} (Err a) (Err b) → a ≡ b
    err_is a b e = cc

    differ : OutOfMemory ≡ BadInput → ⊥
    differ e = cc
full_at P result refusal is (inr full) bad = full.1
