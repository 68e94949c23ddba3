-- What the lines of a script are answered, and what they commit.
use Rattle.std.specs.Prelude.{◌≡◌, ◌≢◌, ℕ, ◌+◌, ◌<◌, ◌≤◌, Option, Some, List, [], ◌∷◌, ◌++◌, length, map}
use Rattle.std.specs.Option.{option_map}
use Rattle.std.specs.FinMap.{get}
use Rattle.money.specs.declared.refusal.Refusal.{Refusal}
use Rattle.money.specs.declared.refusal.Refusal.TheVariants.{BadInput, BadLine}
use Rattle.tables.specs.Database.{Database}
use Rattle.tables.specs.Apply.{Committed, apply, HasOrderNumber}
use Rattle.tables.specs.declared.input.Input.{Input}
use Rattle.tables.specs.declared.reply.Reply.{Reply}
use Rattle.program_script_text.specs.declared.line_buffer.TheConstants.{MAX_LINE}
use Rattle.program_script_text.specs.Requests.{IsRequestAt, IsInRange, request_text}
use Rattle.program_script_text.specs.declared.request.Request.{Request}
use Rattle.program_script_text.specs.declared.request.Request.TheVariants.{Transaction, Show}
use Rattle.program_script_text.specs.declared.request.ShowKey.{ShowKey}
use Rattle.program_script_text.specs.declared.request.ShowKey.TheVariants as key
use Rattle.program_script_text.specs.declared.shown.ShownRow.{ShownRow}
use Rattle.program_script_text.specs.declared.shown.ShownRow.TheVariants as shown
use Rattle.program_script_text.specs.declared.answer.Answer.{Answer}
use Rattle.program_script_text.specs.declared.answer.Answer.TheVariants as answer
use Rattle.book.specs.Done.{Done}
use Rattle.book.specs.Next.{IsRefusedAt}

-- what a terminal is told of a commit: its number and its reply. Its TID, which it is told too, is the engine's own
pub record Commit : Type 0 where
  pub number : ℕ
  pub reply : Reply

abbrev pub commits_of : List Done → List Commit
commits_of dones = map (λ (done : Done). record { number = done.number; reply = done.reply }) dones

-- the committed tables, and what was committed, in order
pub record State : Type 0 where
  pub tables : Database
  pub commits : List Commit

-- an answer, and the state after it
pub record Turn : Type 0 where
  pub answer : Answer
  pub state : State

-- line n is refused, and nothing changes
abbrev pub refused : State → Refusal → ℕ → Turn
refused s refusal n = record { answer = answer.Refused refusal n; state = s }

-- an input commits with these tables and this reply, as the next
abbrev pub committed : State → Database → Reply → Turn
committed s tables told = record {
  answer = answer.Reply told;
  state = record {
    tables = tables;
    commits = s.commits ++ record { number = length s.commits + 1; reply = told } ∷ [];
  };
}

-- the turn of an input within its ranges at line n: refused where the committed tables refuse it, and else committed
pub data IsInputTurn (s : State) (n : ℕ) (x : Input) (turn : Turn) : Type 0 where
  declined :
      (refusal : Refusal)
      → (refuses : IsRefusedAt s.tables (length s.commits) x refusal)
      → (is : turn ≡ refused s refusal n)
      → IsInputTurn s n x turn
  done :
      (tables : Database) (told : Reply)
      → (numbered : HasOrderNumber s.tables x)
      → (below_cap : length s.commits < s.tables.scale.commits)
      → (applies : apply s.tables x ≡ Committed tables told)
      → (is : turn ≡ committed s tables told)
      → IsInputTurn s n x turn

-- the row at a key, if there is one. An order of a key without a row is shown as none
abbrev pub row_of : Database → ShowKey → Option ShownRow
row_of t (key.Warehouse w) = option_map (λ row. shown.Warehouse w row) (get t.warehouses w)
row_of t (key.District k) = option_map (λ row. shown.District k row) (get t.districts k)
row_of t (key.Customer k) = option_map (λ row. shown.Customer k row) (get t.customers k)
row_of t (key.CustomerData k) = option_map (λ text. shown.CustomerData k text) (get t.texts k)
row_of t (key.Stock k) = option_map (λ row. shown.Stock k row) (get t.stock k)
row_of t (key.Order k) = Some (shown.Order k (get t.orders k))

-- the turn of a request within its ranges at line n: of its input, or the row that it asks for, and nothing changes
abbrev pub IsRequestAnswered : State → ℕ → Request → Turn → Type 0
IsRequestAnswered s n (Transaction x) turn = IsInputTurn s n x turn
IsRequestAnswered s n (Show k) turn =
    (row : ShownRow) × (row_of s.tables k ≡ Some row) × (turn ≡ record { answer = answer.Row row; state = s })

-- the turn of a request at line n: refused outside its ranges
pub data IsRequestTurn (s : State) (n : ℕ) (asked : Request) (turn : Turn) : Type 0 where
  beyond :
      (out_of_range : ¬ IsInRange s.tables.scale asked)
      → (is : turn ≡ refused s BadInput n)
      → IsRequestTurn s n asked turn
  within :
      (in_range : IsInRange s.tables.scale asked)
      → (answered : IsRequestAnswered s n asked turn)
      → IsRequestTurn s n asked turn

-- the turn of line n: a line of more than 1,024 bytes, or of none of the forms, is refused. The date of a transaction
-- is n
pub data IsLineTurn (s : State) (n : ℕ) (line : List ℕ) (turn : Turn) : Type 0 where
  long :
      (too_long : MAX_LINE < length line)
      → (is : turn ≡ refused s BadLine n)
      → IsLineTurn s n line turn
  unread :
      (fits : length line ≤ MAX_LINE)
      → (asks_none : (request : Request) → IsRequestAt n request → line ≢ request_text request)
      → (is : turn ≡ refused s BadLine n)
      → IsLineTurn s n line turn
  read :
      (request : Request)
      → (fits : length line ≤ MAX_LINE)
      → (at_line : IsRequestAt n request)
      → (asks : line ≡ request_text request)
      → (turn_is : IsRequestTurn s n request turn)
      → IsLineTurn s n line turn

-- lines from number n on, their answers, and the state after them
abbrev pub AreTurns : State → ℕ → List (List ℕ) → List Answer → State → Type 0
AreTurns s n [] answers last = (answers ≡ []) × (last ≡ s)
AreTurns s n (line ∷ lines) answers last =
    (turn : Turn) × (later : List Answer) × IsLineTurn s n line turn
    × (answers ≡ turn.answer ∷ later) × AreTurns turn.state (n + 1) lines later last
