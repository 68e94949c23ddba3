-- What a script writes.
use Rattle.std.specs.Prelude.{◌≡◌, ◌⊎◌, ℕ, ◌<◌, Option, Some, List, [], ◌++◌, length, codes}
use Rattle.std.specs.Io.KnownBytes.{Appends}
use Rattle.std.specs.List.{flat_map}
use Rattle.money.specs.declared.refusal.Refusal.{Refusal}
use Rattle.money.specs.declared.refusal.Refusal.TheVariants.{OutOfMemory, BadInput, Device}
use Rattle.tables.specs.Database.{Database}
use Rattle.program_script_text.specs.Lines.{text_lines}
use Rattle.program_script_text.specs.Output.{answer_text}
use Rattle.program_script_text.specs.Report.{report_text}
use Rattle.program_script_text.specs.declared.answer.Answer.{Answer}
use Rattle.conditions.specs.Report.{IsReportOf}
use Rattle.conditions.specs.declared.report.Report.{Report}
use Rattle.book.specs.Done.{Done}
use Rattle.program_script.specs.declared.running.TheConstants.{MAX_LINES}
use Rattle.program_script.specs.Turns.{State, AreTurns, commits_of}

-- the state in which nothing is committed
abbrev pub first_state : Database → State
first_state t = record { tables = t; commits = [] }

-- answers, each with a line feed
abbrev pub answers_text : List Answer → List ℕ
answers_text answers = flat_map (λ answer. answer_text answer ++ codes "\n") answers

-- more lines than a script may have
abbrev pub HasTooManyLines : List ℕ → Type 0
HasTooManyLines bytes = MAX_LINES < length (text_lines bytes)

-- the text of a whole script of these bytes: the answers to its lines, from number 1 on, and then the report on the
-- last tables
pub record IsWhole (tables : Database) (bytes text : List ℕ) (report : Report) (dones : List Done) : Type 0 where
  pub answers : List Answer
  pub last : State
  pub turns : AreTurns (first_state tables) 1 (text_lines bytes) answers last
  pub report_is : IsReportOf last.tables report
  pub commits_are : commits_of dones ≡ last.commits
  pub text_is : text ≡ answers_text answers ++ report_text (length dones) report

-- a beginning of that text: of the answers to the first of its lines, or of the whole
pub data IsBeginning (tables : Database) (bytes front : List ℕ) : Type 0 where
  of_answers : (lines later : List (List ℕ)) (answers : List Answer) (last : State) (rest : List ℕ)
      → text_lines bytes ≡ lines ++ later → AreTurns (first_state tables) 1 lines answers last → answers_text answers ≡ front
      ++ rest → IsBeginning tables bytes front
  of_whole : (text rest : List ℕ) (report : Report) (dones : List Done) → IsWhole tables bytes text report dones
      → text ≡ front ++ rest → IsBeginning tables bytes front

-- a writer got that whole text, of the bytes that a reader has if these are known
abbrev pub WritesWhole : Database → Option (List ℕ) → Option (List ℕ) → Option (List ℕ) → Report → List Done → Type 0
WritesWhole tables read old new report dones = (bytes : List ℕ) → read ≡ Some bytes
    → (text : List ℕ) × Appends old new text × IsWhole tables bytes text report dones

-- or it got a beginning of it
abbrev pub WritesFront : Database → Option (List ℕ) → Option (List ℕ) → Option (List ℕ) → Type 0
WritesFront tables read old new = (bytes : List ℕ) → read ≡ Some bytes
    → (front : List ℕ) × Appends old new front × IsBeginning tables bytes front

-- what a script is refused by
abbrev pub IsScriptRefusal : Refusal → Type 0
IsScriptRefusal refusal = (refusal ≡ OutOfMemory) ⊎ (refusal ≡ BadInput) ⊎ (refusal ≡ Device)
