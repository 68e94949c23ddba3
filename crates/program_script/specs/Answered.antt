-- How far a desk has come in a script: for a script's private steps. What it promises is in Written.antt.
use Rattle.std.specs.Prelude.{◌≡◌, ℕ, Option, List, ◌++◌, length, codes, string_bytes}
use Rattle.book.specs.History.{replay}
use Rattle.tables.specs.Database.{Database}
use Rattle.program_script_text.specs.Lines.{IsCut, buffered, text_lines}
use Rattle.program_script_text.specs.Output.{answer_text}
use Rattle.program_script_text.specs.declared.answer.Answer.{Answer}
use Rattle.program_script.specs.declared.running.Desk.{Desk}
use Rattle.book_session.specs.Session.{SessionView}
use Rattle.program_script.specs.Turns.{State, AreTurns, commits_of}
use Rattle.program_script.specs.Written.{first_state, answers_text, HasTooManyLines}

-- the state that a session makes of the tables that the run began with
abbrev pub state_of : Database → SessionView → State
state_of t0 session = record { tables = replay t0 session.history; commits = commits_of session.dones }

-- the bytes from before, and then the answer with a line feed
abbrev pub IsPrinted : List ℕ → Answer → List ℕ → Type 0
IsPrinted before answer after = after ≡ before ++ (answer_text answer ++ codes "\n")

-- what a desk has: what has committed, the line that is coming in, how many lines were answered, and the answers that
-- aren't written yet
pub record Standing : Type 0 where
  pub session : SessionView
  pub line : Option (List ℕ)
  pub answered : ℕ
  pub output : List ℕ

abbrev pub standing_of : {K : Type 0} → Desk K → Standing
standing_of d = record { session = d.session; line = d.line; answered = d.answered; output = string_bytes d.output }

-- the lines that this text ends are answered, and these bytes are written
pub record HasAnswered (tables : Database) (text written : List ℕ) (d : Standing) : Type 0 where
  pub lines : List (List ℕ)
  pub rest : List ℕ
  pub answers : List Answer
  pub cut : IsCut text lines rest
  pub line_is : d.line ≡ buffered rest
  pub turns : AreTurns (first_state tables) 1 lines answers (state_of tables d.session)
  pub count : d.answered ≡ length lines
  pub output_is : answers_text answers ≡ written ++ d.output

-- all lines of these bytes are answered, and these are written
pub record HasAnsweredAll (tables : Database) (bytes written : List ℕ) (d : Standing) : Type 0 where
  pub answers : List Answer
  pub turns : AreTurns (first_state tables) 1 (text_lines bytes) answers (state_of tables d.session)
  pub output_is : answers_text answers ≡ written ++ d.output

-- whatever follows the text, it has too many lines
abbrev pub HasTooMany : List ℕ → Type 0
HasTooMany text = (later : List ℕ) → HasTooManyLines (text ++ later)
