-- How far a script has come between reads, and what is written by then.
use Rattle.std.proofs.Common.{◌≡◌, ℕ, Option, Some, None, List, [], ◌++◌, length, append_assoc, append-nil, refl, sym, ap}
use Rattle.std.proofs.Common.{◌∙◌, subst}
use Rattle.std.specs.Prelude.{Result, Ok, Err, OnOk, OnErr, IfOk, IfErr, IsErrOf, ◌⊎◌}
use Rattle.std.proofs.Common.{inl, inr}
use Rattle.money.specs.declared.refusal.Refusal.{Refusal}
use Rattle.money.specs.declared.refusal.Refusal.TheVariants.{OutOfMemory, BadInput, Device}
use Rattle.std.specs.Io.KnownBytes.{Appends, Consumes, IsAtEnd}
use Rattle.std.proofs.KnownBytes.{Appends-nil, Appends-trans}
use Rattle.tables.specs.Database.{Database}
use Rattle.conditions.specs.Report.{IsReportOf}
use Rattle.conditions.specs.declared.report.Report.{Report}
use Rattle.program_script_text.specs.Lines.{text_lines}
use Rattle.program_script_text.specs.Report.{report_text}
use Rattle.book.specs.Done.{Done}
use Rattle.program_script.specs.Turns.{AreTurns, commits_of}
use Rattle.program_script.specs.Written.{first_state, HasTooManyLines, IsWhole, IsBeginning, of_answers, of_whole}
use Rattle.program_script.specs.Answered.{state_of, Standing, HasAnswered, HasAnsweredAll, HasTooMany}
use Rattle.program_script.proofs.DeskLemmas.{lines_of_more}

-- a front of the bytes is read and answered, and its answers are written but for what the desk holds
pub record HasReached (tables : Database) (bytes : List ℕ) (left old new : Option (List ℕ)) (d : Standing) : Type 0 where
  pub text : List ℕ
  pub rest : List ℕ
  pub written : List ℕ
  pub bytes_are : bytes ≡ text ++ rest
  pub left_is : left ≡ Some rest
  pub wrote : Appends old new written
  pub desk_is : HasAnswered tables text written d

-- what the desk holds is written
pub written_all : (tables : Database) (text written : List ℕ) (d e : Standing) → HasAnswered tables text written d
    → (state_of tables e.session) ≡ (state_of tables d.session) → e.line ≡ d.line → e.answered ≡ d.answered → e.output ≡ []
    → HasAnswered tables text (written ++ d.output) e
written_all tables text written d e h session line count output = record {
  lines = h.lines;
  rest = h.rest;
  answers = h.answers;
  cut = h.cut;
  line_is = line ∙ h.line_is;
  turns = subst (λ s. AreTurns (first_state tables) 1 h.lines h.answers s) (sym session) h.turns;
  count = count ∙ h.count;
  output_is = h.output_is ∙ sym (append-nil _) ∙ ap (λ o. (written ++ d.output) ++ o) (sym output);
}

-- a write that failed, or none, left a beginning
pub begun : (tables : Database) (bytes text left written front rest : List ℕ) (d : Standing) → HasAnswered tables text written d → bytes ≡ text ++ left
    → d.output ≡ front ++ rest → IsBeginning tables bytes (written ++ front)
begun tables bytes text left written front rest d h is output =
    of_answers h.lines (text_lines (h.rest ++ left)) h.answers (state_of tables d.session) rest
    (ap text_lines is ∙ lines_of_more text h.lines h.rest left h.cut) h.turns
    (h.output_is ∙ ap (λ o. written ++ o) output ∙ sym (append_assoc written front rest))

-- nothing is written yet
pub begun_none : (tables : Database) (bytes : List ℕ) → IsBeginning tables bytes []
begun_none tables bytes = of_answers [] (text_lines bytes) [] (first_state tables) [] refl (refl, refl) refl

-- the report isn't made
pub begun_all : (tables : Database) (bytes written : List ℕ) (d : Standing) → HasAnsweredAll tables bytes written d → IsBeginning tables bytes (written ++ [])
begun_all tables bytes written d h =
    of_answers (text_lines bytes) [] h.answers (state_of tables d.session) (d.output) (sym (append-nil _)) h.turns
    (h.output_is ∙ ap (λ w. w ++ d.output) (sym (append-nil written)))

-- the report stands behind the answers
pub whole : (tables : Database) (bytes written output : List ℕ) (d : Standing) (report : Report) (dones : List Done) → HasAnsweredAll tables bytes written d
    → IsReportOf (state_of tables d.session).tables report → dones ≡ d.session.dones → output ≡ d.output ++ report_text (length dones) report
    → IsWhole tables bytes (written ++ output) report dones
whole tables bytes written output d report dones h is_report dones_are output_is = record {
  answers = h.answers;
  last = (state_of tables d.session);
  turns = h.turns;
  report_is = is_report;
  commits_are = ap commits_of dones_are;
  text_is = ap (λ o. written ++ o) output_is ∙ sym (append_assoc written _ _) ∙ ap (λ t. t ++ report_text (length dones) report) (sym h.output_is);
}

-- the report wasn't written as a whole
pub begun_report : (tables : Database) (bytes written output front rest : List ℕ) (report : Report) (dones : List Done)
    → IsWhole tables bytes (written ++ output) report dones → output ≡ front ++ rest → IsBeginning tables bytes (written ++ front)
begun_report tables bytes written output front rest report dones w is =
    of_whole (written ++ output) rest report dones w (ap (λ o. written ++ o) is ∙ sym (append_assoc written front rest))

-- known bytes stay known
consumed_some : (left : List ℕ) (next : Option (List ℕ)) (piece : List ℕ) → Consumes (Some left) next piece → (rest : List ℕ) × (next ≡ Some rest)
    × (left ≡ piece ++ rest)
consumed_some left None piece h = absurd h
consumed_some left (Some rest) piece h = (rest, refl, h)

-- what a write that succeeds promises
abbrev pub Wrote : Database → Option (List ℕ) → Option (List ℕ) → Standing → Standing → Type 0
Wrote tables mid new c d = (text written : List ℕ) → HasAnswered tables text written c → (more : List ℕ) × Appends mid new more
    × HasAnswered tables text (written ++ more) d

-- a beginning is written
abbrev pub Begun : Database → List ℕ → Option (List ℕ) → Option (List ℕ) → Type 0
Begun tables bytes old new = (front : List ℕ) × Appends old new front × IsBeginning tables bytes front

-- a write and a read later
pub reached_more : (tables : Database) (bytes : List ℕ) (left next old mid new : Option (List ℕ)) (c d e : Standing) (piece : List ℕ)
    → HasReached tables bytes left old mid c
    → Wrote tables mid new c d
    → Consumes left next piece
    → ((text written : List ℕ) → HasAnswered tables text written d → HasAnswered tables (text ++ piece) written e)
    → HasReached tables bytes next old new e
reached_more tables bytes left next old mid new c d e piece h wrote consumed answered =
    let w = wrote h.text h.written h.desk_is in
    let r = consumed_some h.rest next piece (subst (λ l. Consumes l next piece) h.left_is consumed) in
    record {
      text = h.text ++ piece;
      rest = r.0;
      written = h.written ++ w.0;
      bytes_are = h.bytes_are ∙ ap (λ t. h.text ++ t) r.2 ∙ sym (append_assoc h.text piece r.0);
      left_is = r.1;
      wrote = Appends-trans old mid new h.written w.0 h.wrote w.1;
      desk_is = answered h.text (h.written ++ w.0) w.2;
    }

-- what is said of an error
pub on_err : {A E : Type 0} (P : Type 0) (result : Result A E) → P → OnErr result P
on_err P (Ok value) p = tt
on_err P (Err refusal) p = p

-- a report on as many commits
pub report_of : (out before : List ℕ) (n m : ℕ) (report : Report) → out ≡ before ++ report_text n report → n ≡ m → out ≡ before ++ report_text m report
report_of out before n m report is commits = is ∙ ap (λ k. before ++ report_text k report) commits

-- a beginning between two writes
pub begun_here : (tables : Database) (bytes : List ℕ) (left old mid : Option (List ℕ)) (c : Standing) → HasReached tables bytes left old mid c
    → Begun tables bytes old mid
begun_here tables bytes left old mid c h = (
  h.written,
  h.wrote,
  subst (IsBeginning tables bytes) (append-nil h.written)
      (begun tables bytes h.text h.rest h.written [] (c.output) c h.desk_is h.bytes_are refl),
)

-- after a write that failed
pub begun_write : (tables : Database) (bytes : List ℕ) (left old mid new : Option (List ℕ)) (c : Standing) → HasReached tables bytes left old mid c
    → (front rest : List ℕ) × (c.output ≡ front ++ rest) × Appends mid new front → Begun tables bytes old new
begun_write tables bytes left old mid new c h failed = (
  h.written ++ failed.0,
  Appends-trans old mid new h.written failed.0 h.wrote failed.3,
  begun tables bytes h.text h.rest h.written failed.0 failed.1 c
      h.desk_is h.bytes_are failed.2,
)

-- after a write that succeeded
pub begun_after : (tables : Database) (bytes : List ℕ) (left old mid new : Option (List ℕ)) (c d : Standing) → HasReached tables bytes left old mid c
    → Wrote tables mid new c d → Begun tables bytes old new
begun_after tables bytes left old mid new c d h wrote =
    let w = wrote h.text h.written h.desk_is in
    let text : List ℕ = h.written ++ w.0 in (
      text,
      Appends-trans old mid new h.written w.0 h.wrote w.1,
      subst (IsBeginning tables bytes) (append-nil text)
          (begun tables bytes h.text h.rest text [] (d.output) d w.2 h.bytes_are refl),
    )

-- at the end of what is read
ended_text : (tables : Database) (bytes : List ℕ) (left next old mid : Option (List ℕ)) (c : Standing) → (h : HasReached tables bytes left old mid c)
    → Consumes left next [] → IsAtEnd next → bytes ≡ h.text
ended_text tables bytes left next old mid c h consumed end =
    let r = consumed_some h.rest next [] (subst (λ l. Consumes l next []) h.left_is consumed) in
    let none : r.0 ≡ [] = subst IsAtEnd r.1 end in
    h.bytes_are ∙ ap (λ t. h.text ++ t) (r.2 ∙ none) ∙ append-nil h.text

-- the last line is answered
pub reached_end : (tables : Database) (bytes : List ℕ) (left next old mid new : Option (List ℕ)) (c d e : Standing) → HasReached tables bytes left old mid c
    → Wrote tables mid new c d → Consumes left next [] → IsAtEnd next
    → ((text written : List ℕ) → HasAnswered tables text written d → HasAnsweredAll tables text written e)
    → (written : List ℕ) × Appends old new written × HasAnsweredAll tables bytes written e
reached_end tables bytes left next old mid new c d e h wrote consumed end last =
    let w = wrote h.text h.written h.desk_is in
    let is = ended_text tables bytes left next old mid c h consumed end in (
      h.written ++ w.0,
      Appends-trans old mid new h.written w.0 h.wrote w.1,
      subst (λ t. HasAnsweredAll tables t (h.written ++ w.0) e) (sym is)
          (last h.text (h.written ++ w.0) w.2),
    )

-- too many lines in a piece, or with the last one
pub many_reached : (tables : Database) (bytes : List ℕ) (left next old mid new : Option (List ℕ)) (c d : Standing) (piece : List ℕ)
    → HasReached tables bytes left old mid c → Wrote tables mid new c d → Consumes left next piece
    → ((text written : List ℕ) → HasAnswered tables text written d → HasTooMany (text ++ piece)) → HasTooManyLines bytes
many_reached tables bytes left next old mid new c d piece h wrote consumed many =
    let w = wrote h.text h.written h.desk_is in
    let r = consumed_some h.rest next piece (subst (λ l. Consumes l next piece) h.left_is consumed) in
    let is : bytes ≡ (h.text ++ piece) ++ r.0 = h.bytes_are ∙ ap (λ t. h.text ++ t) r.2 ∙ sym (append_assoc h.text piece r.0) in
    subst HasTooManyLines (sym is) (many h.text (h.written ++ w.0) w.2 r.0)

pub many_at_end : (tables : Database) (bytes : List ℕ) (left next old mid new : Option (List ℕ)) (c d : Standing) → HasReached tables bytes left old mid c
    → Wrote tables mid new c d → Consumes left next [] → IsAtEnd next
    → ((text written : List ℕ) → HasAnswered tables text written d → HasTooManyLines text) → HasTooManyLines bytes
many_at_end tables bytes left next old mid new c d h wrote consumed end many =
    let w = wrote h.text h.written h.desk_is in
    subst HasTooManyLines (sym (ended_text tables bytes left next old mid c h consumed end)) (many h.text (h.written ++ w.0) w.2)

-- at the start
pub reached_start : (tables : Database) (bytes : List ℕ) (left old : Option (List ℕ)) (d : Standing) → left ≡ Some bytes → HasAnswered tables [] [] d
    → HasReached tables bytes left old old d
reached_start tables bytes left old d is h =
    record { text = []; rest = bytes; written = []; bytes_are = refl; left_is = is; wrote = Appends-nil old; desk_is = h }

-- nothing is said of a value where there is an error
pub on_ok_of_err : {A E : Type 0} (P : Type 0) (result : Result A E) (refusal : E) → result ≡ Err refusal → OnOk result P
on_ok_of_err P result refusal is = subst (λ r. OnOk r P) (sym is) tt

-- a refusal of the answers
pub refusal_of : {A : Type 0} (result : Result A Refusal) (refusal : Refusal) → result ≡ Err refusal → (refusal ≡ OutOfMemory) ⊎ (refusal ≡ BadInput)
    → IfErr result (λ r. (r ≡ OutOfMemory) ⊎ (r ≡ BadInput) ⊎ (r ≡ Device))
refusal_of {A} result refusal is kind = subst (λ (x : Result A Refusal). IfErr x (λ r. (r ≡ OutOfMemory) ⊎ (r ≡ BadInput) ⊎ (r ≡ Device))) (sym is)
    (among refusal kind)
  where
    among : (r : Refusal) → (r ≡ OutOfMemory) ⊎ (r ≡ BadInput) → (r ≡ OutOfMemory) ⊎ (r ≡ BadInput) ⊎ (r ≡ Device)
    among r (inl memory) = inl memory
    among r (inr bad) = inr (inl bad)

pub if_ok_of_err : {A E : Type 0} (P : A → Type 0) (result : Result A E) (refusal : E) → result ≡ Err refusal → IfOk result P
if_ok_of_err P result refusal is = subst (λ r. IfOk r P) (sym is) tt

-- what is said of a refusal holds of the result
pub if_err_of : {A E : Type 0} (P : E → Type 0) (result : Result A E) (refusal : E) → result ≡ Err refusal → P refusal → IfErr result P
if_err_of P result refusal is p = subst (λ r. IfErr r P) (sym is) p

-- a refusal of the report
pub report_refusal : (refusal : Refusal) → (refusal ≡ OutOfMemory) ⊎ (refusal ≡ Device) → (refusal ≡ OutOfMemory) ⊎ (refusal ≡ BadInput) ⊎ (refusal ≡ Device)
report_refusal refusal (inl memory) = inl memory
report_refusal refusal (inr device) = inr (inr device)

pub report_not_bad : {A : Type 0} (result : Result A Refusal) (refusal : Refusal) → result ≡ Err refusal → (refusal ≡ OutOfMemory) ⊎ (refusal ≡ Device)
    → IsErrOf result BadInput → ⊥
report_not_bad {A} result refusal is kind bad = neither refusal kind (errors refusal BadInput (sym is ∙ bad))
  where
    errors : (a b : Refusal) → ◌≡◌ {A = Result A Refusal} (Err a) (Err b) → a ≡ b
    errors a b e = cc

    neither : (r : Refusal) → (r ≡ OutOfMemory) ⊎ (r ≡ Device) → r ≡ BadInput → ⊥
    neither r (inl memory) bad = cc
    neither r (inr device) bad = cc

-- what a call says of its result says more of it
pub if_ok_more : {A E : Type 0} (P Q : A → Type 0) (result : Result A E) → ((value : A) → P value → Q value) → IfOk result P → IfOk result Q
if_ok_more P Q (Ok value) more p = more value p
if_ok_more P Q (Err refusal) more p = p

pub on_err_more : {A E : Type 0} (P Q : Type 0) (result : Result A E) → (P → Q) → OnErr result P → OnErr result Q
on_err_more P Q (Ok value) more p = p
on_err_more P Q (Err refusal) more p = more p

pub if_err_more : {A E : Type 0} (P Q : E → Type 0) (result : Result A E) → ((refusal : E) → P refusal → Q refusal) → IfErr result P → IfErr result Q
if_err_more P Q (Ok value) more p = p
if_err_more P Q (Err refusal) more p = more refusal p

pub report_not_many : {A : Type 0} (result : Result A Refusal) → IfErr result (λ refusal. (refusal ≡ OutOfMemory) ⊎ (refusal ≡ Device))
    → IsErrOf result BadInput → ⊥
report_not_many (Ok value) kind bad = cc
report_not_many (Err refusal) kind bad = report_not_bad (Err refusal) refusal refl kind bad

-- the same refusal of another call
pub bad_of : {A B : Type 0} (result : Result A Refusal) (refusal : Refusal) → result ≡ Err refusal → IsErrOf result BadInput
    → IsErrOf {T = B} (Err refusal) BadInput
bad_of {A} {B} result refusal is bad = ap (λ r. Err r) (errors refusal BadInput (sym is ∙ bad))
  where
    errors : (a b : Refusal) → ◌≡◌ {A = Result A Refusal} (Err a) (Err b) → a ≡ b
    errors a b e = cc
