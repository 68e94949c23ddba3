-- The exit status of an outcome.
use Rattle.std.specs.Prelude.{◌≡◌, ◌++◌, ℕ, List, [], Option, Result, Ok, Err, codes}
use Rattle.std.specs.Borrow.{Bor}
use Rattle.money.specs.declared.refusal.Refusal.{Refusal}
use Rattle.money.specs.declared.refusal.Refusal.TheVariants.{BadScale}
use Rattle.conditions.specs.Report.{IsGood}
use Rattle.conditions.specs.declared.report.Report.{Report}
use Rattle.std.specs.Io.KnownBytes.{Appends}
use Rattle.money.specs.Refusal.{refusal_text}

-- 2 where the scale was refused, and 1 for any other refusal
abbrev pub IsRefusedStatus : Refusal → ℕ → Type 0
IsRefusedStatus BadScale status = status ≡ 2
IsRefusedStatus _ status = status ≡ 1

-- 0 where the report is good, 1 where it isn't, and else that of the refusal
abbrev pub IsStatusOf : Result (Bor Report) Refusal → ℕ → Type 0
IsStatusOf (Ok report) status = (IsGood report.now → status ≡ 0) × ((IsGood report.now → ⊥) → status ≡ 1)
IsStatusOf (Err refusal) status = IsRefusedStatus refusal status

-- a refusal's line
abbrev pub refusal_line : Refusal → List ℕ
refusal_line refusal = refusal_text refusal ++ codes "\n"

-- what is to be told of an outcome: a refusal's line, and else nothing
abbrev pub outcome_line : Result (Bor Report) Refusal → List ℕ
outcome_line (Ok report) = []
outcome_line (Err refusal) = refusal_line refusal

-- a writer got a beginning of the text, and nothing else
abbrev pub WritesBeginning : List ℕ → Option (List ℕ) → Option (List ℕ) → Type 0
WritesBeginning text old new = (front : List ℕ) × (rest : List ℕ) × (text ≡ front ++ rest) × Appends old new front
