use Rattle.std.proofs.Common.{◌≡◌, ◌++◌, ℕ, List, Option, Some, None, IfSome}
use Rattle.log_header.specs.Header.{HeaderView, IsHeader, header_text}
use Rattle.program_files.proofs.causes.loggers_told.Goals as goal

told : (found : Option ℕ) (bytes : List ℕ)
    → IfSome found (λ loggers. (h : HeaderView) × (rest : List ℕ) × IsHeader h × (bytes ≡ header_text h ++ rest) × (loggers ≡ h.loggers))
    → IfSome found (λ loggers. (h : HeaderView) × (first : List ℕ) × (rest : List ℕ) × IsHeader h × (first ≡ header_text h ++ rest) × (loggers ≡ h.loggers))
told None bytes is = tt
told (Some loggers) bytes is = (is.0, bytes, is.1, is.2, is.3, is.4)

pub returns-in-Ok : goal.returns-in-Ok
returns-in-Ok c = told c.loggers_in.result _ c.loggers_in.ensures
