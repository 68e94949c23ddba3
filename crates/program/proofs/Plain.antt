-- What comes of words that need no tables.
use Rattle.std.proofs.Common.{◌≡◌, ◌++◌, List, ℕ, [], Option, None, Result, Ok, Err, inl, inr, subst, sym}
use Rattle.std.specs.Prelude.{IfErr, OnOk}
use Rattle.std.specs.Io.KnownBytes.{Appends}
use Rattle.std.specs.declared.io.Error.{Error as IoError}
use Rattle.clap.specs.Faults.{fault_of}
use Rattle.clap.specs.Kinds.{IsAmong}
use Rattle.clap.specs.Values.{kind_of}
use Rattle.clap.specs.declared.error.Error.{Error}
use Rattle.clap.specs.declared.error.kind.ErrorKind.{ErrorKind}
use Rattle.clap.specs.declared.error.kind.ErrorKind.TheVariants.{DisplayVersion}
use Rattle.money.specs.declared.refusal.Refusal.{Refusal}
use Rattle.money.specs.declared.refusal.Refusal.TheVariants.{Device}
use Rattle.program_options.specs.CommandLine.{IsInfoAskedBy, IsOptionsRefusal, IsVersionAskedBy, program_app}
use Rattle.program_options.specs.declared.asked.InfoOptions.{InfoOptions}
use Rattle.program_files.specs.Causes.{CauseView, cause_of}
use Rattle.program.specs.Info.{IsInfoTold, IsPlainDetail, IsUntold, first_path, version_line}
use Rattle.program.specs.Run.{IsRun, informed, uninformed, unversioned, version}
use Rattle.program.specs.Status.{IsRefusedStatus, WritesBeginning, refusal_line}
use Rattle.program_files.specs.declared.fault.Fault.{Fault}

-- an error of this kind comes of words that ask for the version
pub version_asked : (words : List (List ℕ)) (error : Error) → IsOptionsRefusal words error → kind_of error ≡ DisplayVersion → IsVersionAskedBy words
version_asked words error (inl memory) is = absurd cc
version_asked words error (inr (inl unread)) is = absurd cc
version_asked words error (inr (inr among)) is = subst (λ (k : ErrorKind). IsAmong k (fault_of program_app words)) is among

-- a refusal's line and the one behind it were begun, and this is the exit status
abbrev pub IsEndedBy : Option IoError → Option IoError → Option (List ℕ) → Option (List ℕ) → ℕ → Refusal → Option CauseView → Type 0
IsEndedBy in_error out_error errors told status refusal known = (detail : List ℕ) × IsPlainDetail known in_error out_error refusal detail
    × WritesBeginning (refusal_line refusal ++ detail) errors told × IsRefusedStatus refusal status

pub informed_run : {U : Type 0} (words : List (List ℕ)) (bytes : List ℕ) (output written errors told : Option (List ℕ))
    (in_error out_error : Option IoError) (status : ℕ) (i : InfoOptions) (result : Result U Fault) → IsInfoAskedBy words i
    → OnOk result (IsInfoTold output written)
    → IfErr result (λ fault. IsUntold (first_path i) output written fault.refusal (cause_of fault))
    → OnOk result ((status ≡ 0) × Appends errors told [])
    → IfErr result (λ fault. IsEndedBy in_error out_error errors told status fault.refusal (cause_of fault))
    → IsRun words bytes output written errors told in_error out_error status
informed_run words bytes output written errors told in_error out_error status i (Ok u) asked is_told untold good ended =
    informed i asked is_told good.1 good.0
informed_run words bytes output written errors told in_error out_error status i (Err fault) asked is_told untold good ended =
    uninformed i fault.refusal (cause_of fault) ended.0 asked untold ended.1 ended.2 ended.3

pub version_run : {U : Type 0} (words : List (List ℕ)) (bytes : List ℕ) (output written errors told : Option (List ℕ))
    (in_error out_error : Option IoError) (status : ℕ) (result : Result U Fault) → IsVersionAskedBy words
    → OnOk result (Appends output written version_line)
    → IfErr result (λ fault. (fault.refusal ≡ Device) × (cause_of fault ≡ None) × WritesBeginning version_line output written)
    → OnOk result ((status ≡ 0) × Appends errors told [])
    → IfErr result (λ fault. IsEndedBy in_error out_error errors told status fault.refusal (cause_of fault))
    → IsRun words bytes output written errors told in_error out_error status
version_run words bytes output written errors told in_error out_error status (Ok u) asked whole begun good ended =
    version asked whole good.1 good.0
version_run words bytes output written errors told in_error out_error status (Err fault) asked whole begun good ended =
    let unknown = subst (λ (known : Option CauseView). IsEndedBy in_error out_error errors told status fault.refusal known) begun.1 ended in
    let device = subst (λ (refusal : Refusal). IsEndedBy in_error out_error errors told status refusal None) begun.0 unknown in
    unversioned device.0 asked begun.2 device.1 device.2 device.3

-- what is so of its fault is so of what was refused
pub of_fault : {U : Type 0} (P : Fault → Type 0) (told : Result U Fault) (fault : Fault) → told ≡ Err fault → P fault → IfErr told P
of_fault {U} P told fault is p = subst (λ (t : Result U Fault). IfErr t P) (sym is) p
