-- What the bytes show that hold a file's text is so of the file.
use Rattle.std.proofs.Common.{inl, inr, ℕ, List}
use Rattle.log_scan.specs.Text.{HoldsText}
use Rattle.log_flaws.proofs.FrontFlaws.{front_header, front_headless}
use Rattle.program_recovery.specs.Flaws.{IsVersionOf}

pub version_on : (bytes file : List ℕ) (version : ℕ) → HoldsText bytes file → IsVersionOf bytes version → IsVersionOf file version
version_on bytes file version holds (inl is) =
    let whole = front_header bytes file is.1 is.0 holds is.3 in
    inl (is.0, whole.0, is.2, whole.1, is.4)
version_on bytes file version holds (inr is) = inr (front_headless bytes file holds is.0, is.1)
