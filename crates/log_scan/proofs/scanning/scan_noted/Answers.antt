use Rattle.std.proofs.Common.{sym, subst}
use Rattle.log_text.specs.File.{IsFile}
use Rattle.log_scan.proofs.SameFile.{in_front}
use Rattle.log_scan.proofs.scanning.scan_noted.Goals as goal

pub returns-clause-damaged : goal.returns-clause-damaged
returns-clause-damaged g c = λ e.
    let read = c.in_ok-bytes.ensures.text in (
      read.0,
      read.2,
      λ h bodies is. c.read_file.ensures.damaged e h bodies (subst (λ b. IsFile b h bodies) (sym c.deref.ensures.value) (in_front c.in_ok-bytes.bytes.items read.0 h bodies read.1 read.3 is)),
    )
