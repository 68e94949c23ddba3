use Rattle.std.proofs.Common.{◌≡◌, ◌<◌, List, ℕ, map, length, sym, ap, ◌∙◌, subst, arith, rules}
use Rattle.log_header.specs.Header.{HeaderView}
use Rattle.log_header.specs.declared.header.TheConstants.{VERSION}
use Rattle.log_text.specs.Bodies.{body_of}
use Rattle.log_text.specs.File.{IsFile, IsFileTo}
use Rattle.log_text.proofs.OneFile.{one_file}
use Rattle.log_scan.proofs.SameFile.{in_front, in_whole, in_whole_to}
use Rattle.logfile.proofs.Opening.{end_within}
use Rattle.logfile.proofs.Refusing.{stays_unsynced, is_synced}
use Rattle.logfile.proofs.reopening.read_again.Goals as goal

pub returns-in_err-header-clause-damaged : goal.returns-in_err-header-clause-damaged
returns-in_err-header-clause-damaged g c = λ modelled e h bodies today is.
    let read = c.in_ok-bytes.ensures.text in
    let front = in_front c.in_ok-bytes.bytes.items read.0 h bodies read.1 read.3
    (subst (λ (b : List ℕ). IsFile b h bodies) (sym (read.2 modelled ∙ c.in_ok-sync.ensures.seen modelled)) is) in
    c.in_err-header.ensures.damaged (search (rules, e)) h bodies (subst (λ (b : List ℕ). IsFile b h bodies) (sym c.deref.ensures.value) front)

-- a file of another version has no header of this one
pub returns-then-header-ne-VERSION-clause-damaged : goal.returns-then-header-ne-VERSION-clause-damaged
returns-then-header-ne-VERSION-clause-damaged g c = λ modelled e h bodies today is.
    let read = c.in_ok-bytes.ensures.text in
    let found = in_whole c.in_ok-bytes.bytes.items read.0 c.in_ok-header.header (map body_of c.in_ok-header.bodies.items) read.3
    (subst (λ (b : List ℕ). IsFile b c.in_ok-header.header (map body_of c.in_ok-header.bodies.items)) c.deref.ensures.value c.in_ok-header.ensures.found.is) in
    let one = one_file read.0 c.in_ok-header.header h (map body_of c.in_ok-header.bodies.items) bodies read.1 found
    (subst (λ (b : List ℕ). IsFile b h bodies) (sym (read.2 modelled ∙ c.in_ok-sync.ensures.seen modelled)) is) in
    let version : c.in_ok-header.header.version ≡ VERSION = ap (λ (x : HeaderView). x.version) one.0 ∙ today in
    search (rules, version)

pub returns-clause-read : goal.returns-clause-read
returns-clause-read g c =
    let read = c.in_ok-bytes.ensures.text in
    let whole = in_whole_to c.in_ok-bytes.bytes.items read.0 c.in_ok-header.header (map body_of c.in_ok-header.bodies.items) c.in_ok-header.last c.in_ok-header.end read.3
    (subst (λ (b : List ℕ). IsFileTo b c.in_ok-header.header (map body_of c.in_ok-header.bodies.items) c.in_ok-header.last c.in_ok-header.end)
    c.deref.ensures.value c.in_ok-header.ensures.found) in
    (read.0, (read.1, (λ modelled. read.2 modelled ∙ c.in_ok-sync.ensures.seen modelled), whole))

pub returns-clause-reaches : goal.returns-clause-reaches
returns-clause-reaches g c =
    let end : ℕ = c.in_ok-header.end in
    let within : end < length c.deref.result.now
    = end_within c.deref.result.now c.in_ok-header.header (map body_of c.in_ok-header.bodies.items) c.in_ok-header.last end c.in_ok-header.ensures.found in
    omega (arith, within, c.deref.ensures.len, ap length c.deref.ensures.value, c.in_ok-bytes.bytes.small)

pub returns-in_err-sync-clause-unwritten : goal.returns-in_err-sync-clause-unwritten
returns-in_err-sync-clause-unwritten g c = stays_unsynced c.in_err-sync.ensures.seen c.in_err-sync.ensures.story

pub returns-in_err-bytes-clause-unwritten : goal.returns-in_err-bytes-clause-unwritten
returns-in_err-bytes-clause-unwritten g c = is_synced
    (λ modelled. c.in_err-bytes.ensures.reads.seen modelled ∙ c.in_ok-sync.ensures.seen modelled)
    (λ modelled. c.in_err-bytes.ensures.reads.story modelled ∙ c.in_ok-sync.ensures.story modelled)

pub returns-in_err-header-clause-unwritten : goal.returns-in_err-header-clause-unwritten
returns-in_err-header-clause-unwritten g c = is_synced
    (λ modelled. c.in_ok-bytes.ensures.reads.seen modelled ∙ c.in_ok-sync.ensures.seen modelled)
    (λ modelled. c.in_ok-bytes.ensures.reads.story modelled ∙ c.in_ok-sync.ensures.story modelled)

pub returns-then-header-ne-VERSION-clause-unwritten : goal.returns-then-header-ne-VERSION-clause-unwritten
returns-then-header-ne-VERSION-clause-unwritten g c = is_synced
    (λ modelled. c.in_ok-bytes.ensures.reads.seen modelled ∙ c.in_ok-sync.ensures.seen modelled)
    (λ modelled. c.in_ok-bytes.ensures.reads.story modelled ∙ c.in_ok-sync.ensures.story modelled)

pub returns-clause-unwritten : goal.returns-clause-unwritten
returns-clause-unwritten g c = is_synced
    (λ modelled. c.in_ok-bytes.ensures.reads.seen modelled ∙ c.in_ok-sync.ensures.seen modelled)
    (λ modelled. c.in_ok-bytes.ensures.reads.story modelled ∙ c.in_ok-sync.ensures.story modelled)
