use Rattle.std.proofs.Common.{List, map, arith, rules}
use Rattle.log_text.specs.Bodies.{BodyView, body_of}
use Rattle.logfile.specs.Standing.{Stands}
use Rattle.logfile.proofs.Appending.{all_kept, is_open}
use Rattle.logfile.proofs.Opening.{file_near, reopened_read}
use Rattle.logfile.proofs.log_file.LogFile.open_or_give_back.Goals as goal

pub invariant_of-file : goal.invariant_of-file
invariant_of-file g c =
    let read = c.in-Ok.ensures.read in
    let h = c.in-Ok.found.0 in
    let bodies : List BodyView = map body_of c.in-Ok.found.1.items in
    let stands : g.D.Disk.is_modelled → Stands h bodies c.in-Ok.found.3 c.in-Ok.found.2 (g.D.Disk.seen c.read_again.new.disk) (g.D.Disk.story c.read_again.new.disk)
    = (λ modelled. reopened_read read.0 h bodies c.in-Ok.found.2 c.in-Ok.found.3 _ _ _ _ read.1.2 (read.1.1 modelled) (c.in-Ok.ensures.synced modelled).0
    (c.in-Ok.ensures.synced modelled).1) in
    record {
      reaches = c.in-Ok.ensures.reaches;
      header = read.1.2.is.header;
      version = c.in-Ok.ensures.version;
      near = file_near read.0 h bodies c.in-Ok.found.2 c.in-Ok.found.3 read.1.2;
      counts = omega arith;
      stands = λ modelled _. is_open _ _ _ _ _ (stands modelled).settled ∣ (bodies, stands modelled) ∣₁;
      kept = λ modelled. ∣ all_kept _ _ _ _ _ _ (stands modelled) (g.met.D.Disk.read_gives c.read_again.new.disk modelled) ∣₁;
    }

pub returns-in-Ok-clause-near : goal.returns-in-Ok-clause-near
returns-in-Ok-clause-near g c =
    let read = c.in-Ok.ensures.read in
    file_near read.0 c.in-Ok.found.0 (map body_of c.in-Ok.found.1.items) c.in-Ok.found.2 c.in-Ok.found.3 read.1.2

pub returns-in-Ok-clause-stands : goal.returns-in-Ok-clause-stands
returns-in-Ok-clause-stands g c = λ modelled.
    let read = c.in-Ok.ensures.read in
    reopened_read read.0 c.in-Ok.found.0 (map body_of c.in-Ok.found.1.items) c.in-Ok.found.2 c.in-Ok.found.3 _ _ _ _ read.1.2 (read.1.1 modelled)
    (c.in-Ok.ensures.synced modelled).0 (c.in-Ok.ensures.synced modelled).1

pub returns-in-Ok-clause-read : goal.returns-in-Ok-clause-read
returns-in-Ok-clause-read g c = c.in-Ok.ensures.read

pub returns-in-Err-clause-given_back : goal.returns-in-Err-clause-given_back
returns-in-Err-clause-given_back g c = record {
  unwritten = c.in-Err.ensures.unwritten;
  failed = λ is. c.in-Err.ensures.counts.failed (search (rules, is));
  not_failed = λ no. c.in-Err.ensures.counts.not_failed (λ is. no (search (rules, is)));
}

pub returns-in-Err-clause-damaged : goal.returns-in-Err-clause-damaged
returns-in-Err-clause-damaged g c = λ modelled is h bodies today file.
    c.in-Err.ensures.damaged modelled (search (rules, is)) h bodies today file
