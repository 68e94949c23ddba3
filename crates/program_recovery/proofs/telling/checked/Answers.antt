use Rattle.std.proofs.Common.{map, refl, rules}
use Rattle.std.proofs.KnownBytes.{Appends-nil}
use Rattle.population.specs.Initial.{initial, seed_of}
use Rattle.program_script_text.specs.Report.{report_text}
use Rattle.program_recovery.specs.Told.{IsRefused, Reports, memory}
use Rattle.program_recovery.proofs.Refusing.{SomeStrings, unrecovered, untold}
use Rattle.program_recovery.proofs.telling.checked.Goals as goal

pub returns-in_err-recovered-clause-refused : goal.returns-in_err-recovered-clause-refused
returns-in_err-recovered-clause-refused g c =
    let e = c.in_err-recovered.field-0.0 in
    let w = g.W.Write.contents c.args.writer.now in
    let seed = seed_of c.args.population.now in
    let before = map g.D.Disk.failed c.args.disks.now in
    let now = map g.D.Disk.failed c.recover_shown.new.disks in
    let refused : SomeStrings g.D.Disk.is_modelled (map g.D.Disk.seen c.args.disks.now)
    (λ strings. IsRefused (initial c.args.population.now) seed strings Reports before now w w e) =
    unrecovered Reports w e c.in_err-recovered.ensures in
    search rules

pub returns-in_err-report-clause-refused : goal.returns-in_err-report-clause-refused
returns-in_err-report-clause-refused g c =
    let e = c.in_err-report.field-0.0 in
    let w = g.W.Write.contents c.args.writer.now in
    let seed = seed_of c.args.population.now in
    let before = map g.D.Disk.failed c.args.disks.now in
    let now = map g.D.Disk.failed c.recover_shown.new.disks in
    let known = c.in_ok-recovered.ensures.answer in
    let refused : SomeStrings g.D.Disk.is_modelled (map g.D.Disk.seen c.args.disks.now)
    (λ strings. IsRefused (initial c.args.population.now) seed strings Reports before now w w e) =
    (known.0, known.1, memory c.in_err-report.ensures.memory (c.in_ok-recovered.ensures.not_failed (search rules)) (Appends-nil w)) in
    search rules

pub returns-in-Err-clause-refused : goal.returns-in-Err-clause-refused
returns-in-Err-clause-refused g c =
    let e = c.in-Err.refusal in
    let r = c.in_ok-recovered.recovered in
    let report = c.in_ok-report.report in
    let seed = seed_of c.args.population.now in
    let before = map g.D.Disk.failed c.args.disks.now in
    let now = map g.D.Disk.failed c.recover_shown.new.disks in
    let refused : SomeStrings g.D.Disk.is_modelled (map g.D.Disk.seen c.args.disks.now)
    (λ strings. IsRefused (initial c.args.population.now) seed strings Reports before now
    (g.W.Write.contents c.args.writer.now) (g.W.Write.contents c.report_on.new.writer) e) =
    untold (map g.D.Disk.seen c.args.disks.now) (initial c.args.population.now) seed Reports (report_text r.commits report) r before now _ _ e
    c.in_ok-recovered.ensures.answer (report, c.in_ok-report.ensures.ok, refl) (c.in_ok-recovered.ensures.not_failed (search rules)) c.in-Err.ensures.beginning in
    refused

pub returns-clause-checked : goal.returns-clause-checked
returns-clause-checked g c =
    let known = c.in_ok-recovered.ensures.answer in (
      known.0,
      known.1,
      record {
        recovered = c.in_ok-recovered.recovered;
        recovery = known.2;
        exact = c.in_ok-report.ensures.ok;
        wrote = c.in-Ok.ensures.whole;
      },
    )
