use Rattle.std.proofs.Common.{map, refl, rules}
use Rattle.population.specs.Initial.{initial, seed_of}
use Rattle.program_recovery.specs.Text.{recovery_text}
use Rattle.program_recovery.specs.Told.{IsRefused, Shows}
use Rattle.program_recovery.proofs.Refusing.{SomeStrings, unrecovered, untold}
use Rattle.program_recovery.proofs.telling.recovered.Goals as goal

pub returns-in_err-found-clause-refused : goal.returns-in_err-found-clause-refused
returns-in_err-found-clause-refused g c =
    let e = c.in_err-found.field-0.0 in
    let w = g.W.Write.contents c.args.writer.now in
    let seed = seed_of c.args.population.now in
    let before = map g.D.Disk.failed c.args.disks.now in
    let now = map g.D.Disk.failed c.recover_shown.new.disks in
    let refused : SomeStrings g.D.Disk.is_modelled (map g.D.Disk.seen c.args.disks.now)
    (λ strings. IsRefused (initial c.args.population.now) seed strings Shows before now w w e) =
    unrecovered Shows w e c.in_err-found.ensures in
    search rules

pub returns-in-Err-clause-refused : goal.returns-in-Err-clause-refused
returns-in-Err-clause-refused g c =
    let e = c.in-Err.refusal in
    let r = c.in_ok-found.found in
    let seed = seed_of c.args.population.now in
    let before = map g.D.Disk.failed c.args.disks.now in
    let now = map g.D.Disk.failed c.recover_shown.new.disks in
    let refused : SomeStrings g.D.Disk.is_modelled (map g.D.Disk.seen c.args.disks.now)
    (λ strings. IsRefused (initial c.args.population.now) seed strings Shows before now
    (g.W.Write.contents c.args.writer.now) (g.W.Write.contents c.show.new.writer) e) =
    untold (map g.D.Disk.seen c.args.disks.now) (initial c.args.population.now) seed Shows (recovery_text r) r before now _ _ e
    c.in_ok-found.ensures.answer refl (c.in_ok-found.ensures.not_failed (search rules)) c.in-Err.ensures.beginning in
    refused
