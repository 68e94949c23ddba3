use Rattle.std.proofs.Common.{◌∷◌, length, map, ap, length-append, arith}
use Rattle.std.proofs.lemmas.List.{length-map}
use Rattle.std.specs.Vec.Iter.{into_iter_items}
use Rattle.logfile.specs.Standing.{LogFileView}
use Rattle.recover_opening.proofs.refused.put_back.Goals as goal

pub push_reserved-requires-in-loop-disk : goal.push_reserved-requires-in-loop-disk
push_reserved-requires-in-loop-disk g c =
    let i = c.loop-disk.invariant in
    let all = ap length i.all in
    let now = length-append c.loop-disk.disks.items (into_iter_items c.loop-disk.disk-iterator) in
    let before = length-append (map (λ (file : LogFileView g.row.D.Denot). file.disk) c.args.files.items) (c.args.disk ∷ into_iter_items c.args.rest) in
    omega (
      arith,
      all,
      now,
      before,
      length-map c.args.files.items (λ (file : LogFileView g.row.D.Denot). file.disk),
      ap length c.in-Some.ensures.steps.0,
      c.requires.room,
      i.room,
      c.loop-disk.disks.ok.0,
    )
