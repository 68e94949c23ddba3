use Rattle.std.proofs.Common.{◌∷◌, [], ◌++◌, length, map, ap, sym, ◌∙◌, arith}
use Rattle.std.proofs.lemmas.List.{length-map, map-append, map-id}
use Rattle.std.proofs.lemmas.Iterator.Adapters.{YieldsList-from_vec}
use Rattle.std.proofs.lemmas.Iterator.Consumers.{YieldsList-end, YieldsList-turn}
use Rattle.logfile.specs.Standing.{LogFileView}
use Rattle.recover_opening.proofs.refused.disks_of.Goals as goal

pub push_reserved-requires : goal.push_reserved-requires
push_reserved-requires g c =
    let i = c.loop-file.invariant in
    let b = c.into_iter-file-iterator.ensures.into_iter_gives in
    let turn = YieldsList-turn (YieldsList-from_vec {s = c.into_iter-file-iterator.result} c.args.files.items b.0 (b.1 ∙ c.args.files.ok.0))
    c.loop-file.yielded c.loop-file.file-iterator c.loop-file.yielded_by c.next.result c.next.new.self c.in-Some.file c.in-Some.is c.next.ensures.steps in
    let count = ap length i.disks ∙ length-map c.loop-file.yielded (λ (file : LogFileView g.row.D.Denot). file.disk) in
    omega (arith, turn.0, count, i.room, c.requires.room, c.loop-file.disks.ok.0)

pub loop-file-preserved : goal.loop-file-preserved
loop-file-preserved g c =
    let i = c.loop-file.invariant in
    record {
      disks =
          c.push_reserved.ensures.items ∙ ap (λ some. some ++ c.into_disk.result ∷ []) i.disks
          ∙ ap (λ d. map (λ (file : LogFileView g.row.D.Denot). file.disk) c.loop-file.yielded ++ d ∷ []) c.into_disk.ensures
          ∙ sym (map-append (λ (file : LogFileView g.row.D.Denot). file.disk) c.loop-file.yielded (c.in-Some.file ∷ []));
      room = c.push_reserved.ensures.capacity ∙ i.room;
    }

pub returns-clause-disks : goal.returns-clause-disks
returns-clause-disks g c =
    let b = c.into_iter-file-iterator.ensures.into_iter_gives in
    let end = YieldsList-end (YieldsList-from_vec {s = c.into_iter-file-iterator.result} c.args.files.items b.0 (b.1 ∙ c.args.files.ok.0))
    c.loop-file.yielded c.loop-file.file-iterator c.loop-file.yielded_by c.next.result c.next.new.self c.in-None.is c.next.ensures.steps in
    c.loop-file.invariant.disks ∙ ap (map (λ (file : LogFileView g.row.D.Denot). file.disk)) (sym (map-id c.loop-file.yielded) ∙ end.0)
