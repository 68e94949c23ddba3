use Rattle.std.proofs.Common.{length, drop, rules}
use Rattle.std.proofs.lemmas.Result.{IfErr-weaker, IfOk-weaker}
use Rattle.recover_opening.proofs.GivingBack.{back_in, behind_syncs}
use Rattle.recover_opening.proofs.Twice.{written_back, damaged_before, behind, all_opened, none_failed, on_disks, are_short, are_files}
use Rattle.recover_opening.proofs.opening.open_all_or_give_back.Goals as goal

pub returns-in-Ok-clause-opened : goal.returns-in-Ok-clause-opened
returns-in-Ok-clause-opened g c = λ modelled.
    let new = c.sync_all.new.disks in
    let rest = drop (length new) c.args.disks.items in
    let synced = written_back c.in-Ok.ensures.synced c.args.disks.len rest c.args.disks.items c.deref_mut.ensures.value c.args.disks.ok.0 in
    IfOk-weaker c.open_synced.result _ _
    (λ x is. all_opened synced is modelled (λ disk. g.met.D.Disk.read_gives disk modelled))
    c.open_synced.ensures.opened

pub returns-in-Ok-clause-behind : goal.returns-in-Ok-clause-behind
returns-in-Ok-clause-behind g c =
    let new = c.sync_all.new.disks in
    let rest = drop (length new) c.args.disks.items in
    let synced = written_back c.in-Ok.ensures.synced c.args.disks.len rest c.args.disks.items c.deref_mut.ensures.value c.args.disks.ok.0 in
    IfOk-weaker c.open_synced.result _ _ (λ x is. behind synced is) c.open_synced.ensures.opened

pub returns-in-Ok-clause-read : goal.returns-in-Ok-clause-read
returns-in-Ok-clause-read g c =
    let new = c.sync_all.new.disks in
    let rest = drop (length new) c.args.disks.items in
    let synced = written_back c.in-Ok.ensures.synced c.args.disks.len rest c.args.disks.items c.deref_mut.ensures.value c.args.disks.ok.0 in
    IfOk-weaker c.open_synced.result _ _
    (λ x is. (is.strings, on_disks synced is, are_short synced is, are_files synced is))
    c.open_synced.ensures.opened

pub returns-in-Ok-clause-none_failed : goal.returns-in-Ok-clause-none_failed
returns-in-Ok-clause-none_failed g c =
    let new = c.sync_all.new.disks in
    let rest = drop (length new) c.args.disks.items in
    let synced = written_back c.in-Ok.ensures.synced c.args.disks.len rest c.args.disks.items c.deref_mut.ensures.value c.args.disks.ok.0 in
    IfOk-weaker c.open_synced.result _ _ (λ x is. none_failed synced is) c.open_synced.ensures.opened

pub returns-in-Ok-clause-damaged : goal.returns-in-Ok-clause-damaged
returns-in-Ok-clause-damaged g c = λ modelled.
    let new = c.sync_all.new.disks in
    let rest = drop (length new) c.args.disks.items in
    let synced = written_back c.in-Ok.ensures.synced c.args.disks.len rest c.args.disks.items c.deref_mut.ensures.value c.args.disks.ok.0 in
    IfErr-weaker c.open_synced.result _ _ (λ refused is e. damaged_before synced modelled (is e)) (c.open_synced.ensures.damaged modelled)

pub returns-in-Ok-clause-given_back : goal.returns-in-Ok-clause-given_back
returns-in-Ok-clause-given_back g c =
    let new = c.sync_all.new.disks in
    let rest = drop (length new) c.args.disks.items in
    let synced = written_back c.in-Ok.ensures.synced c.args.disks.len rest c.args.disks.items c.deref_mut.ensures.value c.args.disks.ok.0 in
    IfErr-weaker c.open_synced.result _ _ (λ refused is. behind_syncs _ _ _ synced is) c.open_synced.ensures.given_back

pub returns-in-Err-clause-given_back : goal.returns-in-Err-clause-given_back
returns-in-Err-clause-given_back g c =
    back_in _ _ _ c.args.disks.len (drop (length c.sync_all.new.disks) c.args.disks.items) c.args.disks.items c.deref_mut.ensures.value c.args.disks.ok.0
    (search rules) c.in-Err.ensures.left
