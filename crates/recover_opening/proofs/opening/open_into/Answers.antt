use Rattle.std.proofs.Common.{◌≡◌, ℕ, [], length, map, sym, ap, ◌∙◌, subst, arith, rules}
use Rattle.std.proofs.lemmas.Grind.{common_steps}
use Rattle.std.specs.Vec.Iter.{into_iter_items, into_iter_len}
use Rattle.population.specs.Initial.{initial, seed_of}
use Rattle.recover_opening.specs.Opening.{AreReopened}
use Rattle.recover_opening.proofs.GivingBack.{put_back}
use Rattle.recover_opening.proofs.Reopening.{goes_on, ends, damaged, none_left, bodies_of_file}
use Rattle.recover_opening.proofs.opening.open_into.Goals as goal

pub loop-disk-preserved : goal.loop-disk-preserved
loop-disk-preserved g c =
    let i = c.loop-disk.invariant in
    let logger : c.len.result ≡ length c.loop-disk.files.items = search rules in
    record {
      left = omega (arith, c.in-Some.ensures.len, i.left, ap length c.in-Some.ensures.items);
      opened = goes_on i.opened c.len.result c.in-Some.disk (into_iter_items c.next.new.self) c.in-Ok.opened.0 c.in-Ok.opened.1
          c.push_reserved.new.self.items c.push_reserved-in-Ok.new.self.items logger c.in-Some.ensures.items c.in-Ok.ensures.opened
          c.push_reserved.ensures.items c.push_reserved-in-Ok.ensures.items;
      none = i.none;
      room = i.room;
      room_for_files = omega (arith, i.room_for_files, c.push_reserved.ensures.capacity);
      room_for_bodies = omega (arith, i.room_for_bodies, c.push_reserved-in-Ok.ensures.capacity);
    }

pub returns-in-Err-clause-damaged : goal.returns-in-Err-clause-damaged
returns-in-Err-clause-damaged g c = λ modelled e.
    let logger : c.len.result ≡ length c.loop-disk.files.items = search rules in
    let loggers : c.len-loggers.result ≡ length c.args.disks.items = search rules in
    damaged c.loop-disk.invariant.opened c.len.result c.in-Some.disk (into_iter_items c.next.new.self) logger c.in-Some.ensures.items loggers
    (λ bodies is. c.in-Err.ensures.damaged modelled e bodies is)

pub returns-in-Err-clause-given_back : goal.returns-in-Err-clause-given_back
returns-in-Err-clause-given_back g c =
    put_back _ _ _ c.loop-disk.invariant.opened c.in-Err.refused.refusal c.in-Some.disk c.in-Err.refused.disk (into_iter_items c.next.new.self)
    c.put_back.result.items c.in-Some.ensures.items c.in-Err.ensures.given_back c.put_back.ensures.disks

pub returns-clause-opened : goal.returns-clause-opened
returns-clause-opened g c =
    let population = c.args.population.now in
    let loggers : c.len-loggers.result ≡ length c.args.disks.items = search rules in
    let over : into_iter_len c.loop-disk.rest ≡ 0 = first_of (search rules, grind (arith, common_steps)) in
    let none : into_iter_items c.loop-disk.rest ≡ [] = none_left (into_iter_items c.loop-disk.rest) (sym c.loop-disk.invariant.left ∙ over) in
    subst (λ (n : ℕ). AreReopened g.D.Disk.is_modelled g.D.Disk.seen g.D.Disk.story g.D.Disk.failed (initial population).scale
    (seed_of population) n c.args.disks.items c.loop-disk.files.items
    (map bodies_of_file c.loop-disk.all.items)) loggers (ends c.loop-disk.invariant.opened none)
