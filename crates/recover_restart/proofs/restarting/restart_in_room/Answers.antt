use Rattle.std.proofs.Common.{rules, inr, ◌≡◌, ℕ, List, length, map, refl, sym, ◌∙◌, subst}
use Rattle.std.proofs.lemmas.List.{length-map}
use Rattle.population.specs.Initial.{initial, seed_of}
use Rattle.recover_found.specs.Found.{bodies_in}
use Rattle.recover_files.specs.Files.{AreFiles, AreShort}
use Rattle.recover_opening.specs.Opening.{disk_on, file_on}
use Rattle.recover_restart.specs.Restarting.{GoesOnBehind}
use Rattle.recover_restart.proofs.Counting.{gives_back, none_failed_in}
use Rattle.recover_restart.proofs.Losing.{lost_in, moved_in}
use Rattle.recover_restart.proofs.Standing.{stand_at}
use Rattle.recover_restart.proofs.restarting.restart_in_room.Goals as goal

pub returns-in-Err-clause-gap : goal.returns-in-Err-clause-gap
returns-in-Err-clause-gap g c = λ modelled e.
    let read = c.in_ok-files.ensures.read in
    record {
      files = map (λ bodies. bodies_in bodies.items) c.in_ok-files.bodies.items;
      short = subst AreShort (read.1.modelled modelled) read.2;
      read = subst (λ (strings : List (List ℕ)). AreFiles (initial c.args.population).scale (seed_of c.args.population) strings
          (map (λ bodies. bodies_in bodies.items) c.in_ok-files.bodies.items)) (read.1.modelled modelled) read.3;
      holds = c.in-Err.ensures.gap (search (rules, e));
    }

pub returns-in-Err-clause-full : goal.returns-in-Err-clause-full
returns-in-Err-clause-full g c = λ modelled e.
    let read = c.in_ok-files.ensures.read in
    record {
      files = map (λ bodies. bodies_in bodies.items) c.in_ok-files.bodies.items;
      short = subst AreShort (read.1.modelled modelled) read.2;
      read = subst (λ (strings : List (List ℕ)). AreFiles (initial c.args.population).scale (seed_of c.args.population) strings
          (map (λ bodies. bodies_in bodies.items) c.in_ok-files.bodies.items)) (read.1.modelled modelled) read.3;
      holds = c.in-Err.ensures.full (search (rules, e));
    }

pub returns-in-Err-clause-damaged : goal.returns-in-Err-clause-damaged
returns-in-Err-clause-damaged g c = λ modelled e.
    let read = c.in_ok-files.ensures.read in
    inr (record {
      files = map (λ bodies. bodies_in bodies.items) c.in_ok-files.bodies.items;
      short = subst AreShort (read.1.modelled modelled) read.2;
      read = subst (λ (strings : List (List ℕ)). AreFiles (initial c.args.population).scale (seed_of c.args.population) strings
          (map (λ bodies. bodies_in bodies.items) c.in_ok-files.bodies.items)) (read.1.modelled modelled) read.3;
      holds = c.in-Err.ensures.damaged (search (rules, e));
    })

pub returns-in-Err-clause-given_back : goal.returns-in-Err-clause-given_back
returns-in-Err-clause-given_back g c =
    gives_back (initial c.args.population) (seed_of c.args.population) c.args.disks.items c.in_ok-files.files.items
    (map (λ bodies. bodies_in bodies.items) c.in_ok-files.bodies.items) c.in_ok-files.ensures.none_failed c.args.terminals _ _ c.in-Err.refusal
    c.deref_mut.result.now c.resume.new.files c.disks_of.result.items c.in_ok-files.ensures.opened c.in_ok-files.ensures.behind
    c.deref_mut.ensures.value (search rules) (search rules) c.disks_of.ensures.disks c.in-Err.ensures.left

pub returns-in-Ok-clause-none_failed : goal.returns-in-Ok-clause-none_failed
returns-in-Ok-clause-none_failed g c =
    none_failed_in g.D.Disk.failed c.in_ok-files.files.items c.deref_mut.result.now c.resume.new.files _ c.deref_mut.ensures.value (search rules)
    c.in-Ok.ensures.moved.count c.in-Ok.ensures.none_failed c.in_ok-files.ensures.none_failed

pub returns-in-Ok-clause-restarted : goal.returns-in-Ok-clause-restarted
returns-in-Ok-clause-restarted g c = λ modelled.
    let count : length (map (disk_on g.D.Disk.seen g.D.Disk.story) c.args.disks.items) ≡ length c.args.disks.items
    = length-map c.args.disks.items (disk_on g.D.Disk.seen g.D.Disk.story) in
    record {
      old = map (file_on g.D.Disk.seen g.D.Disk.story) c.in_ok-files.files.items;
      bodies = map (λ bodies. bodies_in bodies.items) c.in_ok-files.bodies.items;
      durable = c.in-Ok.ahead.durable;
      top = c.in-Ok.ahead.top;
      opened = c.in_ok-files.ensures.opened modelled;
      goes_on = subst (λ (n : ℕ). GoesOnBehind (initial c.args.population) (seed_of c.args.population) n c.args.terminals
          (map (λ bodies. bodies_in bodies.items) c.in_ok-files.bodies.items) c.in-Ok.ahead.parts c.in-Ok.ahead.durable
          c.in-Ok.ahead.top c.in-Ok.ahead.commits) (search rules ∙ sym count) c.in-Ok.ensures.goes_on;
      lost = lost_in g.D.Disk.seen g.D.Disk.story c.in_ok-files.files.items c.deref_mut.result.now c.resume.new.files c.deref_mut.ensures.value (search rules)
          (c.in-Ok.ensures.lost modelled);
      epoch_is = refl;
    }

pub returns-in-Ok-clause-stand : goal.returns-in-Ok-clause-stand
returns-in-Ok-clause-stand g c =
    stand_at c.in_ok-files.ensures.behind c.in-Ok.ensures.goes_on
    (moved_in c.in_ok-files.files.items c.deref_mut.result.now c.resume.new.files c.deref_mut.ensures.value (search rules) c.in-Ok.ensures.moved)

pub returns-in-Ok-clause-goes_on : goal.returns-in-Ok-clause-goes_on
returns-in-Ok-clause-goes_on g c =
    let read = c.in_ok-files.ensures.read in (
      read.0,
      read.1,
      record {
        files = map (λ bodies. bodies_in bodies.items) c.in_ok-files.bodies.items;
        durable = c.in-Ok.ahead.durable;
        top = c.in-Ok.ahead.top;
        read = read.3;
        goes_on = search rules;
        epoch_is = refl;
      },
    )
