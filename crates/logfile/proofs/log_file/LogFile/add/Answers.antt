use Rattle.std.proofs.Common.{◌≡◌, ◌++◌, ◌∷◌, [], Some, false, List, ◌+◌, ◌≤◌, sym, subst, refl, true≢false, length, arith}
use Rattle.std.proofs.Math.Logic.{∥∥₁_map}
use Rattle.log_text.specs.Bodies.{BodyView, body_text, body_after}
use Rattle.log_disk.specs.Crashes.{LeavesOnly}
use Rattle.logfile.specs.Standing.{LogFileView, Stands, IsWithOrWithout}
use Rattle.logfile.proofs.Appending.{add_moments, add_stands, add_keeps, all_kept, is_open}
use Rattle.logfile.proofs.log_file.LogFile.add.Goals as goal

pub store-requires-clause-gate : goal.store-requires-clause-gate
store-requires-clause-gate g c = λ modelled.
    let usable : c.self.inside.failed ≡ false = subst (λ (v : LogFileView _). v.failed ≡ false) (sym c.self.view_is) c.requires.usable in
    (c.self.invariant.stands modelled usable).within

pub store-requires-clause-settled : goal.store-requires-clause-settled
store-requires-clause-settled g c = λ modelled.
    let usable : c.self.inside.failed ≡ false = subst (λ (v : LogFileView _). v.failed ≡ false) (sym c.self.view_is) c.requires.usable in
    (c.self.invariant.stands modelled usable).settled

pub invariant_of-self : goal.invariant_of-self
invariant_of-self g c =
    let usable : c.self.inside.failed ≡ false = subst (λ (v : LogFileView _). v.failed ≡ false) (sym c.self.view_is) c.requires.usable in
    let body = c.requires.body.0 in
    let after : body_after c.self.inside.header c.self.inside.last body ≡ Some c.args.now
    = subst (λ (v : LogFileView _). body_after v.header v.last body ≡ Some c.args.now) (sym c.self.view_is) c.requires.body.2 in
    record {
      reaches = omega (arith, c.in-Ok.ensures.fits);
      header = c.self.invariant.header;
      version = c.self.invariant.version;
      near = c.requires.epoch;
      counts = subst (λ (v : LogFileView _). v.count + c.args.entries ≤ c.args.number) (sym c.self.view_is) c.requires.count;
      stands = λ modelled _. is_open _ _ _ _ _ (c.in-Ok.ensures.settled modelled) (∥∥₁_map (c.self.invariant.stands modelled usable).stands
          (λ s. (
            s.0 ++ body ∷ [],
            add_stands _ s.0 body _ _ _ _ _ s.1 _ c.requires.body.1 after _ _ (c.in-Ok.ensures.bytes modelled)
                (c.in-Ok.ensures.settled modelled),
          )));
      kept = λ modelled. ∥∥₁_map (c.self.invariant.stands modelled usable).stands
          (λ s. all_kept _ _ _ _ _ _ (add_stands _ s.0 body _ _ _ _ _ s.1 _ c.requires.body.1 after _ _ (c.in-Ok.ensures.bytes modelled)
          (c.in-Ok.ensures.settled modelled)) (g.met.D.Disk.read_gives c.store.new.disk modelled));
    }

pub invariant_of-self-in-Err : goal.invariant_of-self-in-Err
invariant_of-self-in-Err g c =
    let usable : c.self.inside.failed ≡ false = subst (λ (v : LogFileView _). v.failed ≡ false) (sym c.self.view_is) c.requires.usable in
    let body = c.requires.body.0 in
    let after : body_after c.self.inside.header c.self.inside.last body ≡ Some c.args.now
    = subst (λ (v : LogFileView _). body_after v.header v.last body ≡ Some c.args.now) (sym c.self.view_is) c.requires.body.2 in
    record {
      reaches = c.self.invariant.reaches;
      header = c.self.invariant.header;
      version = c.self.invariant.version;
      near = c.self.invariant.near;
      counts = c.self.invariant.counts;
      stands = λ modelled failed. absurd (true≢false failed);
      kept = λ modelled. ∥∥₁_map (c.self.invariant.stands modelled usable).stands
          (λ s. add_keeps _ s.0 body _ _ _ _ _ s.1 _ c.requires.body.1 after _ (c.store.ensures.moments modelled)
          (λ front gate rest has. c.in-Err.ensures.may_stay modelled front gate rest has refl));
    }

pub returns-in-Ok-clause-added : goal.returns-in-Ok-clause-added
returns-in-Ok-clause-added g c = λ modelled.
    subst (λ (v : LogFileView _). (bodies : List BodyView) (body : BodyView)
    → Stands v.header bodies v.end v.last (g.D.Disk.seen v.disk) (g.D.Disk.story v.disk)
    → c.args.text.now ≡ body_text body ++ 0 ∷ [] → body_after v.header v.last body ≡ Some c.args.now
    → Stands c.self.inside.header (bodies ++ body ∷ []) (c.self.inside.end + length c.args.text.now) c.args.now (g.D.Disk.seen c.store.new.disk)
    (g.D.Disk.story c.store.new.disk))
    c.self.view_is
    (λ bodies body s is after. add_stands _ bodies body _ _ _ _ _ s _ is after _ _ (c.in-Ok.ensures.bytes modelled) (c.in-Ok.ensures.settled modelled))

pub returns-in-Ok-clause-moments : goal.returns-in-Ok-clause-moments
returns-in-Ok-clause-moments g c = λ modelled.
    subst (λ (v : LogFileView _). (bodies : List BodyView) (body : BodyView)
    → Stands v.header bodies v.end v.last (g.D.Disk.seen v.disk) (g.D.Disk.story v.disk)
    → c.args.text.now ≡ body_text body ++ 0 ∷ [] → body_after v.header v.last body ≡ Some c.args.now
    → LeavesOnly (IsWithOrWithout v.header bodies body) (g.D.Disk.story v.disk) (g.D.Disk.story c.store.new.disk))
    c.self.view_is
    (λ bodies body s is after. add_moments _ bodies body _ _ _ _ _ s _ is after _ (c.store.ensures.moments modelled))

pub returns-in-Err-clause-moments : goal.returns-in-Err-clause-moments
returns-in-Err-clause-moments g c = λ modelled.
    subst (λ (v : LogFileView _). (bodies : List BodyView) (body : BodyView)
    → Stands v.header bodies v.end v.last (g.D.Disk.seen v.disk) (g.D.Disk.story v.disk)
    → c.args.text.now ≡ body_text body ++ 0 ∷ [] → body_after v.header v.last body ≡ Some c.args.now
    → LeavesOnly (IsWithOrWithout v.header bodies body) (g.D.Disk.story v.disk) (g.D.Disk.story c.store.new.disk))
    c.self.view_is
    (λ bodies body s is after. add_moments _ bodies body _ _ _ _ _ s _ is after _ (c.store.ensures.moments modelled))
