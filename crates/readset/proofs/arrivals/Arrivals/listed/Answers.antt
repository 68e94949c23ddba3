use Rattle.std.proofs.Common.{◌≡◌, length, subst, arith}
use Rattle.readset.specs.Arrivals.{AreArrivals}
use Rattle.readset.proofs.Ordered.{AreListed, all_listed, listed_arrivals}
use Rattle.readset.proofs.arrivals.Arrivals.listed.Given as given
use Rattle.readset.proofs.arrivals.Arrivals.listed.Goals.{After-loop-place}
use Rattle.readset.proofs.arrivals.Arrivals.listed.Goals as goal

filled : (g : given.Over) (c : After-loop-place g) → AreListed c.args.self.now.entries.items c.loop-place.order.items (length c.args.self.now.entries.items)
filled g c =
    let all : c.loop-place.place ≡ length c.args.self.now.entries.items =
    omega (arith, c.loop-place-test.false, c.loop-place.auto.place-end, c.args.self.now.entries.ok.0) in
    subst (AreListed c.args.self.now.entries.items c.loop-place.order.items) all c.loop-place.invariant

pub returns-clause-same : goal.returns-clause-same
returns-clause-same g c = all_listed c.args.self.now.entries.items c.loop-place.order.items (filled g c)

pub returns-clause-sound : goal.returns-clause-sound
returns-clause-sound g c = listed_arrivals c.args.self.now.entries.items c.loop-place.order.items (filled g c)
    (subst (AreArrivals c.args.self.now.entries.items) c.requires.unlisted c.args.self.now.sound)
