use Rattle.std.proofs.Common.{map, ap}
use Rattle.readset.specs.Listed.{texts_of}
use Rattle.readset.specs.Writes.{WriteSetView, as_written}
use Rattle.readset.proofs.WritesListed.{found}
use Rattle.readset.proofs.list.WriteList.parts.Goals as goal

pub returns-clause-found : goal.returns-clause-found
returns-clause-found c = found c.self.inside.values.items (map as_written (texts_of c.self.inside.beside)) c.args.self.now
    (ap (λ (w : WriteSetView). w.values) c.self.view_is) c.self.invariant
