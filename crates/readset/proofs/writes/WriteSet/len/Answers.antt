use Rattle.std.proofs.Common.{map, ap}
use Rattle.readset.specs.Arrived.{arrived}
use Rattle.readset.specs.Listed.{texts_of}
use Rattle.readset.specs.Writes.{WriteSetView, as_written}
use Rattle.readset.proofs.WritesListed.{found, ordered}
use Rattle.readset.proofs.writes.WriteSet.len.Goals as goal

pub returns-clause-found : goal.returns-clause-found
returns-clause-found c = found (arrived c.self.inside.values) (map as_written (texts_of c.self.inside.beside)) c.args.self.now
    (ap (λ (w : WriteSetView). w.values) c.self.view_is) c.self.invariant

pub returns-clause-ordered : goal.returns-clause-ordered
returns-clause-ordered c = ordered (arrived c.self.inside.values) (map as_written (texts_of c.self.inside.beside)) c.args.self.now
    (ap (λ (w : WriteSetView). w.values) c.self.view_is) c.self.invariant
