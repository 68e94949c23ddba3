use Rattle.std.proofs.Common.{ℕ, List, subst}
use Rattle.cells.specs.Records.{StoresVersion}
use Rattle.cells.proofs.cells.Cells.store.Goals as goal

pub returns : goal.returns
returns g c = subst (λ (v : List ℕ). StoresVersion c.args.pen.now c.store.new.self c.args.number v) c.words-version.ensures c.store.ensures
