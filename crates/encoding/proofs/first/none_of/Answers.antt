use Rattle.std.proofs.Common.{refl, [], ◌∷◌}
use Rattle.std.proofs.lemmas.Result.{IfOk-weaker}
use Rattle.encoding.proofs.BegunTables.{absent_begun}
use Rattle.encoding.proofs.first.none_of.Goals as goal

pub returns : goal.returns
returns c =
    IfOk-weaker c.absent.result _ _
    (λ first is. absent_begun c.args.scale.now (record { word = 6; payload = 0 ∷ 0 ∷ 0 ∷ 0 ∷ 0 ∷ 0 ∷ 0 ∷ [] }) refl c.narrow_count.result first is
    c.narrow_count.ensures)
    c.absent.ensures
