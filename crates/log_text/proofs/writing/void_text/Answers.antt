use Rattle.std.proofs.Common.{◌∷◌, []}
use Rattle.std.specs.Prelude.{slice_index}
use Rattle.log_codec.specs.Numbers.{number}
use Rattle.log_text.proofs.writing.void_text.Goals as goal

pub returns : goal.returns
unfolding number
returns c =
    let low = c.to_le_bytes-a.ensures in
    let high = c.to_le_bytes-b.ensures in
    λ i. 25 ∷ 0 ∷ 0 ∷ 0 ∷ 0 ∷ 0 ∷ 0 ∷ 0 ∷ 255 ∷ 255 ∷ 255 ∷ 255 ∷ 255 ∷ 255 ∷ 255 ∷ 255
    ∷ slice_index (low i) 0 ∷ slice_index (low i) 1 ∷ slice_index (low i) 2 ∷ slice_index (low i) 3 ∷ slice_index (low i) 4 ∷ slice_index (low i) 5 ∷ slice_index (low i) 6 ∷ slice_index (low i) 7
    ∷ slice_index (high i) 0 ∷ slice_index (high i) 1 ∷ slice_index (high i) 2 ∷ slice_index (high i) 3 ∷ slice_index (high i) 4 ∷ slice_index (high i) 5 ∷ slice_index (high i) 6 ∷ slice_index (high i) 7 ∷ 0 ∷ []
