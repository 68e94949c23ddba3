use Rattle.std.proofs.Common.{◌≡◌, ℕ, map, take}
use Rattle.std.specs.List.{list_any}
use Rattle.recover_found.specs.Found.{bodies_in, is_spanned, void_of}
use Rattle.recover_found.proofs.spans.voids_of.Given as goal

abbrev pub invariant-loop-bodies : goal.invariant-loop-bodies
invariant-loop-bodies l = (epoch : ℕ) → list_any (is_spanned epoch) l.spans.items
    ≡ void_of (map (λ bodies. bodies_in bodies.items) (take l.bodies-index l.files)) epoch
