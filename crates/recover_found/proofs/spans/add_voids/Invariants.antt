use Rattle.std.proofs.Common.{◌≡◌, ◌||◌, ℕ, take}
use Rattle.std.specs.List.{list_any}
use Rattle.recover_found.specs.Found.{bodies_in, is_spanned, void_in}
use Rattle.recover_found.proofs.spans.add_voids.Given as goal

abbrev pub invariant-loop-body : goal.invariant-loop-body
invariant-loop-body l = (epoch : ℕ) → list_any (is_spanned epoch) l.spans.items
    ≡ (list_any (is_spanned epoch) l.fn.spans.items || void_in (bodies_in (take l.body-index l.bodies)) epoch)
