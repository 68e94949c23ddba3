use Rattle.std.proofs.Common.{◌≡◌, ◌-◌, ◌+◌, ◌<◌, suc, ℕ, List, Option, Some, length, get_or, sym, ap, ◌∙◌, subst, arith, rules}
use Rattle.std.specs.Prelude.{◌==◌, if◌then◌else◌, slice_set}
use Rattle.recover_newest.specs.Known.{NewestView, known}
use Rattle.recover_newest.specs.Latest.{newer}
use Rattle.recover_newest.specs.declared.latest.Latest.{Latest}
use Rattle.recover_newest.proofs.Keeping.{read_place, set_kept, push_kept}
use Rattle.recover_newest.proofs.newest.Newest.raise.Goals as goal

pub returns-then-place-ne0-clause-kept : goal.returns-then-place-ne0-clause-kept
returns-then-place-ne0-clause-kept c = λ n.
    let places : List ℕ = c.self.inside.places.items in
    let writes : List Latest = c.self.inside.writes.items in
    let k : ℕ = c.index-place.result.now - 1 in
    let inside : c.args.number < length places = search rules in
    let at : get_or places c.args.number 0 ≡ suc k =
    read_place places c.args.number c.index-place.result.now inside c.index-place.ensures c.if-place-ne0.true in
    let within : k < length writes = omega (arith, at, c.self.invariant.within c.args.number) in
    let kept = set_kept places writes c.self.invariant c.args.number k c.index_mut.result.now c.args.write at within (sym c.index_mut.ensures.value) n in
    subst (λ (o : NewestView). known (record { places = places; writes = slice_set writes k c.keep_newer.new.known }) n
    ≡ (if n == c.args.number then Some (newer (known o n) c.args.write) else known o n)) c.self.view_is
    (ap (λ (w : Latest). known (record { places = places; writes = slice_set writes k w }) n) c.keep_newer.ensures ∙ kept)

pub returns-clause-kept : goal.returns-clause-kept
returns-clause-kept c = λ n.
    let places : List ℕ = c.self.inside.places.items in
    let writes : List Latest = c.self.inside.writes.items in
    let none : get_or places c.args.number 0 ≡ 0 = search rules in
    let within : c.args.number < length places = search rules in
    let count : c.len-2.result ≡ length writes + 1 = search rules in
    let kept = push_kept places writes c.self.invariant c.args.number c.args.write none within n in
    subst (λ (o : NewestView). known (record { places = slice_set places c.args.number c.len-2.result; writes = c.push.new.self.items }) n
    ≡ (if n == c.args.number then Some (newer (known o n) c.args.write) else known o n)) c.self.view_is
    ((λ i. known (record { places = slice_set places c.args.number (count i); writes = c.in_ok-push.ensures.items i }) n) ∙ kept)
