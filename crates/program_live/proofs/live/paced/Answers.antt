use Rattle.std.proofs.Common.{◌∙◌, ◌++◌, ◌∷◌, [], ap, ap₂, append-nil, append_assoc, arith, length, map, sym}
use Rattle.std.specs.Vec.Iter.{into_iter_items}
use Rattle.std.proofs.lemmas.List.{map_push}
use Rattle.program_live.proofs.Resumed.{none_left}
use Rattle.program_live.proofs.live.paced.Goals as goal

pub loop-file-init : goal.loop-file-init
loop-file-init g c =
    let b = c.into_iter-file-iterator.ensures.into_iter_gives in (
      b.1 ∙ c.args.files.ok.0 ∙ ap length (sym b.0),
      ap₂ (λ xs ys. map (λ log. log.inner) xs ++ ys) c.new-logs.ensures.items b.0,
    )

pub loop-file-preserved : goal.loop-file-preserved
loop-file-preserved g c =
    let i = c.loop-file.invariant in
    let next = c.in-Some.ensures.steps.0 in
    let left = into_iter_items c.next.new.self in
    let before = map (λ log. log.inner) c.loop-file.logs.items in (
      omega (arith, c.in-Some.ensures.steps.1, i.0, ap length next),
      ap (λ xs. map (λ log. log.inner) xs ++ left) c.in_ok-push.ensures.items
          ∙ ap (λ xs. xs ++ left) (map_push (λ log. log.inner) c.loop-file.logs.items _)
          ∙ append_assoc before (c.in-Some.file ∷ []) left
          ∙ ap (λ xs. before ++ xs) (sym next) ∙ i.1,
    )

pub returns : goal.returns
returns g c =
    let i = c.loop-file.invariant in
    let before = map (λ log. log.inner) c.loop-file.logs.items in
    let none = none_left (into_iter_items c.loop-file.file-iterator) (sym i.0 ∙ c.in-None.ensures.steps.0) in
    sym (append-nil before) ∙ ap (λ xs. before ++ xs) (sym none) ∙ i.1
