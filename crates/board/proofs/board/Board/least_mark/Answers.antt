use Rattle.std.proofs.Common.{[], ◌∷◌, refl, sym, arith, subst}
use Rattle.board.specs.Publishing.{IsLeastMark}
use Rattle.board.proofs.Loads.{loads_next, least_first, least_next}
use Rattle.board.proofs.board.Board.least_mark.Goals as goal

pub loop-logger-init : goal.loop-logger-init
loop-logger-init c =
    let load = c.load_mark-least in
    let next = loads_next _ _ c.seat.inside.seat.me.0 _ c.seat.inside.number 0 load.result [] c.args.seat.now load.ensures.own load.ensures.told refl
    (c.seat.invariant.0, c.seat.invariant.1, c.seat.view_is) in
    (next.0, next.1, load.result ∷ [], refl, least_first load.result, next.2)

pub loop-logger-preserved : goal.loop-logger-preserved
loop-logger-preserved c =
    let load = c.load_mark-mark in
    let was = c.loop-logger.invariant in
    let next = loads_next _ _ c.loop-logger.seat-inside.seat.me.0 _ c.loop-logger.seat-inside.number c.loop-logger.logger load.result was.2 c.args.seat.now
    load.ensures.own load.ensures.told was.3 (was.0, was.1, was.5) in (
      next.0,
      next.1,
      load.result ∷ was.2,
      (let count = was.3 in omega arith),
      subst (λ n. IsLeastMark n (load.result ∷ was.2)) (sym c.min-least.ensures) (least_next c.loop-logger.least load.result was.2 was.4),
      next.2,
    )
