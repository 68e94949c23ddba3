use Rattle.std.proofs.Common.{ℕ, ◌≤◌, ◌<◌, All, List, Option, map, sym, subst}
use Rattle.tables.specs.Records.{record_count}
use Rattle.cells.specs.Records.{held_by}
use Rattle.readset.specs.Writes.{as_written}
use Rattle.readset.proofs.WritesListed.{narrow_before, wide_behind}
use Rattle.readset.proofs.TwoKinds.{all_behind}
use Rattle.totals.specs.Moves.{MovesSums, order_before, moved, no_history}
use Rattle.totals.proofs.Wide.{with_wide}
use Rattle.totals.proofs.running.RunningSums.follow_values.Goals as goal

pub follow_narrow-requires-clause-below : goal.follow_narrow-requires-clause-below
follow_narrow-requires-clause-below c =
    let parts = c.parts.ensures in
    subst (λ n. All (λ (e : ℕ × Option (List ℕ)). e.0 < n) c.parts.result.0.now) c.requires.count.narrow
    (narrow_before c.args.cells.now c.parts.result.0.now (map as_written c.parts.result.1.now) c.args.writes.now c.requires.kinds parts.values parts.kinds)

pub returns-clause-moves : goal.returns-clause-moves
returns-clause-moves c =
    let s = c.args.self.now.scale in
    let held = held_by c.args.pen.now in
    let narrow = c.parts.result.0.now in
    let wide : List (ℕ × Option (List ℕ)) = map as_written c.parts.result.1.now in
    let parts = c.parts.ensures in
    subst (λ (ws : List (ℕ × Option (List ℕ))). MovesSums s (order_before s held) (moved s held ws) no_history c.args.self.now c.follow_narrow.new.self)
    parts.values
    (with_wide s (order_before s held) held narrow wide c.args.self.now c.follow_narrow.new.self
    (subst (λ n. All (λ (e : ℕ × Option (List ℕ)). n ≤ e.0) wide) c.requires.count.narrow
    (wide_behind c.args.cells.now narrow wide c.args.writes.now c.requires.kinds parts.values parts.kinds))
    (all_behind (λ e. e.0 < record_count s) narrow wide
    (subst (All (λ (e : ℕ × Option (List ℕ)). e.0 < record_count s)) (sym parts.values) c.requires.below))
    c.follow_narrow.ensures.moves)
