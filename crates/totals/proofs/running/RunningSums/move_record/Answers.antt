use Rattle.std.proofs.Common.{◌≡◌, ◌+◌, ◌-◌, ◌<◌, ◌≤◌, option_copied, refl, ap, ◌∙◌, subst, arith}
use Rattle.tables.specs.Keys.{order_of}
use Rattle.tables.specs.Records.{size, first_number, district_at, order_at, line_at}
use Rattle.tables.specs.declared.records.Table.TheVariants as table
use Rattle.totals_bounds.proofs.KeysAt.{district_is, order_is, line_is}
use Rattle.totals.specs.declared.places.Counted.{Counted}
use Rattle.cells.specs.Records.{held_by}
use Rattle.totals.specs.Moves.{MovesSums, order_before, step, no_history}
use Rattle.totals.specs.Steps.{HasPlaces}
use Rattle.totals.proofs.Moving.{district_moves, new_order_moves, order_moves, line_moves, told}
use Rattle.totals.proofs.ByNumber.{district_named, new_order_named, order_named, line_named, place_same, place_below}
use Rattle.totals.proofs.running.RunningSums.move_record.Goals as goal

pub returns-then-number-counted-clause-moves : goal.returns-then-number-counted-clause-moves
returns-then-number-counted-clause-moves c =
    let v = c.args.self.now in
    let s = v.scale in
    let n = c.args.number in
    let p = n - c.args.counted.now.first_district in
    let places : HasPlaces v = subst HasPlaces c.self.view_is c.self.invariant in
    let start : c.args.counted.now.first_district ≡ first_number s table.District = ap (λ (q : Counted). q.first_district) c.requires.counted in
    let stop : c.args.counted.now.end_districts ≡ first_number s table.District + size s table.District = ap (λ (q : Counted). q.end_districts) c.requires.counted in
    let up : c.args.counted.now.first_district ≤ n = c.requires.first in
    let below : p < size s table.District = place_below n c.args.counted.now.first_district (first_number s table.District) c.args.counted.now.end_districts (size s table.District) start stop up c.if-number-counted.true in
    told s (order_before s (held_by c.args.pen.now)) v _ _ _ _ _ _ (option_copied c.args.new)
    (district_moves (order_before s (held_by c.args.pen.now)) v places (option_copied c.args.old) (option_copied c.args.new) (district_at s p) (district_is s p below))
    (district_named s n p below (place_same n c.args.counted.now.first_district (first_number s table.District) start up)) refl c.follow_district.ensures

pub returns-then-number-counted-2-clause-moves : goal.returns-then-number-counted-2-clause-moves
returns-then-number-counted-2-clause-moves c =
    let v = c.args.self.now in
    let s = v.scale in
    let n = c.args.number in
    let p = n - c.args.counted.now.first_new_order in
    let places : HasPlaces v = subst HasPlaces c.self.view_is c.self.invariant in
    let start : c.args.counted.now.first_new_order ≡ first_number s table.NewOrder = ap (λ (q : Counted). q.first_new_order) c.requires.counted in
    let stop : c.args.counted.now.first_order ≡ first_number s table.NewOrder + size s table.NewOrder = ap (λ (q : Counted). q.first_order) c.requires.counted ∙ omega arith in
    let up : c.args.counted.now.first_new_order ≤ n = c.requires.between (omega (arith, c.if-number-counted.false)) in
    let below : p < size s table.NewOrder = place_below n c.args.counted.now.first_new_order (first_number s table.NewOrder) c.args.counted.now.first_order (size s table.NewOrder) start stop up c.if-number-counted-2.true in
    told s (order_before s (held_by c.args.pen.now)) v _ _ _ _ _ _ (option_copied c.args.new)
    (new_order_moves (order_before s (held_by c.args.pen.now)) v places (option_copied c.args.old) (option_copied c.args.new) (order_at s p) (order_is s p below))
    (new_order_named s n p below (place_same n c.args.counted.now.first_new_order (first_number s table.NewOrder) start up)) refl c.follow_new_order.ensures

pub returns-then-number-counted-3-clause-moves : goal.returns-then-number-counted-3-clause-moves
returns-then-number-counted-3-clause-moves c =
    let v = c.args.self.now in
    let s = v.scale in
    let n = c.args.number in
    let p = n - c.args.counted.now.first_order in
    let places : HasPlaces v = subst HasPlaces c.self.view_is c.self.invariant in
    let start : c.args.counted.now.first_order ≡ first_number s table.Order = ap (λ (q : Counted). q.first_order) c.requires.counted in
    let stop : c.args.counted.now.first_line ≡ first_number s table.Order + size s table.Order = ap (λ (q : Counted). q.first_line) c.requires.counted ∙ omega arith in
    let up : c.args.counted.now.first_order ≤ n = omega (arith, c.if-number-counted-2.false) in
    let below : p < size s table.Order = place_below n c.args.counted.now.first_order (first_number s table.Order) c.args.counted.now.first_line (size s table.Order) start stop up c.if-number-counted-3.true in
    told s (order_before s (held_by c.args.pen.now)) v _ _ _ _ _ _ (option_copied c.args.new)
    (order_moves (order_before s (held_by c.args.pen.now)) v places (option_copied c.args.old) (option_copied c.args.new) (order_at s p) (order_is s p below))
    (order_named s n p below (place_same n c.args.counted.now.first_order (first_number s table.Order) start up)) refl c.follow_order.ensures

pub returns-else-number-counted-3-clause-moves : goal.returns-else-number-counted-3-clause-moves
returns-else-number-counted-3-clause-moves c =
    let v = c.args.self.now in
    let s = v.scale in
    let n = c.args.number in
    let p = n - c.args.counted.now.first_line in
    let places : HasPlaces v = subst HasPlaces c.self.view_is c.self.invariant in
    let start : c.args.counted.now.first_line ≡ first_number s table.OrderLine = ap (λ (q : Counted). q.first_line) c.requires.counted in
    let stop : c.args.counted.now.end_lines ≡ first_number s table.OrderLine + size s table.OrderLine = ap (λ (q : Counted). q.end_lines) c.requires.counted in
    let up : c.args.counted.now.first_line ≤ n = omega (arith, c.if-number-counted-3.false) in
    let below : p < size s table.OrderLine = place_below n c.args.counted.now.first_line (first_number s table.OrderLine) c.args.counted.now.end_lines (size s table.OrderLine) start stop up c.requires.end in
    let is = line_is s p below in
    subst (λ j. MovesSums s (order_before s (held_by c.args.pen.now)) (step j (option_copied c.args.old) (option_copied c.args.new)) no_history v
    c.follow_line.new.self)
    (line_named s n p below (place_same n c.args.counted.now.first_line (first_number s table.OrderLine) start up))
    (line_moves (order_before s (held_by c.args.pen.now)) v places (option_copied c.args.old) (option_copied c.args.new) (line_at s p) is
    (c.requires.buyers (order_of (line_at s p)) (is.0, is.1, is.2)) c.follow_line.new.self c.follow_line.ensures.follows)
