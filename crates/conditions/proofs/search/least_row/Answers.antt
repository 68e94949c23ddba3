use Rattle.std.proofs.Common.{refl, sym, ◌∙◌, subst, true≢false}
use Rattle.tables.proofs.Orders.{IsExact}
use Rattle.conditions.proofs.Searched.{searched_none, searched_more, searched_all, searched_first}
use Rattle.conditions.proofs.search.least_row.Goals as goal

pub loop-key-init : goal.loop-key-init
loop-key-init g c =
    let o : IsExact g.K.Ord.cmp = record { total = g.met.K.Ord.total; same = c.requires } in
    let start = searched_none o c.args.rows.now (g.C.RowCondition.holds_of c.args.condition.now) c.iter-key-items.ensures.ordered in
    record {
      condition = refl;
      searched = rw (c.into_iter-key-iterator.ensures.into_iter_gives, c.iter-key-items.ensures.rest) start;
    }

pub loop-key-preserved : goal.loop-key-preserved
loop-key-preserved g c =
    let o : IsExact g.K.Ord.cmp = record { total = g.met.K.Ord.total; same = c.requires } in
    record {
      condition = c.if-not-holds.ensures.stays ∙ c.loop-key.invariant.condition;
      searched = searched_more o c.args.rows.now (g.C.RowCondition.holds_of c.args.condition.now) c.loop-key.key-iterator c.next.new.self
          c.in-Some.key.now c.in-Some.row.now c.in-Some.ensures.steps c.loop-key.invariant.searched
          (subst (λ (s : g.row.C.Denot). g.C.RowCondition.holds_of s c.in-Some.key.now c.in-Some.row.now) c.loop-key.invariant.condition
          (c.if-not-holds.ensures.answer.0 refl));
    }

pub returns : goal.returns
returns g c =
    let o : IsExact g.K.Ord.cmp = record { total = g.met.K.Ord.total; same = c.requires } in
    searched_all o c.args.rows.now (g.C.RowCondition.holds_of c.args.condition.now) c.loop-key.key-iterator c.in-None.ensures.steps.0
    c.loop-key.invariant.searched

pub returns-then-not-holds : goal.returns-then-not-holds
returns-then-not-holds g c =
    let o : IsExact g.K.Ord.cmp = record { total = g.met.K.Ord.total; same = c.requires } in
    searched_first o c.args.rows.now (g.C.RowCondition.holds_of c.args.condition.now) c.loop-key.key-iterator c.next.new.self c.in-Some.key.now
    c.in-Some.row.now c.in-Some.ensures.steps c.loop-key.invariant.searched
    (λ t. true≢false (sym (c.if-not-holds.ensures.answer.1
    (subst (λ (s : g.row.C.Denot). g.C.RowCondition.holds_of s c.in-Some.key.now c.in-Some.row.now) (sym c.loop-key.invariant.condition) t))))
