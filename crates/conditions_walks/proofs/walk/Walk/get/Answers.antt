use Rattle.std.proofs.Common.{◌∷◌, sym, ◌∙◌, subst}
use Rattle.std.specs.Option.{option_map}
use Rattle.std.specs.Map.Iter.{deref, deref_pair}
use Rattle.conditions_walks.specs.Walk.{IsAlong, left}
use Rattle.conditions_walks.proofs.Walked.{left_next, along_next, along_below}
use Rattle.conditions_walks.proofs.walk.Walk.get.Goals as goal

pub searched-requires : goal.searched-requires
searched-requires g c = λ past.
    let all = c.loop-self.self-inside.map.now.entries in
    let passed = option_map (deref {X = g.row.K.Denot}) c.loop-self.self-inside.passed in
    let stands : IsAlong g.K.Ord.cmp all passed ((c.in-Some.at.now, c.in-Some.value.now) ∷ c.loop-self.self-inside.rest) =
    subst (λ n. IsAlong g.K.Ord.cmp all passed (left (option_map (deref_pair {K = g.row.K.Denot} {X = g.row.X.Denot}) n) c.loop-self.self-inside.rest)) c.in-Some.is
    c.loop-self.invariant.along in
    along_below g.met.K.Ord.total all passed c.in-Some.at.now c.args.key.now c.in-Some.value.now c.loop-self.self-inside.rest stands
    (sym c.cmp.ensures ∙ c.in-Less.is) past

pub loop-self-preserved : goal.loop-self-preserved
loop-self-preserved g c =
    let all = c.loop-self.self-inside.map.now.entries in
    let passed = option_map (deref {X = g.row.K.Denot}) c.loop-self.self-inside.passed in
    let stands : IsAlong g.K.Ord.cmp all passed ((c.in-Some.at.now, c.in-Some.value.now) ∷ c.loop-self.self-inside.rest) =
    subst (λ n. IsAlong g.K.Ord.cmp all passed (left (option_map (deref_pair {K = g.row.K.Denot} {X = g.row.X.Denot}) n) c.loop-self.self-inside.rest)) c.in-Some.is
    c.loop-self.invariant.along in
    record {
      map = c.loop-self.invariant.map;
      along = subst (IsAlong g.K.Ord.cmp all _) (left_next (deref_pair {K = g.row.K.Denot} {X = g.row.X.Denot}) c.loop-self.self-inside.rest _ _ c.next-self-inside.ensures.steps)
          (along_next g.met.K.Ord.total all passed c.in-Some.at.now c.in-Some.value.now c.loop-self.self-inside.rest stands);
    }
