use Rattle.std.proofs.Common.{rules, ◌≡◌, ◌<◌, List, refl, set, sym, ap, subst, length, ◌∷◌, ◌∙◌, arith, length-set}
use Rattle.std.specs.List.{AllByRecursion, fold}
use Rattle.tables.specs.Records.{IsNarrowKey, number_of_key}
use Rattle.cells.specs.First.{populated_word}
use Rattle.cells.specs.declared.cells.Newest.{Newest}
use Rattle.encoding.specs.Begun.{begun_by}
use Rattle.encoding.specs.Newest.{words_at}
use Rattle.encoding.proofs.Begun.{more_begun}
use Rattle.encoding.proofs.EachEntry.{each_entry}
use Rattle.encoding.proofs.first.begin.Goals as goal

pub loop-key-init : goal.loop-key-init
loop-key-init g c =
    let is_key = λ (e : g.row.K.Denot × g.row.X.Denot). IsNarrowKey c.args.scale.now (g.B.Begins.record_of e.0 e.1) in
    record {
      count = refl;
      keys = subst (AllByRecursion is_key) (sym (c.into_iter-key-iterator.ensures.into_iter_gives ∙ c.iter-key-items.ensures.rest))
          (each_entry g.met.K.Ord.total (λ (k : g.row.K.Denot) (r : g.row.X.Denot). IsNarrowKey c.args.scale.now (g.B.Begins.record_of k r)) c.args.rows.now
          c.iter-key-items.ensures.ordered c.requires.keys);
      words = search rules;
    }

pub loop-key-preserved : goal.loop-key-preserved
loop-key-preserved g c =
    let s = c.args.scale.now in
    let i = c.loop-key.invariant in
    let held = c.loop-key.first in
    let number = c.number_of_key-number.result in
    let value : number ≡ number_of_key s (g.B.Begins.record_of c.in-Some.key.now c.in-Some.row.now) = c.number_of_key-number.ensures.value
    ∙ ap (number_of_key s) c.record.ensures in
    let is_key = λ (e : g.row.K.Denot × g.row.X.Denot). IsNarrowKey s (g.B.Begins.record_of e.0 e.1) in
    let version : Newest = record { word = 2; payload = c.words-payload.result } in
    let set_is : c.set.new.self ≡ set held number version = c.in_ok-set.ensures.ok in
    let longer = ap length set_is ∙ length-set held number version in
    let keys : AllByRecursion is_key ((c.in-Some.key.now, c.in-Some.row.now) ∷ c.next.new.self) =
    subst (AllByRecursion is_key) c.in-Some.ensures.steps i.keys in
    let below : number < length held = omega (
      arith,
      c.number_of_key-number.ensures.narrow (subst (IsNarrowKey s) (sym c.record.ensures) keys.0),
      i.count,
      c.requires.count,
    ) in
    record {
      count = longer ∙ i.count;
      keys = keys.1;
      words = λ n h.
          ap (λ (l : List Newest). fold (begun_by s g.B.Begins.record_of g.B.Begins.words_of n) (words_at l n) c.next.new.self) set_is
          ∙ more_begun s g.B.Begins.record_of g.B.Begins.words_of n held number c.in-Some.key.now c.in-Some.row.now version c.get-before.result
          c.loop-key.key-iterator c.next.new.self
          (fold (begun_by s g.B.Begins.record_of g.B.Begins.words_of n) (words_at c.args.first.now n) c.args.rows.now.entries)
          below (omega (arith, h, longer)) value c.get-before.ensures (ap (λ ws. populated_word ∷ ws) c.words-payload.ensures) c.in-Some.ensures.steps
          (i.words n (omega (arith, h, longer)));
    }
