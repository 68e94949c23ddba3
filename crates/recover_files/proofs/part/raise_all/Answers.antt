use Rattle.std.proofs.Common.{◌≡◌, refl, true, ℕ, List, ◌∷◌, sym, ap, ◌∙◌, subst}
use Rattle.std.specs.List.{All, fold}
use Rattle.std.specs.Vec.Iter.{into_iter_items}
use Rattle.std.proofs.lemmas.List.Elements.{All-head, All-tail}
use Rattle.log_text.specs.Writes.{is_write}
use Rattle.log_text.specs.declared.write.Write.{Write}
use Rattle.recover_newest.specs.Known.{known}
use Rattle.recover_newest.specs.declared.latest.Latest.{Latest}
use Rattle.recover_files.specs.Parts.{raised_by}
use Rattle.recover_files.proofs.LawfulWrites.{all_lawful}
use Rattle.recover_files.proofs.part.raise_all.Goals as goal

pub loop-write-init : goal.loop-write-init
loop-write-init c =
    let s = c.args.scale.now in
    let items = c.into_iter-write-iterator.ensures.into_iter_gives.0 in
    record {
      records = refl;
      lawful = subst (All (λ (w : Write). is_write s w ≡ true)) (sym items) (all_lawful s c.args.entry.writes.items c.requires.lawful);
      raised = λ n. ap (fold (raised_by s c.args.entry.tid c.args.entry.number n) (known c.args.newest.now n)) items;
    }

pub raise_one-requires-clause-lawful : goal.raise_one-requires-clause-lawful
raise_one-requires-clause-lawful c =
    All-head (λ (w : Write). is_write c.args.scale.now w ≡ true) c.in-Some.write (into_iter_items c.next.new.self)
    (subst (All (λ (w : Write). is_write c.args.scale.now w ≡ true)) c.in-Some.ensures.steps.0 c.loop-write.invariant.lawful)

pub loop-write-preserved : goal.loop-write-preserved
loop-write-preserved c =
    let s = c.args.scale.now in
    let rest : List Write = into_iter_items c.next.new.self in
    let steps = c.in-Some.ensures.steps.0 in
    let whole = c.loop-write.invariant in
    let own = c.in_ok-raise_one.ensures in
    record {
      records = own.records ∙ whole.records;
      lawful = All-tail (λ (w : Write). is_write s w ≡ true) c.in-Some.write rest
          (subst (All (λ (w : Write). is_write s w ≡ true)) steps whole.lawful);
      raised = λ n.
          let raised = raised_by s c.args.entry.tid c.args.entry.number n in
          ap (λ known_now. fold raised known_now rest) (own.raised n) ∙ ap (fold raised (known c.loop-write.newest n)) (sym steps) ∙ whole.raised n;
    }
