use Rattle.std.proofs.Common.{◌≡◌, [], ◌∷◌, ◌++◌, flat_map, map, ℕ, ◌+◌, ◌<◌, length, List, get_or, drop, sym, ap, ◌∙◌, arith}
use Rattle.std.proofs.Common.{Global, append_assoc, append-nil}
use Rattle.std.proofs.lemmas.List.{at_drop_more, drop_all}
use Rattle.std.specs.Arc.{arc_value}
use Rattle.std.specs.declared.sync.Arc.{Arc}
use Rattle.tidword.specs.TidWord.{epoch_of}
use Rattle.log_text.specs.Entries.{entry_text}
use Rattle.log_text.specs.declared.last.Last.{Last}
use Rattle.book.specs.Streams.{last_number}
use Rattle.book.specs.declared.entry.Entry.{Entry}
use Rattle.log_entries.specs.Logged.{logged_entry}
use Rattle.log_entries.specs.Following.{last_epoch_of}
use Rattle.log_entries.proofs.Following.{loggable_at}
use Rattle.log_entries.proofs.batches.put_entries.Goals as goal

-- what is left begins with this one
split : (xs : List (Arc Entry Global)) (i : ℕ) (x : Arc Entry Global) → i < length xs → x ≡ get_or xs i x → drop i xs ≡ x ∷ drop (i + 1) xs
split xs i x lt is = at_drop_more (λ (l : List (Arc Entry Global)). l) xs i x lt ∙ (λ j. sym is j ∷ drop (i + 1) xs)

pub put_entry-requires : goal.put_entry-requires
put_entry-requires c =
    loggable_at c.args.scale.now c.args.entries.now c.requires c.loop-entry.entry-index c.entry-item.result c.deref.result.now
    c.loop-entry-test.true c.entry-item.is c.deref.ensures

pub loop-entry-preserved : goal.loop-entry-preserved
loop-entry-preserved c =
    let xs : List (Arc Entry Global) = c.args.entries.now in
    let i : ℕ = c.loop-entry.entry-index in
    let now : Last = c.loop-entry.now in
    let whole = c.loop-entry.invariant in
    let cut : drop i xs ≡ c.entry-item.result ∷ drop (i + 1) xs = split xs i c.entry-item.result c.loop-entry-test.true c.entry-item.is in
    let left : List Entry = map arc_value (drop (i + 1) xs) in
    let rest : List ℕ = flat_map entry_text (map (logged_entry c.args.scale.now) left) in
    let text : c.put_entry.new.out.items ≡ c.loop-entry.out.items ++ entry_text (logged_entry c.args.scale.now (arc_value c.entry-item.result))
    = c.in_ok-put_entry.ensures ∙ ap (λ (e : Entry). c.loop-entry.out.items ++ entry_text (logged_entry c.args.scale.now e)) c.deref.ensures in (
      ap (λ (l : List ℕ). l ++ rest) text
          ∙ append_assoc c.loop-entry.out.items (entry_text (logged_entry c.args.scale.now (arc_value c.entry-item.result))) rest
          ∙ ap (λ (l : List (Arc Entry Global)). c.loop-entry.out.items ++ flat_map entry_text (map (logged_entry c.args.scale.now) (map arc_value l))) (sym cut)
          ∙ whole.0,
      whole.1,
      ap (λ (n : ℕ). last_number n left) (c.from-number.ensures ∙ ap (λ (e : Entry). e.number) c.deref-in-loop-entry.ensures)
          ∙ ap (λ (l : List (Arc Entry Global)). last_number c.loop-entry.number (map arc_value l)) (sym cut) ∙ whole.2,
      ap (λ (n : ℕ). last_epoch_of n left) (c.from.ensures ∙ c.epoch.ensures ∙ ap (λ (e : Entry). epoch_of e.tid) c.deref-in-loop-entry-2.ensures)
          ∙ ap (λ (l : List (Arc Entry Global)). last_epoch_of now.epoch (map arc_value l)) (sym cut) ∙ whole.3,
    )

pub returns-clause-text : goal.returns-clause-text
returns-clause-text c =
    let none : drop c.loop-entry.entry-index c.args.entries.now ≡ [] = drop_all c.loop-entry.entry-index c.args.entries.now (omega (arith, c.loop-entry-test.false)) in
    sym (append-nil c.loop-entry.out.items)
    ∙ ap (λ (l : List (Arc Entry Global)). c.loop-entry.out.items ++ flat_map entry_text (map (logged_entry c.args.scale.now) (map arc_value l))) (sym none)
    ∙ c.loop-entry.invariant.0

pub returns-clause-last : goal.returns-clause-last
returns-clause-last c =
    let none : drop c.loop-entry.entry-index c.args.entries.now ≡ [] = drop_all c.loop-entry.entry-index c.args.entries.now (omega (arith, c.loop-entry-test.false)) in
    let whole = c.loop-entry.invariant in
    let epochs = ap (λ (l : List (Arc Entry Global)). last_epoch_of c.loop-entry.now.epoch (map arc_value l)) (sym none) ∙ whole.3 in
    λ j. record { mark = whole.1 j; epoch = epochs j }

pub returns-clause-rises : goal.returns-clause-rises
returns-clause-rises c =
    let none : drop c.loop-entry.entry-index c.args.entries.now ≡ [] = drop_all c.loop-entry.entry-index c.args.entries.now (omega (arith, c.loop-entry-test.false)) in
    ap (λ (l : List (Arc Entry Global)). last_number c.loop-entry.number (map arc_value l)) (sym none) ∙ c.loop-entry.invariant.2
