use Rattle.std.proofs.Common.{◌≡◌, [], ◌∷◌, ◌++◌, flat_map, map, ℕ, ◌+◌, List, drop, sym, ap, ◌∙◌, arith}
use Rattle.std.proofs.Common.{Global, append_assoc, append-nil}
use Rattle.std.proofs.lemmas.List.{at_drop_more, drop_all}
use Rattle.std.specs.Arc.{arc_value}
use Rattle.std.specs.declared.sync.Arc.{Arc}
use Rattle.tables.specs.Sizes.{Sizes}
use Rattle.log_text.specs.Entries.{entry_text}
use Rattle.book.specs.Streams.{stream}
use Rattle.book.specs.declared.entry.Entry.{Entry}
use Rattle.log_entries.specs.Logged.{logged_entry}
use Rattle.traces.proofs.Texts.{loggable_there, next_text}
use Rattle.traces.proofs.text.put_stream.Goals as goal

abbrev texts : Sizes → ℕ → ℕ → List (Arc Entry Global) → List ℕ
texts s loggers logger arcs = flat_map entry_text (map (logged_entry s) (stream loggers logger (map arc_value arcs)))

pub put_own-requires-clause-loggable : goal.put_own-requires-clause-loggable
put_own-requires-clause-loggable c =
    loggable_there c.args.scale.now c.args.entries.now c.requires.loggable c.loop-entry.entry-index c.entry-item.result
    c.loop-entry-test.true c.entry-item.is c.deref.result.now c.deref.ensures

pub loop-entry-preserved : goal.loop-entry-preserved
loop-entry-preserved c =
    let xs : List (Arc Entry Global) = c.args.entries.now in
    let i : ℕ = c.loop-entry.entry-index in
    let x : Arc Entry Global = c.entry-item.result in
    let cut : drop i xs ≡ x ∷ drop (i + 1) xs
    = at_drop_more (λ (l : List (Arc Entry Global)). l) xs i x c.loop-entry-test.true ∙ (λ j. sym c.entry-item.is j ∷ drop (i + 1) xs) in
    let one = flat_map entry_text (map (logged_entry c.args.scale.now) (stream c.args.loggers c.args.logger (arc_value x ∷ []))) in
    let rest = texts c.args.scale.now c.args.loggers c.args.logger (drop (i + 1) xs) in
    ap (λ (l : List ℕ). l ++ rest) (c.in_ok-put_own.ensures
    ∙ ap (λ (e : Entry). c.loop-entry.out.items ++ flat_map entry_text (map (logged_entry c.args.scale.now) (stream c.args.loggers c.args.logger (e ∷ [])))) c.deref.ensures)
    ∙ append_assoc c.loop-entry.out.items one rest
    ∙ ap (λ (l : List ℕ). c.loop-entry.out.items ++ l)
    (sym (next_text c.args.scale.now c.args.loggers c.args.logger (arc_value x) (map arc_value (drop (i + 1) xs)))
    ∙ ap (texts c.args.scale.now c.args.loggers c.args.logger) (sym cut))
    ∙ c.loop-entry.invariant

pub returns : goal.returns
returns c =
    let none : drop c.loop-entry.entry-index c.args.entries.now ≡ [] = drop_all c.loop-entry.entry-index c.args.entries.now (omega (arith, c.loop-entry-test.false)) in
    sym (append-nil c.loop-entry.out.items)
    ∙ ap (λ (l : List (Arc Entry Global)). c.loop-entry.out.items ++ texts c.args.scale.now c.args.loggers c.args.logger l) (sym none)
    ∙ c.loop-entry.invariant
