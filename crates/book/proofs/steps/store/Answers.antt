use Rattle.std.proofs.Common.{◌∷◌, ◌+◌, ◌++◌, ℕ, [], List, Option, None, Some, map, drop, get_or, ap, subst, arith}
use Rattle.std.proofs.lemmas.List.{drop_more, drop_all, get_or-map, length-map}
use Rattle.std.specs.Ordering.{nat_cmp}
use Rattle.std.specs.Map.{keys_of}
use Rattle.std.specs.List.Sorted.{IsStrictlySortedBy}
use Rattle.cells.specs.Records.{IsWide}
use Rattle.readset.specs.Writes.{as_written}
use Rattle.book.proofs.Stores.{AreStored, begins, is_narrow, is_wide, within, larger, goes_on}
use Rattle.book.proofs.steps.store.Goals as goal

abbrev Values : Type 0
Values = List (ℕ × Option (List ℕ))

pub loop-record-init : goal.loop-record-init
loop-record-init g c = begins c.args.entry.now.tid c.args.pen.now c.args.reader.now c.args.entry.now.writes
    (c.parts.result.0.now ++ map as_written c.parts.result.1.now) c.parts.ensures.values c.parts.ensures.found
    (subst (λ (es : Values). IsStrictlySortedBy nat_cmp (keys_of es)) c.parts.ensures.values c.parts.ensures.kinds.ordered)

pub store-requires-clause-is_record : goal.store-requires-clause-is_record
store-requires-clause-is_record g c =
    let narrow = c.parts.result.0.now in
    let wide = map as_written c.parts.result.1.now in
    let i = c.loop-record.record-index in
    let e : ℕ × Option (List ℕ) = get_or narrow i (0, None) in
    is_narrow c.args.cells.now c.args.entry.now.tid c.args.pen.now c.args.reader.now c.args.entry.now.writes c.requires.within c.requires.kinds
    c.requires.larger c.loop-record.pen c.loop-record.reader (drop i narrow ++ wide) c.loop-record.invariant e.0 e.1 (drop (i + 1) narrow ++ wide)
    (ap (λ (es : Values). es ++ wide) (drop_more narrow i (0, None) c.loop-record-test.true)) (c.parts.ensures.kinds.low i (0, None) c.loop-record-test.true)

pub store-requires-clause-larger : goal.store-requires-clause-larger
store-requires-clause-larger g c =
    let narrow = c.parts.result.0.now in
    let wide = map as_written c.parts.result.1.now in
    let i = c.loop-record.record-index in
    let e : ℕ × Option (List ℕ) = get_or narrow i (0, None) in
    larger c.args.cells.now c.args.entry.now.tid c.args.pen.now c.args.reader.now c.args.entry.now.writes c.requires.within c.requires.kinds
    c.requires.larger c.loop-record.pen c.loop-record.reader (drop i narrow ++ wide) c.loop-record.invariant e.0 e.1 (drop (i + 1) narrow ++ wide)
    (ap (λ (es : Values). es ++ wide) (drop_more narrow i (0, None) c.loop-record-test.true)) c.version-version.result.word c.version-version.ensures.tid

pub learn-requires-clause-is_record : goal.learn-requires-clause-is_record
learn-requires-clause-is_record g c =
    let narrow = c.parts.result.0.now in
    let wide = map as_written c.parts.result.1.now in
    let i = c.loop-record.record-index in
    let e : ℕ × Option (List ℕ) = get_or narrow i (0, None) in
    within c.args.cells.now c.args.entry.now.tid c.args.pen.now c.args.reader.now c.args.entry.now.writes c.requires.within c.requires.kinds
    c.requires.larger c.loop-record.pen c.loop-record.reader (drop i narrow ++ wide) c.loop-record.invariant e.0 e.1 (drop (i + 1) narrow ++ wide)
    (ap (λ (es : Values). es ++ wide) (drop_more narrow i (0, None) c.loop-record-test.true))

pub loop-record-preserved : goal.loop-record-preserved
loop-record-preserved g c =
    let narrow = c.parts.result.0.now in
    let wide = map as_written c.parts.result.1.now in
    let i = c.loop-record.record-index in
    let e : ℕ × Option (List ℕ) = get_or narrow i (0, None) in
    goes_on c.args.cells.now c.args.entry.now.tid c.args.pen.now c.args.reader.now c.args.entry.now.writes c.requires.within c.requires.kinds
    c.requires.larger c.loop-record.pen c.loop-record.reader (drop i narrow ++ wide) c.loop-record.invariant e.0 e.1 (drop (i + 1) narrow ++ wide)
    (ap (λ (es : Values). es ++ wide) (drop_more narrow i (0, None) c.loop-record-test.true))
    (c.version-version.result.word ∷ c.version-version.result.payload) c.version-version.ensures.words
    c.store.new.pen c.learn.new.pen c.learn.new.reader (record { cells = c.store.ensures.cells; others = c.store.ensures.others; last = c.store.ensures.last })
    c.learn.ensures.pen c.learn.ensures.reader

pub loop-number-init : goal.loop-number-init
loop-number-init g c = subst (AreStored c.args.entry.now.tid c.args.pen.now c.args.reader.now c.args.entry.now.writes c.loop-record.pen c.loop-record.reader)
    (ap (λ (es : Values). es ++ map as_written c.parts.result.1.now) (drop_all c.loop-record.record-index c.parts.result.0.now c.loop-record-test.false))
    c.loop-record.invariant

pub store_wide-requires-clause-is_record : goal.store_wide-requires-clause-is_record
store_wide-requires-clause-is_record g c =
    let wide = c.parts.result.1.now in
    let i = c.loop-number.number-index in
    let e : ℕ × List ℕ = get_or wide i (0, []) in
    let steps = ap (map as_written) (drop_more wide i (0, []) c.loop-number-test.true) in
    let many = length-map wide as_written in
    let high = c.parts.ensures.kinds.high i (0, None) (let inside = c.loop-number-test.true in omega (arith, inside, many)) in (
      is_wide c.args.cells.now c.args.entry.now.tid c.args.pen.now c.args.reader.now c.args.entry.now.writes c.requires.within c.requires.kinds
          c.requires.larger c.loop-number.pen c.loop-number.reader (map as_written (drop i wide)) c.loop-number.invariant e.0 (Some e.1) (map as_written (drop (i + 1) wide))
          steps
          (subst (λ (w : ℕ × Option (List ℕ)). IsWide w.1) (get_or-map as_written wide i (0, []) (0, None) c.loop-number-test.true) high),
      within c.args.cells.now c.args.entry.now.tid c.args.pen.now c.args.reader.now c.args.entry.now.writes c.requires.within c.requires.kinds
          c.requires.larger c.loop-number.pen c.loop-number.reader (map as_written (drop i wide)) c.loop-number.invariant e.0 (Some e.1) (map as_written (drop (i + 1) wide))
          steps,
    )

pub store_wide-requires-clause-larger : goal.store_wide-requires-clause-larger
store_wide-requires-clause-larger g c =
    let wide = c.parts.result.1.now in
    let i = c.loop-number.number-index in
    let e : ℕ × List ℕ = get_or wide i (0, []) in
    let steps = ap (map as_written) (drop_more wide i (0, []) c.loop-number-test.true) in
    larger c.args.cells.now c.args.entry.now.tid c.args.pen.now c.args.reader.now c.args.entry.now.writes c.requires.within c.requires.kinds
    c.requires.larger c.loop-number.pen c.loop-number.reader (map as_written (drop i wide)) c.loop-number.invariant e.0 (Some e.1) (map as_written (drop (i + 1) wide))
    steps c.present_word-word.result c.present_word-word.ensures.tid

pub learn-requires-in-loop-number-clause-is_record : goal.learn-requires-in-loop-number-clause-is_record
learn-requires-in-loop-number-clause-is_record g c =
    let wide = c.parts.result.1.now in
    let i = c.loop-number.number-index in
    let e : ℕ × List ℕ = get_or wide i (0, []) in
    let steps = ap (map as_written) (drop_more wide i (0, []) c.loop-number-test.true) in
    within c.args.cells.now c.args.entry.now.tid c.args.pen.now c.args.reader.now c.args.entry.now.writes c.requires.within c.requires.kinds
    c.requires.larger c.loop-number.pen c.loop-number.reader (map as_written (drop i wide)) c.loop-number.invariant e.0 (Some e.1) (map as_written (drop (i + 1) wide))
    steps

pub loop-number-preserved : goal.loop-number-preserved
loop-number-preserved g c =
    let wide = c.parts.result.1.now in
    let i = c.loop-number.number-index in
    let e : ℕ × List ℕ = get_or wide i (0, []) in
    let steps = ap (map as_written) (drop_more wide i (0, []) c.loop-number-test.true) in
    goes_on c.args.cells.now c.args.entry.now.tid c.args.pen.now c.args.reader.now c.args.entry.now.writes c.requires.within c.requires.kinds
    c.requires.larger c.loop-number.pen c.loop-number.reader (map as_written (drop i wide)) c.loop-number.invariant e.0 (Some e.1) (map as_written (drop (i + 1) wide))
    steps
    (c.present_word-word.result ∷ e.1) (c.present_word-word.ensures.words e.1) c.store_wide.new.pen c.learn-in-loop-number.new.pen c.learn-in-loop-number.new.reader
    (record { cells = c.store_wide.ensures.cells; others = c.store_wide.ensures.others; last = c.store_wide.ensures.last })
    c.learn-in-loop-number.ensures.pen c.learn-in-loop-number.ensures.reader
