use Rattle.std.proofs.Common.{◌+◌, ◌<◌, ◌≤◌, ap, refl, sym, subst, ◌∙◌, drop}
use Rattle.std.specs.Prelude.{max}
use Rattle.std.proofs.Math.ListN.{drop_of_length-le}
use Rattle.std.proofs.lemmas.List.{drop_more}
use Rattle.tidword.specs.TidWord.{tid_of}
use Rattle.cells.specs.Records.{PenView}
use Rattle.book.specs.Book.{IsRead}
use Rattle.book.proofs.Checks.{entry, begins, is_record, has, learns_as, latest_as, other_as, grown, conflict, goes_on, all_latest, all_greatest}
use Rattle.book.proofs.steps.validate.Goals as goal

pub loop-place-init : goal.loop-place-init
loop-place-init g c = begins c.args.pen.now c.args.reader.now c.args.reads.now c.args.reads.now refl c.len-place-end.ensures.found

pub is_latest-requires-clause-own : goal.is_latest-requires-clause-own
is_latest-requires-clause-own g c =
    (ap (λ (w : PenView). w.cells) c.loop-place.invariant.same ∙ c.requires.own.0, c.loop-place.invariant.grown.cells ∙ c.requires.own.1)

pub is_latest-requires-clause-is_record : goal.is_latest-requires-clause-is_record
is_latest-requires-clause-is_record g c =
    let place = c.loop-place.place in
    let e = entry c.args.reads.now place in
    let inside = subst (λ n. place < n) c.len-place-end.ensures.len c.loop-place-test.true in
    is_record c.args.cells.now c.args.pen.now c.args.reader.now c.args.reads.now c.requires.read c.loop-place.pen c.loop-place.reader
    (drop place c.args.reads.now) c.loop-place.seen c.loop-place.invariant e.0 e.1 (drop (place + 1) c.args.reads.now)
    (drop_more c.args.reads.now place _ inside) c.seen-record.result.0 c.seen-record.result.1 (c.seen-record.ensures _).0 (c.seen-record.ensures _).1

pub returns-then-not-is_latest-clause-pen : goal.returns-then-not-is_latest-clause-pen
returns-then-not-is_latest-clause-pen g c = c.is_latest.ensures.pen ∙ c.loop-place.invariant.same

pub returns-then-not-is_latest-clause-reader : goal.returns-then-not-is_latest-clause-reader
returns-then-not-is_latest-clause-reader g c =
    let place = c.loop-place.place in
    let e = entry c.args.reads.now place in
    let inside = subst (λ n. place < n) c.len-place-end.ensures.len c.loop-place-test.true in
    let steps = drop_more c.args.reads.now place _ inside in
    grown c.args.cells.now c.args.pen.now c.args.reader.now c.args.reads.now c.requires.read c.loop-place.pen c.loop-place.reader
    (drop place c.args.reads.now) c.loop-place.seen c.loop-place.invariant e.0 e.1 (drop (place + 1) c.args.reads.now) steps
    c.is_latest.new.pen c.is_latest.new.reader c.is_latest.ensures.pen
    (learns_as c.args.cells.now c.args.pen.now c.args.reader.now c.args.reads.now c.requires.read c.loop-place.pen c.loop-place.reader
    (drop place c.args.reads.now) c.loop-place.seen c.loop-place.invariant e.0 e.1 (drop (place + 1) c.args.reads.now) steps
    c.seen-record.result.0 c.seen-record.result.1 (c.seen-record.ensures _).0 (c.seen-record.ensures _).1 c.is_latest.new.reader c.is_latest.ensures.reader)

pub returns-then-not-is_latest-clause-latest : goal.returns-then-not-is_latest-clause-latest
returns-then-not-is_latest-clause-latest g c =
    let place = c.loop-place.place in
    let e = entry c.args.reads.now place in
    let inside = subst (λ n. place < n) c.len-place-end.ensures.len c.loop-place-test.true in
    let steps = drop_more c.args.reads.now place _ inside in
    conflict c.args.cells.now c.args.pen.now c.args.reader.now c.args.reads.now c.requires.read c.loop-place.pen c.loop-place.reader
    (drop place c.args.reads.now) c.loop-place.seen c.loop-place.invariant e.0 e.1 (drop (place + 1) c.args.reads.now) steps
    c.is_latest.new.pen c.is_latest.new.reader c.is_latest.ensures.pen
    (learns_as c.args.cells.now c.args.pen.now c.args.reader.now c.args.reads.now c.requires.read c.loop-place.pen c.loop-place.reader
    (drop place c.args.reads.now) c.loop-place.seen c.loop-place.invariant e.0 e.1 (drop (place + 1) c.args.reads.now) steps
    c.seen-record.result.0 c.seen-record.result.1 (c.seen-record.ensures _).0 (c.seen-record.ensures _).1 c.is_latest.new.reader c.is_latest.ensures.reader)
    (other_as c.args.cells.now c.args.pen.now c.args.reader.now c.args.reads.now c.requires.read c.loop-place.pen c.loop-place.reader
    (drop place c.args.reads.now) c.loop-place.seen c.loop-place.invariant e.0 e.1 (drop (place + 1) c.args.reads.now) steps
    c.seen-record.result.0 c.seen-record.result.1 (c.seen-record.ensures _).0 (c.seen-record.ensures _).1 (c.if-not-is_latest.ensures.latest e.1.payload
    (has c.args.cells.now c.args.pen.now c.args.reader.now c.args.reads.now c.requires.read c.loop-place.pen c.loop-place.reader
    (drop place c.args.reads.now) c.loop-place.seen c.loop-place.invariant e.0 e.1 (drop (place + 1) c.args.reads.now) steps
    c.seen-record.result.0 c.seen-record.result.1 (c.seen-record.ensures _).0 (c.seen-record.ensures _).1)))

pub loop-place-preserved : goal.loop-place-preserved
loop-place-preserved g c =
    let place = c.loop-place.place in
    let e = entry c.args.reads.now place in
    let inside = subst (λ n. place < n) c.len-place-end.ensures.len c.loop-place-test.true in
    let steps = drop_more c.args.reads.now place _ inside in
    goes_on c.args.cells.now c.args.pen.now c.args.reader.now c.args.reads.now c.requires.read c.loop-place.pen c.loop-place.reader
    (drop place c.args.reads.now) c.loop-place.seen c.loop-place.invariant e.0 e.1 (drop (place + 1) c.args.reads.now) steps
    c.is_latest.new.pen c.is_latest.new.reader c.is_latest.ensures.pen
    (learns_as c.args.cells.now c.args.pen.now c.args.reader.now c.args.reads.now c.requires.read c.loop-place.pen c.loop-place.reader
    (drop place c.args.reads.now) c.loop-place.seen c.loop-place.invariant e.0 e.1 (drop (place + 1) c.args.reads.now) steps
    c.seen-record.result.0 c.seen-record.result.1 (c.seen-record.ensures _).0 (c.seen-record.ensures _).1 c.is_latest.new.reader c.is_latest.ensures.reader)
    (latest_as c.args.cells.now c.args.pen.now c.args.reader.now c.args.reads.now c.requires.read c.loop-place.pen c.loop-place.reader
    (drop place c.args.reads.now) c.loop-place.seen c.loop-place.invariant e.0 e.1 (drop (place + 1) c.args.reads.now) steps
    c.seen-record.result.0 c.seen-record.result.1 (c.seen-record.ensures _).0 (c.seen-record.ensures _).1 (c.if-not-is_latest.ensures.latest e.1.payload
    (has c.args.cells.now c.args.pen.now c.args.reader.now c.args.reads.now c.requires.read c.loop-place.pen c.loop-place.reader
    (drop place c.args.reads.now) c.loop-place.seen c.loop-place.invariant e.0 e.1 (drop (place + 1) c.args.reads.now) steps
    c.seen-record.result.0 c.seen-record.result.1 (c.seen-record.ensures _).0 (c.seen-record.ensures _).1)))
    c.max-seen.result (c.max-seen.ensures ∙ ap (λ n. max n c.loop-place.seen) (c.word.ensures ∙ c.tid.ensures ∙ ap tid_of (c.seen-record.ensures _).1))

pub returns-clause-pen : goal.returns-clause-pen
returns-clause-pen g c = c.loop-place.invariant.same

pub returns-clause-reader : goal.returns-clause-reader
returns-clause-reader g c = c.loop-place.invariant.grown

pub returns-clause-latest : goal.returns-clause-latest
returns-clause-latest g c = (
  all_latest c.args.pen.now c.args.reader.now c.args.reads.now c.loop-place.pen c.loop-place.reader (drop c.loop-place.place c.args.reads.now)
      c.loop-place.seen
      c.loop-place.invariant (drop_of_length-le c.args.reads.now (subst (λ n. n ≤ c.loop-place.place) c.len-place-end.ensures.len c.loop-place-test.false)),
  c.new.ensures ∙ all_greatest c.args.pen.now c.args.reader.now c.args.reads.now c.loop-place.pen c.loop-place.reader
      (drop c.loop-place.place c.args.reads.now)
      c.loop-place.seen c.loop-place.invariant (drop_of_length-le c.args.reads.now (subst (λ n. n ≤ c.loop-place.place) c.len-place-end.ensures.len c.loop-place-test.false)),
  subst (IsRead c.args.reads.now) (sym c.new.ensures) c.loop-place.invariant.is_read,
)
