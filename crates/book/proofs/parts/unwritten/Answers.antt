use Rattle.std.proofs.Common.{◌++◌, List, length, ap, ◌∙◌}
use Rattle.tables.specs.Database.{database}
use Rattle.cells.specs.First.{firsts, wide_firsts}
use Rattle.cells.specs.Records.{PenView, at}
use Rattle.cells.specs.declared.wide.WideNewest.{WideNewest}
use Rattle.encoding.proofs.Positions.{at_begin, count_begin}
use Rattle.book.proofs.parts.unwritten.Goals as goal

pub returns-clause-records : goal.returns-clause-records
returns-clause-records g c =
    let t = database c.args.tables.now in
    let first = c.in_ok-first.ensures in
    let texts = c.in_ok-texts.ensures in
    let made = c.in_ok-cells.ensures in
    record {
      cells = ap (λ (w : PenView). w.cells) made.pen;
      count = record { narrow = made.cells.0 ∙ first.count; wide = made.cells.1 ∙ ap length texts ∙ count_begin t c.requires.well_formed };
      versions = λ n h. ap (λ (w : PenView). at w.all n) made.pen
          ∙ ap (λ (l : List WideNewest). at (firsts c.in_ok-first.first ++ wide_firsts l) n) texts
          ∙ at_begin t c.requires.well_formed c.in_ok-first.first first n h;
      readers = made.readers.1;
      as_many = made.readers.0;
    }
