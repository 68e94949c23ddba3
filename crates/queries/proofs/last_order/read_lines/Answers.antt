use Rattle.std.proofs.Common.{◌++◌, ◌+◌, sym, ◌∙◌, arith}
use Rattle.std.specs.Option.{option_to_list}
use Rattle.readset.proofs.UnderWay.{reads_twice, candidate_still}
use Rattle.queries.proofs.LinesByNumber.{lines_next}
use Rattle.queries.proofs.last_order.read_lines.Goals as goal

pub loop-done-preserved : goal.loop-done-preserved
loop-done-preserved g c =
    let i = c.loop-done.invariant in
    let more = c.read_line.ensures.reads in
    record {
      lines = λ t h.
          lines_next t c.args.key c.loop-done.done
          ∙ (λ j. i.lines t (candidate_still g.K.Start.tables c.loop-done.transaction c.read_line.new.transaction 1 more t h) j
          ++ option_to_list (c.in_ok-line.ensures.line t h j))
          ∙ sym c.in_ok-push_line.ensures;
      reads = reads_twice c.args.transaction.now c.loop-done.transaction c.read_line.new.transaction c.loop-done.done 1 (c.loop-done.done + 1) i.reads more
          (omega arith);
    }
