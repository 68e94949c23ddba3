use Rattle.std.proofs.Common.{◌≡◌, ◌<◌, length, take, Err, inr, arith, rules, subst, sym, ◌∙◌, refl}
use Rattle.std.specs.Io.KnownBytes.{Consumes}
use Rattle.program_script.specs.Answered.{standing_of}
use Rattle.program_script.proofs.Progress.{on_err, on_ok_of_err, refusal_of, begun_here, begun_write, begun_after, reached_more, reached_end, many_reached, many_at_end}
use Rattle.program_script.proofs.Told.{told_on}
use Rattle.program_script.proofs.running.Desk.answer_all.Goals as goal

pub loop-preserved : goal.loop-preserved
loop-preserved g c = (
  λ bytes left start. reached_more g.K.Run.run.first bytes _ _ _ _ _ (standing_of c.loop.self) (standing_of c.write.new.self)
      (standing_of c.answer_lines.new.self) _ (c.loop.invariant.0 bytes left start) c.in_ok-write.ensures.ok c.in_ok-count.ensures.bytes
      c.in_ok-answer_lines.ensures.ok,
  told_on (g.H.Hints.told c.args.hints.now) (g.H.Hints.told c.loop.hints) (g.H.Hints.told c.answer_lines.new.hints) c.loop.invariant.1
      c.in_ok-answer_lines.ensures.told,
)

pub returns-in_err-write-clause-beginning : goal.returns-in_err-write-clause-beginning
returns-in_err-write-clause-beginning g c =
    on_err _ c.from_residual.result
    (λ bytes left start. begun_write g.K.Run.run.first bytes _ _ _ _ (standing_of c.loop.self) (c.loop.invariant.0 bytes left start) c.in_err-write.ensures.err)

pub returns-in_err-count-clause-beginning : goal.returns-in_err-count-clause-beginning
returns-in_err-count-clause-beginning g c =
    on_err _ c.from_residual-in_err-count.result
    (λ bytes left start. begun_after g.K.Run.run.first bytes _ _ _ _ (standing_of c.loop.self) (standing_of c.write.new.self)
    (c.loop.invariant.0 bytes left start) c.in_ok-write.ensures.ok)

pub returns-in_err-answer_last : goal.returns-in_err-answer_last
returns-in_err-answer_last g c =
    let result = c.from_residual-in_err-answer_last.result in
    let refusal = c.in_err-answer_last.field-0.0 in
    let is : result ≡ Err refusal = search rules in
    let some : 0 < length c.read_piece.new.piece = omega arith in
    let none = subst (λ n. Consumes (g.R.Read.remaining c.loop.reader) (g.R.Read.remaining c.read_piece.new.reader) (take n c.read_piece.new.piece))
    c.if-count-eq0.true c.in_ok-count.ensures.bytes in
    record {
      all = on_ok_of_err _ result refusal is;
      beginning = on_err _ result
          (λ bytes left start. begun_after g.K.Run.run.first bytes _ _ _ _ (standing_of c.loop.self) (standing_of c.write.new.self)
          (c.loop.invariant.0 bytes left start) c.in_ok-write.ensures.ok);
      too_many = λ bad bytes left start. many_at_end g.K.Run.run.first bytes _ _ _ _ _ (standing_of c.loop.self) (standing_of c.write.new.self)
          (c.loop.invariant.0 bytes left start) c.in_ok-write.ensures.ok none (c.in_ok-count.ensures.end c.if-count-eq0.true some)
          (c.in_err-answer_last.ensures.too_many (sym is ∙ bad));
      refusals = refusal_of result refusal is c.in_err-answer_last.ensures.refusals;
      told = told_on (g.H.Hints.told c.args.hints.now) (g.H.Hints.told c.loop.hints) (g.H.Hints.told c.answer_last.new.hints) c.loop.invariant.1
          c.in_err-answer_last.ensures.told;
    }

pub returns-then-count-eq0 : goal.returns-then-count-eq0
returns-then-count-eq0 g c =
    let some : 0 < length c.read_piece.new.piece = omega arith in
    let none = subst (λ n. Consumes (g.R.Read.remaining c.loop.reader) (g.R.Read.remaining c.read_piece.new.reader) (take n c.read_piece.new.piece))
    c.if-count-eq0.true c.in_ok-count.ensures.bytes in
    record {
      all = λ bytes left start. reached_end g.K.Run.run.first bytes _ _ _ _ _ (standing_of c.loop.self) (standing_of c.write.new.self)
          (standing_of c.answer_last.new.self) (c.loop.invariant.0 bytes left start) c.in_ok-write.ensures.ok none
          (c.in_ok-count.ensures.end c.if-count-eq0.true some) c.in_ok-answer_last.ensures.ok;
      beginning = tt;
      too_many = λ bad bytes left start. absurd (cc bad);
      refusals = tt;
      told = told_on (g.H.Hints.told c.args.hints.now) (g.H.Hints.told c.loop.hints) (g.H.Hints.told c.answer_last.new.hints) c.loop.invariant.1
          c.in_ok-answer_last.ensures.told;
    }

pub returns-in_err-answer_lines : goal.returns-in_err-answer_lines
returns-in_err-answer_lines g c =
    let result = c.from_residual-in_err-answer_lines.result in
    let refusal = c.in_err-answer_lines.field-0.0 in
    let is : result ≡ Err refusal = search rules in
    record {
      all = on_ok_of_err _ result refusal is;
      beginning = on_err _ result
          (λ bytes left start. begun_after g.K.Run.run.first bytes _ _ _ _ (standing_of c.loop.self) (standing_of c.write.new.self)
          (c.loop.invariant.0 bytes left start) c.in_ok-write.ensures.ok);
      too_many = λ bad bytes left start. many_reached g.K.Run.run.first bytes _ _ _ _ _ (standing_of c.loop.self) (standing_of c.write.new.self) _
          (c.loop.invariant.0 bytes left start) c.in_ok-write.ensures.ok c.in_ok-count.ensures.bytes (c.in_err-answer_lines.ensures.too_many (sym is ∙ bad));
      refusals = refusal_of result refusal is c.in_err-answer_lines.ensures.refusals;
      told = told_on (g.H.Hints.told c.args.hints.now) (g.H.Hints.told c.loop.hints) (g.H.Hints.told c.answer_lines.new.hints) c.loop.invariant.1
          c.in_err-answer_lines.ensures.told;
    }

pub returns : goal.returns
returns g c = record {
  all = tt;
  beginning = λ bytes left start. begun_here g.K.Run.run.first bytes _ _ _ (standing_of c.loop.self) (c.loop.invariant.0 bytes left start);
  too_many = λ bad bytes left start. absurd (cc bad);
  refusals = inr (inr refl);
  told = c.loop.invariant.1;
}
