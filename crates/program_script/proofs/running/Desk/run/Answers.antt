use Rattle.std.proofs.Common.{◌≡◌, [], ◌++◌, Err, rules}
use Rattle.std.proofs.KnownBytes.{Appends-nil, Appends-trans}
use Rattle.program_script.proofs.Progress.{on_err, if_ok_of_err, if_err_of, if_ok_more, on_err_more, if_err_more, begun_none, report_refusal, report_not_many, bad_of}
use Rattle.program_script.proofs.running.Desk.run.Goals as goal

pub returns-in_err-piece-clause-beginning : goal.returns-in_err-piece-clause-beginning
returns-in_err-piece-clause-beginning g c =
    on_err _ c.from_residual.result (λ bytes left. ([], Appends-nil (g.W.Write.contents c.args.writer.now), begun_none (g.K.Run.run.first) bytes))

pub returns-in_err-answer_all : goal.returns-in_err-answer_all
returns-in_err-answer_all g c =
    let result = c.from_residual-in_err-answer_all.result in
    let refusal = c.in_err-answer_all.field-0.0 in
    let is : result ≡ Err refusal = search rules in
    let e = c.in_err-answer_all.ensures in
    let start = c.requires.start in
    record {
      whole = if_ok_of_err _ result refusal is;
      beginning = on_err _ result (λ bytes left. e.beginning bytes left start);
      too_many = λ bad bytes left. e.too_many (bad_of result refusal is bad) bytes left start;
      refusals = if_err_of _ result refusal is e.refusals;
      told = e.told;
    }

pub returns : goal.returns
returns g c =
    let e = c.close.ensures in
    record {
      whole = if_ok_more _ _ c.close.result (λ closed whole bytes left.
          let answered = c.in_ok-answer_all.ensures.all bytes left c.requires.start in
          let more = whole bytes answered.0 answered.2 in
          (answered.0 ++ more.0, Appends-trans _ _ _ answered.0 more.0 answered.1 more.1, more.2)) e.whole;
      beginning = on_err_more _ _ c.close.result (λ front bytes left.
          let answered = c.in_ok-answer_all.ensures.all bytes left c.requires.start in
          let more = front bytes answered.0 answered.2 in
          (answered.0 ++ more.0, Appends-trans _ _ _ answered.0 more.0 answered.1 more.1, more.2)) e.beginning;
      too_many = λ bad bytes left. absurd (report_not_many c.close.result e.refusals bad);
      refusals = if_err_more _ _ c.close.result report_refusal e.refusals;
      told = c.in_ok-answer_all.ensures.told;
    }
