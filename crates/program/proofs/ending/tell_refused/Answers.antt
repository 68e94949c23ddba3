use Rattle.std.proofs.Common.{List, ℕ, [], ◌++◌, refl, sym, subst, append-nil}
use Rattle.program.specs.Status.{refusal_line, WritesBeginning}
use Rattle.program.proofs.Beginnings.{broken_off, begins_longer, both_written}
use Rattle.program.proofs.ending.tell_refused.Goals as goal

pub returns : goal.returns
returns g c =
    let begun : List ℕ → Type 0 = λ detail. WritesBeginning (refusal_line c.args.refusal ++ detail) (g.E.Write.contents c.args.errors.now)
    (g.E.Write.contents c.write_text.new.writer) in
    subst begun c.as_bytes.ensures.value
    (both_written (g.E.Write.contents c.args.errors.now) (g.E.Write.contents c.write_refusal.new.errors) (g.E.Write.contents c.write_text.new.writer)
    (refusal_line c.args.refusal) c.as_bytes.result.now c.in_ok-write_refusal.ensures.whole c.in_ok-write_text.ensures.ok)

pub returns-in_err-write_refusal : goal.returns-in_err-write_refusal
returns-in_err-write_refusal g c =
    begins_longer (refusal_line c.args.refusal) c.args.detail.now (g.E.Write.contents c.args.errors.now) (g.E.Write.contents c.write_refusal.new.errors)
    (c.in_err-write_refusal.ensures.beginning refl)

pub returns-in_err-write_text : goal.returns-in_err-write_text
returns-in_err-write_text g c =
    let begun : List ℕ → Type 0 = λ detail. WritesBeginning (refusal_line c.args.refusal ++ detail) (g.E.Write.contents c.args.errors.now)
    (g.E.Write.contents c.write_text.new.writer) in
    subst begun c.as_bytes.ensures.value
    (broken_off (g.E.Write.contents c.args.errors.now) (g.E.Write.contents c.write_refusal.new.errors) (g.E.Write.contents c.write_text.new.writer)
    (refusal_line c.args.refusal ++ c.as_bytes.result.now) (refusal_line c.args.refusal) c.as_bytes.result.now []
    (sym (append-nil _)) c.in_ok-write_refusal.ensures.whole c.in_err-write_text.ensures.err)
