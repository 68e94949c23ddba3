use Rattle.std.proofs.Common.{ℕ, Option, subst, arith}
use Rattle.memchr.specs.Find.{IsFirstByte, is_byte}
use Rattle.program_script_text.proofs.Marks.{lacks_at, parts_none, parts_at}
use Rattle.program_script_text.proofs.cut.parted.Goals as goal

pub returns-in_err-end-clause-parts : goal.returns-in_err-end-clause-parts
returns-in_err-end-clause-parts c =
    let missing = subst (λ (o : Option ℕ). IsFirstByte (is_byte c.args.mark) c.args.text.now o) c.in_err-end.was c.requires in
    rw c.from_residual.ensures (parts_none c.args.mark c.args.text.now missing)

pub returns-clause-parts : goal.returns-clause-parts
returns-clause-parts c =
    let found = subst (λ (o : Option ℕ). IsFirstByte (is_byte c.args.mark) c.args.text.now o) c.in_ok-end.was c.requires in
    parts_at c.args.mark c.in_ok-end.end c.args.text.now found.0.high found.0.before found.1

pub returns-clause-lacks : goal.returns-clause-lacks
returns-clause-lacks c =
    let found = subst (λ (o : Option ℕ). IsFirstByte (is_byte c.args.mark) c.args.text.now o) c.in_ok-end.was c.requires in
    lacks_at c.args.mark c.in_ok-end.end c.args.text.now (omega (arith, found.0.high)) found.0.before
