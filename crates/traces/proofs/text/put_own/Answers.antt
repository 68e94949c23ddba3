use Rattle.std.proofs.Common.{◌≡◌, ◌%◌, List, ℕ, ◌++◌, sym, ap, ◌∙◌, subst}
use Rattle.std.specs.Prelude.{OnOk}
use Rattle.traces.proofs.Texts.{own_text}
use Rattle.traces.proofs.text.put_own.Goals as goal

pub returns : goal.returns
returns c =
    let own : c.args.entry.now.terminal % c.args.loggers ≡ c.args.logger
    = ap (λ (n : ℕ). n % c.args.loggers) (sym c.from.ensures) ∙ c.if-from-loggers.false in
    subst (λ (text : List ℕ). OnOk c.put_entry.result (c.put_entry.new.out.items ≡ c.args.out.now.items ++ text))
    (sym (own_text c.args.scale.now c.args.loggers c.args.logger c.args.entry.now own)) c.put_entry.ensures
