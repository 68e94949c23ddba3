use Rattle.std.proofs.Common.{◌≡◌, Err, List, [], ◌++◌, map, ℕ, ◌∙◌, sym, ap, subst, rules}
use Rattle.program_script_text.specs.Words.{words}
use Rattle.program_script_text.specs.Requests.{line_word}
use Rattle.program_script_text.specs.OrderWords.{AreNoLines}
use Rattle.program_script_text.proofs.OrderLines.{no_lines, unread_whole}
use Rattle.program_script_text.proofs.order_words.read_lines.Goals as goal

pub returns-in_err-push_line-clause-words : goal.returns-in_err-push_line-clause-words
returns-in_err-push_line-clause-words c =
    let before = map line_word c.loop-word.lines.items in
    let is : c.from_residual-in_err-push_line.result ≡ Err c.in_err-push_line.field-0.0 = search rules in
    let whole = c.loop-word.invariant.0 ∙ ap (λ (ws : List (List ℕ)). before ++ ws) c.in-Some.ensures.parts in
    rw is (unread_whole _ (λ wrong. subst AreNoLines (sym whole) (no_lines before c.in-Some.word.now (words c.in-Some.more.now) wrong))
    c.in_err-push_line.ensures.word)

pub returns-in_err-push_line-2-clause-words : goal.returns-in_err-push_line-2-clause-words
returns-in_err-push_line-2-clause-words c =
    let before = map line_word c.loop-word.lines.items in
    let is : c.from_residual-in_err-push_line-2.result ≡ Err c.in_err-push_line-2.field-0.0 = search rules in
    let whole = c.loop-word.invariant.0 ∙ ap (λ (ws : List (List ℕ)). before ++ ws) c.in_default.ensures.parts in
    rw is (unread_whole _ (λ wrong. subst AreNoLines (sym whole) (no_lines before c.loop-word.rest.now [] wrong)) c.in_err-push_line-2.ensures.word)
