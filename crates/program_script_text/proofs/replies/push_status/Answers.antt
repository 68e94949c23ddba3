use Rattle.std.proofs.Common.{◌∷◌, [], ℕ, List, ap, arith, codes, drop, length, refl}
use Rattle.program_script_text.specs.Output.{told_word, last_words, balance_words}
use Rattle.program_script_text.proofs.Joined.{appended}
use Rattle.program_script_text.proofs.replies.push_status.Goals as goal

pub returns-in-Some : goal.returns-in-Some
returns-in-Some c =
    let order = c.in-Some.order in
    rw c.in-Some.is
    record {
      text = appended told_word (codes "status") (drop 1 (last_words c.args.reply.now order)) order.lines _ _ _ _
          c.push_last_head.ensures.text c.as_slice.ensures c.push_told.ensures.text;
      len = omega (arith, ap length c.as_slice.ensures);
      capacity = omega arith;
    }

pub returns-in-None : goal.returns-in-None
returns-in-None c =
    let none : List (List ℕ) = codes "none" ∷ [] in
    rw c.in-None.is
    record {
      text = appended (λ word. word) (codes "status") (drop 1 (balance_words c.args.reply.now)) none none _ _ _
          c.push_balance.ensures.text refl c.push_text.ensures.text;
      len = omega arith;
      capacity = omega arith;
    }
