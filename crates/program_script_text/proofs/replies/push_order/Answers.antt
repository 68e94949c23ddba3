use Rattle.std.proofs.Common.{ap, arith, codes, drop, length}
use Rattle.program_script_text.specs.Output.{supplied_word, head_words}
use Rattle.program_script_text.proofs.Joined.{appended}
use Rattle.program_script_text.proofs.replies.push_order.Goals as goal

pub returns : goal.returns
returns c = record {
  text = appended supplied_word (codes "neworder") (drop 1 (head_words c.args.reply.now)) c.args.reply.now.lines _ _ _ _
      c.push_head.ensures.text c.as_slice.ensures c.push_supplied.ensures.text;
  len = omega (arith, ap length c.as_slice.ensures);
  capacity = omega arith;
}
