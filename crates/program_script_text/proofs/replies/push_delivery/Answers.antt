use Rattle.std.proofs.Common.{◌∷◌, [], ap, arith, codes, length}
use Rattle.std.specs.Fmt.{decimal}
use Rattle.program_script_text.specs.Output.{delivered_word}
use Rattle.program_script_text.proofs.Joined.{appended}
use Rattle.program_script_text.proofs.replies.push_delivery.Goals as goal

pub returns : goal.returns
returns c = record {
  text = appended delivered_word (codes "delivery") (decimal c.args.reply.now.warehouse ∷ []) c.args.reply.now.orders _ _ _ _
      c.push_field.ensures.text c.as_slice.ensures c.push_delivered.ensures.text;
  len = omega (arith, ap length c.as_slice.ensures);
  capacity = omega arith;
}
