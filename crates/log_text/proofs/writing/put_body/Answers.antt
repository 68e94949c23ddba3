use Rattle.std.proofs.Common.{ap, arith, length, length-append}
use Rattle.log_codec.specs.Numbers.{number}
use Rattle.log_codec.proofs.NumberTexts.{length-number}
use Rattle.log_text.specs.Bodies.{body_of, content_text}
use Rattle.log_text.proofs.writing.put_body.Goals as goal

pub set_length-requires : goal.set_length-requires
set_length-requires c =
    omega (
      arith,
      ap length c.as_mut_slice.ensures.value,
      ap length c.in_ok-put_content.ensures,
      ap length c.in_ok-put_u64.ensures.ok,
      c.len-start.ensures,
      length-append c.put_u64.new.out.items (content_text (body_of c.args.body.now)),
      length-append c.args.out.now.items (number 8 0),
      length-number 8 0,
    )
