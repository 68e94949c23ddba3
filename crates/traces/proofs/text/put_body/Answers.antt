use Rattle.std.proofs.Common.{flat_map, map, length, ap, arith, length-append}
use Rattle.std.specs.Arc.{arc_value}
use Rattle.log_codec.specs.Numbers.{number}
use Rattle.log_codec.proofs.NumberTexts.{length-number}
use Rattle.log_text.specs.Entries.{entry_text}
use Rattle.book.specs.Streams.{stream}
use Rattle.log_entries.specs.Logged.{logged_entry}
use Rattle.traces.proofs.text.put_body.Goals as goal

pub set_length-requires : goal.set_length-requires
set_length-requires c =
    omega (
      arith,
      c.as_mut_slice.ensures.len,
      ap length c.as_mut_slice.ensures.value,
      ap length c.in_ok-put_stream.ensures,
      ap length c.in_ok-put_u64-2.ensures.ok,
      ap length c.in_ok-put_u64.ensures.ok,
      c.len-start.ensures,
      length-append c.put_u64-2.new.out.items (flat_map entry_text (map (logged_entry c.args.scale.now) (stream c.args.loggers c.args.logger (map arc_value c.args.entries.now)))),
      length-append c.put_u64.new.out.items (number 8 c.args.mark),
      length-append c.args.out.now.items (number 8 0),
      length-number 8 0,
    )
