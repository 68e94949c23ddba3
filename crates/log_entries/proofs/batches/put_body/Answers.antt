use Rattle.std.proofs.Common.{flat_map, map, length, ap, arith, length-append}
use Rattle.log_codec.specs.Numbers.{number}
use Rattle.log_codec.proofs.NumberTexts.{length-number}
use Rattle.log_text.specs.Entries.{entry_text}
use Rattle.log_entries.specs.Logged.{logged_entry}
use Rattle.log_entries.proofs.batches.put_body.Goals as goal

pub set_length-requires : goal.set_length-requires
set_length-requires c =
    let first = ap length c.in_ok-put_u64.ensures.ok in
    omega (
      arith,
      c.as_mut_slice.ensures.len,
      ap length c.as_mut_slice.ensures.value,
      ap length c.in_ok-last.ensures.text,
      ap length c.in_ok-put_u64-2.ensures.ok,
      first,
      c.len-start.ensures,
      length-append c.put_u64-2.new.out.items (flat_map entry_text (map (logged_entry c.scale-scale.result) (map Rattle.std.specs.Arc.arc_value c.entries.result.now))),
      length-append c.put_u64.new.out.items (number 8 c.mark-mark.result),
      length-append c.args.out.now.items (number 8 0),
      length-number 8 0,
    )
