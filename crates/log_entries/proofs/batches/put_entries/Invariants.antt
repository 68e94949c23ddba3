use Rattle.std.proofs.Common.{◌≡◌, ◌++◌, drop, map}
use Rattle.std.specs.Prelude.{flat_map}
use Rattle.std.specs.Arc.{arc_value}
use Rattle.log_text.specs.Entries.{entry_text}
use Rattle.book.specs.Streams.{last_number}
use Rattle.log_entries.specs.Logged.{logged_entry}
use Rattle.log_entries.specs.Following.{last_epoch_of}
use Rattle.log_entries.proofs.batches.put_entries.Given as goal

abbrev pub invariant-loop-entry : goal.invariant-loop-entry
invariant-loop-entry l =
    let left = drop l.entry-index l.entries in
    (l.out.items ++ flat_map entry_text (map (logged_entry l.scale) (map arc_value left))
    ≡ l.fn.out.items ++ flat_map entry_text (map (logged_entry l.scale) (map arc_value l.entries)))
    × (l.now.mark ≡ l.fn.last.mark)
    × (last_number l.number (map arc_value left) ≡ last_number l.fn.before (map arc_value l.entries))
    × (last_epoch_of l.now.epoch (map arc_value left) ≡ last_epoch_of l.fn.last.epoch (map arc_value l.entries))
