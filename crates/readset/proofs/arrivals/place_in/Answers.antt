use Rattle.std.proofs.Common.{◌∙◌}
use Rattle.readset.proofs.Ordered.{is_listed, ordered_keys, ordered_place}
use Rattle.readset.proofs.arrivals.place_in.Goals as goal

pub place_of-requires-else-is_empty : goal.place_of-requires-else-is_empty
place_of-requires-else-is_empty g c = ordered_keys c.args.entries.now c.args.order.now (is_listed _ _ c.is_empty.ensures c.if-is_empty.false) c.requires

pub returns-else-is_empty : goal.returns-else-is_empty
returns-else-is_empty g c = c.place_of-else-is_empty.ensures ∙ ordered_place c.args.entries.now c.args.order.now c.args.number (is_listed _ _ c.is_empty.ensures c.if-is_empty.false) c.requires
