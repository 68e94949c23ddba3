use Rattle.traces.proofs.Events.{events_of}
use Rattle.traces.proofs.laws.each_beginning_is_a_list_of_events.Goals as goal

pub returns : goal.returns
returns c = events_of
