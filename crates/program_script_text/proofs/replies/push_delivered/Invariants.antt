use Rattle.std.proofs.Common.{◌*◌, take}
use Rattle.program_script_text.specs.Output.{delivered_text}
use Rattle.program_script_text.specs.Room.{Pushes}
use Rattle.program_script_text.specs.declared.replies.TheConstants.{LINE_ROOM}
use Rattle.program_script_text.proofs.replies.push_delivered.Given as goal

-- the orders so far are written, within their room
abbrev pub invariant-loop-delivered : goal.invariant-loop-delivered
invariant-loop-delivered l = Pushes l.fn.out l.out (delivered_text (take l.delivered-index l.orders)) (LINE_ROOM * l.delivered-index)
