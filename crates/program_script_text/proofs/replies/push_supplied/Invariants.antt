use Rattle.std.proofs.Common.{◌*◌, take}
use Rattle.program_script_text.specs.Output.{supplied_text}
use Rattle.program_script_text.specs.Room.{Pushes}
use Rattle.program_script_text.specs.declared.replies.TheConstants.{LINE_ROOM}
use Rattle.program_script_text.proofs.replies.push_supplied.Given as goal

-- the lines so far are written, within their room
abbrev pub invariant-loop-line : goal.invariant-loop-line
invariant-loop-line l = Pushes l.fn.out l.out (supplied_text (take l.line-index l.lines)) (LINE_ROOM * l.line-index)
