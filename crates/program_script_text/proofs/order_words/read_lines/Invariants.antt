use Rattle.std.proofs.Common.{◌≡◌, ◌++◌, map, length}
use Rattle.std.specs.List.{All}
use Rattle.program_script_text.specs.Words.{words}
use Rattle.program_script_text.specs.Requests.{line_word, HasLineNumbers}
use Rattle.program_script_text.proofs.order_words.read_lines.Given as goal

-- the words of the lines that were read, and those of what is left; and the numbers of those lines
abbrev pub invariant-loop-word : goal.invariant-loop-word
invariant-loop-word l = (words l.fn.text ≡ map line_word l.lines.items ++ words l.rest) × All HasLineNumbers l.lines.items

abbrev pub decreases-loop-word : goal.decreases-loop-word
decreases-loop-word l = length l.rest
