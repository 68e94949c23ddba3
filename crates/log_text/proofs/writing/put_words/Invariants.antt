use Rattle.std.proofs.Common.{◌≡◌, ◌++◌, drop}
use Rattle.std.specs.Prelude.{flat_map}
use Rattle.log_codec.specs.Numbers.{number}
use Rattle.log_text.proofs.writing.put_words.Given as goal

abbrev pub invariant-loop-word : goal.invariant-loop-word
invariant-loop-word l = l.out.items ++ flat_map (number 8) (drop l.word-index l.words) ≡ l.fn.out.items ++ flat_map (number 8) l.words
