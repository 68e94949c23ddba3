use Rattle.std.proofs.Common.{codes}
use Rattle.clap.specs.Words.{found_of}
use Rattle.program_options.proofs.Reading.{flag_written}
use Rattle.program_options.proofs.script_words.script_options.Goals as goal

pub returns-clause-written : goal.returns-clause-written
returns-clause-written c =
    let explain = c.in_ok-explain.ensures.read in
    flag_written (found_of c.args.given.now) (codes "explain") _ _ explain.1 explain.2
