use Rattle.std.proofs.Common.{codes}
use Rattle.clap.specs.Words.{found_of}
use Rattle.program_options.proofs.Reading.{flag_written, written}
use Rattle.program_options.proofs.run_words.run_options.Goals as goal

pub returns-clause-written : goal.returns-clause-written
returns-clause-written c =
    let seed = c.in_ok-value_of.ensures.read in
    let resume = c.in_ok-value_of-2.ensures.read in
    record {
      folder = c.in_ok-folder_given.ensures.given;
      loggers = c.in_ok-number_within.ensures.written;
      terminals = c.in_ok-number_within-2.ensures.written;
      count = c.in_ok-number_within-3.ensures.written;
      seed = written 64 (found_of c.args.given.now) (codes "seed") _ _ seed.1 seed.2.0;
      resume = flag_written (found_of c.args.given.now) (codes "resume") _ _ resume.1 resume.2;
    }
