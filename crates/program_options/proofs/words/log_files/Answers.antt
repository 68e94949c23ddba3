use Rattle.std.proofs.Common.{codes}
use Rattle.clap.specs.Words.{found_of}
use Rattle.program_options.proofs.Reading.{written}
use Rattle.program_options.proofs.words.log_files.Goals as goal

pub returns-clause-written : goal.returns-clause-written
returns-clause-written c =
    let loggers = c.in_ok-value_of.ensures.read in
    record {
      folder = c.in_ok-folder_given.ensures.given;
      loggers = written 32 (found_of c.args.given.now) (codes "loggers") _ _ loggers.1 loggers.2.0;
    }
