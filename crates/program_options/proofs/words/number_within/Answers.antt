use Rattle.std.proofs.Common.{rules}
use Rattle.clap.specs.Words.{found_of, one_of, rows_of}
use Rattle.program_options.specs.CommandLine.{WritesNumber}
use Rattle.program_options.proofs.Reading.{written}
use Rattle.program_options.proofs.words.number_within.Goals as goal

pub returns-then-number-limits-clause-written : goal.returns-then-number-limits-clause-written
returns-then-number-limits-clause-written c =
    let found = found_of c.args.given.now in
    let read = c.in_ok-number.ensures.read in
    let number : WritesNumber 32 (one_of c.args.name.now (rows_of found)) c.in_ok-number.number = written 32 found c.args.name.now _ _ read.1 read.2.0 in
    search rules
