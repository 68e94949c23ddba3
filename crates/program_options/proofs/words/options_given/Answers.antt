use Rattle.std.proofs.Common.{codes}
use Rattle.clap.specs.Words.{found_of}
use Rattle.program_options.proofs.Reading.{written}
use Rattle.program_options.proofs.words.options_given.Goals as goal

pub returns-clause-written : goal.returns-clause-written
returns-clause-written c =
    let found = found_of c.args.given.now in
    let warehouses = c.in_ok-value_of.ensures.read in
    let districts = c.in_ok-value_of-2.ensures.read in
    let customers = c.in_ok-value_of-3.ensures.read in
    let items = c.in_ok-value_of-4.ensures.read in
    let orders = c.in_ok-value_of-5.ensures.read in
    let commits = c.in_ok-value_of-6.ensures.read in
    let population = c.in_ok-value_of-7.ensures.read in
    record {
      warehouses = written 32 found (codes "warehouses") _ _ warehouses.1 warehouses.2.0;
      districts = written 32 found (codes "districts") _ _ districts.1 districts.2.0;
      customers = written 32 found (codes "customers") _ _ customers.1 customers.2.0;
      items = written 32 found (codes "items") _ _ items.1 items.2.0;
      orders = written 32 found (codes "orders") _ _ orders.1 orders.2.0;
      commits = written 32 found (codes "commits") _ _ commits.1 commits.2.0;
      population = written 64 found (codes "population") _ _ population.1 population.2.0;
    }
