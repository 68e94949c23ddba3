use Rattle.std.proofs.Common.{arith}
use Rattle.customer_data.proofs.Packed.{words_read}
use Rattle.customer_data.proofs.words.words_at.Goals as goal

pub returns : goal.returns
returns c =
    let read = c.read_u64_into in
    words_read 63 c.args.bytes.now read.new.dst (omega (arith, read.auto.dst)) read.ensures
