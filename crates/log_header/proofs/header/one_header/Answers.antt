use Rattle.log_codec.proofs.Codecs.{one_value}
use Rattle.log_header.proofs.Headers.{codec-header}
use Rattle.log_header.proofs.header.one_header.Goals as goal

pub returns : goal.returns
returns c g h a b is_g is_h e = one_value codec-header g h a b is_g is_h e
