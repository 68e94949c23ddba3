use Rattle.std.proofs.Common.{ap, ◌∙◌}
use Rattle.std.specs.List.{flat_map}
use Rattle.byteorder.specs.Endian.{little_bytes}
use Rattle.customer_data.proofs.Texts.{data_back}
use Rattle.customer_data.proofs.words.unpack.Goals as goal

pub returns-clause-text : goal.returns-clause-text
returns-clause-text c text is same = c.write_u64_into.ensures ∙ ap (flat_map (little_bytes 8)) same ∙ data_back text is
