use Rattle.commit.proofs.Locked.{are_sections}
use Rattle.commit.proofs.sections.every_section_is_a_run.Goals as goal

pub returns : goal.returns
returns c = are_sections
