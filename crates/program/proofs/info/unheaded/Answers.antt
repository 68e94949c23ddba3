use Rattle.std.proofs.Common.{refl}
use Rattle.std.proofs.KnownBytes.{Appends-nil}
use Rattle.program_files.specs.Headless.{IsWhyHeadless}
use Rattle.program.specs.Info.{headless, unread}
use Rattle.program_files.specs.declared.header.Headless.TheVariants as why
use Rattle.program.proofs.info.unheaded.Goals as goal

pub returns-in-Unread : goal.returns-in-Unread
returns-in-Unread c = λ old.
    let is : IsWhyHeadless (why.Unread c.in-Unread.trouble) = rw c.in-Unread.is at c.requires in
    unread c.in-Unread.trouble is refl refl (Appends-nil old)

pub returns-in-Flawed : goal.returns-in-Flawed
returns-in-Flawed c = λ old.
    let is : IsWhyHeadless (why.Flawed c.in-Flawed.flaw) = rw c.in-Flawed.is at c.requires in
    headless is.0 c.in-Flawed.flaw is.1 refl refl (Appends-nil old)
