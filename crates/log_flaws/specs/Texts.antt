-- How a flaw of a log file is told.
use Rattle.std.specs.Prelude.{ℕ, List, ◌++◌, ◌==◌, Some, None, codes, if◌then◌else◌}
use Rattle.std.specs.Fmt.{decimal}
use Rattle.log_flaws.specs.Fields.{field_name}
use Rattle.log_flaws.specs.declared.field.HeaderField.{HeaderField}
use Rattle.log_flaws.specs.declared.field.HeaderField.TheVariants as field
use Rattle.log_flaws.specs.declared.flaw.FileFlaw.{FileFlaw}
use Rattle.log_flaws.specs.declared.flaw.FileFlaw.TheVariants.{TooShort, NoHeader, OtherHeader, NoGate, NoBody, NoVoid}
use Rattle.log_flaws.specs.declared.flaw.FileFlaw.TheVariants.{NewerVersion, EndsInside}
use Rattle.log_flaws.specs.declared.voids.VoidFlaw.{VoidFlaw}
use Rattle.log_flaws.specs.declared.voids.VoidFlaw.TheVariants as void

abbrev pub void_flaw_text : VoidFlaw → List ℕ
void_flaw_text void.OtherLength = codes "its length isn't 25"
void_flaw_text void.BeginsAtZero = codes "it begins at epoch 0"
void_flaw_text void.EndsTooEarly = codes "it begins behind its end"
void_flaw_text void.EndsTooLate = codes "it ends behind epoch 4294967294"
void_flaw_text void.EndsBeforeOthers = codes "it ends before a mark or an epoch in front of it"

-- `--items 21, but DIR/log-0 is of 20`: a number that an option asks for, and the one in the header of the file of this
-- path; what no option names is told of the file, whose version is to be the first file's
abbrev pub header_line : List ℕ → HeaderField → ℕ → ℕ → List ℕ
header_line path field.Version found asked =
    path ++ (codes ": it is of version " ++ (decimal found ++ (codes ", and log-0 is of " ++ decimal asked)))
header_line path field.Logger found asked = path ++ (codes " is the file of logger " ++ decimal found)
header_line path f found asked =
    field_name f ++ (codes " " ++ (decimal asked ++ (codes ", but " ++ (path ++ (codes " is of " ++ decimal found)))))

-- what is told of the file of this path that has this flaw
abbrev pub flaw_line : List ℕ → FileFlaw → List ℕ
flaw_line path (NewerVersion n) =
    path ++ (codes ": it is of version " ++ (decimal n ++ codes ", which this program doesn't know"))
flaw_line path (TooShort n) = if n == 0 then path ++ codes ": it is empty"
    else path ++ (codes ": it has " ++ (decimal n ++ codes " bytes, and a header has 48"))
flaw_line path NoHeader = path ++ codes ": bytes 0 to 47 are no header of a log file"
flaw_line path (OtherHeader f found asked) = header_line path f found asked
flaw_line path (NoGate at) =
    path ++ (codes ": it ends at byte " ++ (decimal at ++ codes ", where a gate is to stand"))
flaw_line path (EndsInside size at None) = path ++ (codes ": it ends at byte " ++ (decimal size
    ++ (codes ", inside the body at byte " ++ decimal at)))
flaw_line path (EndsInside size at (Some end)) = path ++ (codes ": it ends at byte " ++ (decimal size
    ++ (codes ", inside the body at byte " ++ (decimal at ++ (codes ", which would end at byte " ++ decimal end)))))
flaw_line path (NoBody at) =
    path ++ (codes ": the body at byte " ++ (decimal at ++ codes " isn't one that may stand there"))
flaw_line path (NoVoid at why) = path ++ (codes ": the void body at byte " ++ (decimal at
    ++ (codes " isn't one that may stand there: " ++ void_flaw_text why)))
