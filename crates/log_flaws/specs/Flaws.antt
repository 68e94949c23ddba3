-- What keeps bytes from being the log file that was asked for.
use Rattle.std.specs.Prelude.{◌≡◌, ℕ, ◌+◌, ◌<◌, ◌≤◌, Option, None, Some, List, [], ◌∷◌, ◌++◌, find, length, map}
use Rattle.std.specs.Prelude.{nat_lt, if◌then◌else◌}
use Rattle.log_codec.specs.Numbers.{number_at}
use Rattle.log_header.specs.Header.{HeaderView, IsHeader, header_text}
use Rattle.log_text.specs.Bodies.{BodyView, bodies_after, body_of, start}
use Rattle.log_text.specs.File.{IsBody, IsFile, opened}
use Rattle.log_text.specs.declared.last.Last.{Last}
use Rattle.log_flaws.specs.Fields.{differs, number_in}
use Rattle.log_flaws.specs.Versions.{newer_version}
use Rattle.log_flaws.specs.Voids.{void_flaw}
use Rattle.log_flaws.specs.declared.field.TheConstants.{FIELDS}
use Rattle.log_flaws.specs.declared.field.HeaderField.{HeaderField}
use Rattle.log_flaws.specs.declared.flaw.FileFlaw.{FileFlaw}
use Rattle.log_flaws.specs.declared.flaw.FileFlaw.TheVariants.{TooShort, NoHeader, OtherHeader, NoGate, NoBody, NoVoid}
use Rattle.log_flaws.specs.declared.flaw.FileFlaw.TheVariants.{NewerVersion, EndsInside}
use Rattle.log_flaws.specs.declared.voids.VoidFlaw.{VoidFlaw}
use Rattle.log_flaws.specs.declared.examining.Examined.{Examined}
use Rattle.log_flaws.specs.declared.examining.Examined.TheVariants.{Whole, Flawed}

-- bytes begin with no header
abbrev pub IsHeadless : List ℕ → Type 0
IsHeadless file = (h : HeaderView) (rest : List ℕ) → IsHeader h → file ≡ header_text h ++ rest → ⊥

-- bytes begin with a header that differs from the one asked for, first in this field, in which it has this number
pub record HasOtherHeader (file : List ℕ) (asked : HeaderView) (field : HeaderField) (number : ℕ) : Type 0 where
  pub header : HeaderView
  pub rest : List ℕ
  pub lawful : IsHeader header
  pub text : file ≡ header_text header ++ rest
  pub first : find (differs header asked) FIELDS ≡ Some field
  pub found : number ≡ number_in field header

-- bytes are this header, bodies that may follow it, each behind an open gate, and then these bytes, from this place on,
-- and behind those bodies the file stands here
pub record Reaches (file : List ℕ) (h : HeaderView) (at : ℕ) (last : Last) (rest : List ℕ) : Type 0 where
  pub bodies : List BodyView
  pub text : file ≡ header_text h ++ (opened bodies ++ rest)
  pub place : at + length rest ≡ length file
  pub lawful : bodies_after h start bodies ≡ Some last

-- and no body that may follow stands at this place, behind an open gate
pub record HasNoBody (file : List ℕ) (h : HeaderView) (at : ℕ) : Type 0 where
  pub last : Last
  pub text : List ℕ
  pub gate : ℕ
  pub behind : gate + 1 ≡ at
  pub reached : Reaches file h gate last (1 ∷ text)
  pub none : (body : BodyView) (now : Last) (rest : List ℕ) → IsBody h last body now rest text → ⊥

-- the place behind a body at this place, and behind its gate, by its length, where that place has eight bytes
abbrev pub end_of : ℕ → ℕ → Option ℕ
end_of at size = if nat_lt (at + 8 + size) 18446744073709551616 then Some (at + 8 + size) else None

-- what is told of the body at this place, of which so many bytes of the file are left, by its length and what is left
-- behind that: that the file ends inside of it, or before its gate
abbrev pub length_flaw : ℕ → ℕ → Option (ℕ × List ℕ) → FileFlaw
length_flaw at left None = EndsInside (at + left) at None
length_flaw at left (Some size) =
    if nat_lt (length size.1) size.0 then EndsInside (at + left) at (end_of at size.0) else NoBody at

-- what is told of a place where no body may stand that begins with these bytes: what is wrong with a void body, where
-- one begins there; else that the file ends inside of it; or else nothing more
abbrev pub body_flaw : ℕ → List ℕ → Option VoidFlaw → FileFlaw
body_flaw at text None = length_flaw at (length text) (number_at 8 text)
body_flaw at text (Some why) = NoVoid at why

-- and this is told of such a place
abbrev pub IsFlawOfBody : List ℕ → HeaderView → ℕ → FileFlaw → Type 0
IsFlawOfBody file h at flaw = (n : HasNoBody file h at) × (flaw ≡ body_flaw at n.text (void_flaw n.last n.text))

-- the bytes have this flaw, where a file with this header was asked for
abbrev pub HasFlaw : List ℕ → HeaderView → FileFlaw → Type 0
HasFlaw file asked (NewerVersion n) = (newer_version file ≡ Some n) × IsHeadless file
HasFlaw file asked (TooShort n) = (length file ≡ n) × (n < 48) × (newer_version file ≡ None) × IsHeadless file
HasFlaw file asked NoHeader = (48 ≤ length file) × (newer_version file ≡ None) × IsHeadless file
HasFlaw file asked (OtherHeader field found number) =
    HasOtherHeader file asked field found × (number ≡ number_in field asked)
HasFlaw file asked (NoGate at) = (last : Last) × Reaches file asked at last []
HasFlaw file asked (EndsInside size at end) = IsFlawOfBody file asked at (EndsInside size at end)
HasFlaw file asked (NoBody at) = IsFlawOfBody file asked at (NoBody at)
HasFlaw file asked (NoVoid at why) = IsFlawOfBody file asked at (NoVoid at why)

-- what they were found to be: the file with these bodies; or none, for this flaw
abbrev pub IsExamined : List ℕ → HeaderView → Examined → Type 0
IsExamined file asked (Whole bodies) = IsFile file asked (map body_of bodies.items)
IsExamined file asked (Flawed flaw) =
    HasFlaw file asked flaw × ((bodies : List BodyView) → IsFile file asked bodies → ⊥)
