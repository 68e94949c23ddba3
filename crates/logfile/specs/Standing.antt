-- A log file on its disk: what stands there, and what no crash can take.
use Rattle.std.specs.Prelude.{◌≡◌, ◌⊎◌, ℕ, ◌+◌, ◌<◌, ◌≤◌, ◌^◌, Bool, false, Some, List, [], ◌∷◌, ◌++◌, length}
use Rattle.log_disk.specs.Calls.{Call}
use Rattle.log_disk.specs.Crashes.{MayLeave}
use Rattle.log_header.specs.Header.{HeaderView, IsHeader, header_text}
use Rattle.log_header.specs.declared.header.TheConstants.{VERSION}
use Rattle.log_text.specs.Bodies.{BodyView, bodies_after, start}
use Rattle.log_text.specs.File.{IsFile, opened}
use Rattle.log_text.specs.declared.last.Last.{Last}
use Rattle.logfile.specs.Staged.{IsSettled}

-- what contracts see of an open log file: its disk and header, the place of the gate that ends its text, where the file
-- stands behind its bodies, how many entries it was given since it was opened, the commit number of the last of these
-- (0 before the first), and whether its device has failed
pub record LogFileView (D : Type 0) : Type 0 where
  pub disk : D
  pub header : HeaderView
  pub end : ℕ
  pub last : Last
  pub count : ℕ
  pub number : ℕ
  pub failed : Bool

-- a disk on which this was written, and a file of these bodies: a read gives it, a crash leaves just that, and the gate
-- that ends its text has its place
pub record Stands (h : HeaderView) (bodies : List BodyView) (end : ℕ) (last : Last) (seen : List ℕ) (story : List Call)
    : Type 0 where
  pub file : IsFile seen h bodies
  pub lawful : bodies_after h start bodies ≡ Some last
  pub settled : IsSettled seen story
  pub place : length (header_text h ++ opened bodies) ≡ end

-- the same of some bodies
pub record IsOpen (h : HeaderView) (end : ℕ) (last : Last) (seen : List ℕ) (story : List Call) : Type 0 where
  pub settled : IsSettled seen story
  pub within : end < length seen
  pub stands : ∥ ((bodies : List BodyView) × Stands h bodies end last seen story) ∥₁

-- the bytes are the file with these bodies, or with this one more
abbrev pub IsWithOrWithout : HeaderView → List BodyView → BodyView → List ℕ → Type 0
IsWithOrWithout h bodies body bytes = IsFile bytes h bodies ⊎ IsFile bytes h (bodies ++ body ∷ [])

-- up to this mark nothing can be lost: whatever a crash leaves after these calls is a file of bodies of which the last
-- has this mark (0 without one), and perhaps more; and it may leave just these
pub record IsKept (h : HeaderView) (story : List Call) (mark : ℕ) : Type 0 where
  pub bodies : List BodyView
  pub last : Last
  pub lawful : bodies_after h start bodies ≡ Some last
  pub marked : last.mark ≡ mark
  pub each : (bytes : List ℕ) → MayLeave story bytes → (more : List BodyView) × IsFile bytes h (bodies ++ more)
  pub least : List ℕ
  pub may : MayLeave story least
  pub just : IsFile least h bodies

-- what each open log file keeps, whose disk has these bytes and calls: it is of the version that is written today, its
-- text ends below 2^63, its epochs are near its mark, and its entries have a number each; on a modelled disk it stands
-- there until the device fails, and no crash can take what is up to its mark
pub record IsLogFile (IsModelled : Type 0) (seen : List ℕ) (story : List Call) (h : HeaderView) (end : ℕ) (last : Last)
    (count number : ℕ) (failed : Bool) : Type 0 where
  pub reaches : end < 2 ^ 63
  pub header : IsHeader h
  pub version : h.version ≡ VERSION
  pub near : last.epoch ≤ last.mark + 1
  pub counts : count ≤ number
  pub stands : IsModelled → failed ≡ false → IsOpen h end last seen story
  pub kept : IsModelled → ∥ IsKept h story last.mark ∥₁
