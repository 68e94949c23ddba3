-- Numbers as bytes, the lowest byte first.
use Rattle.std.specs.Prelude.{ℕ, ◌<◌, List, length, drop, slice_index, Option, Some, None, nat_lt, if◌then◌else◌}
use Rattle.byteorder.specs.Endian.{little_number, little_bytes}

-- each is a byte
abbrev pub IsBytes : List ℕ → Type 0
IsBytes bytes = (i : ℕ) → slice_index bytes i < 256

-- a reader takes a value from the front of bytes and leaves those behind it, or finds none there
abbrev pub Reader : Type 0 → Type 0
Reader X = List ℕ → Option (X × List ℕ)

-- the bytes of a number, as many as its width; opaque, since at a width of 8 it would open into eight terms in each
-- goal above
unfoldable pub number : ℕ → ℕ → List ℕ
number width n = little_bytes width n

-- reads the number in so many bytes
unfoldable pub number_at : ℕ → Reader ℕ
number_at width bytes =
    if nat_lt (length bytes) width then None else Some (little_number width bytes, drop width bytes)
