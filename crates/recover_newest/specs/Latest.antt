-- The newest writes of records, as far as entries of log files were looked at.
use Rattle.std.specs.Prelude.{nat_lt, ◌==◌, ◌&&◌, ◌||◌, Bool, Option, Some, None, if◌then◌else◌}
use Rattle.recover_newest.specs.declared.latest.Latest.{Latest}

-- whether a write is older than another of the same record: of a smaller TID, or of the same and a smaller commit
-- number
abbrev pub is_older : Latest → Latest → Bool
is_older known write = nat_lt known.tid write.tid || ((known.tid == write.tid) && nat_lt known.number write.number)

-- the newer of what is known of a record, if anything is, and a write of it
abbrev pub newer : Option Latest → Latest → Latest
newer None write = write
newer (Some known) write = if is_older known write then write else known

-- what is known of a record from two sides
abbrev pub joined : Option Latest → Option Latest → Option Latest
joined known None = known
joined known (Some write) = Some (newer known write)
