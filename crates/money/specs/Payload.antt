-- The data of a record.
use Rattle.std.specs.Prelude.{ℕ, List, replicate}
use Rattle.money.specs.declared.payload.TheConstants.{PAYLOAD_WORDS}

-- that of a record without columns: every word is 0
abbrev pub no_payload : List ℕ
no_payload = replicate PAYLOAD_WORDS 0
