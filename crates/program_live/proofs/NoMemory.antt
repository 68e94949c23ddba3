-- What a step that refuses for want of memory makes of the whole.
use Rattle.std.specs.Prelude.{Result, Ok, Err, IfErr}
use Rattle.std.specs.Result.{IsErr, IsErrAnd}

-- where each such fault is one that the whole may have
pub passed_on : {A E : Type 0} (Q P : E → Type 0) (result : Result A E) → ((fault : E) → Q fault → P fault) → IsErr result × IsErrAnd result Q → IfErr result P
passed_on Q P (Ok value) each is = tt
passed_on Q P (Err fault) each is = each fault is.1
