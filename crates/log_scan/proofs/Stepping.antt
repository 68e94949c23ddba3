-- A gate, and the length behind it.
use Rattle.std.proofs.Common.{◌≡◌, ◌⊎◌, inl, inr, ℕ, ◌+◌, ◌-◌, ◌^◌, ◌<◌, ◌≤◌, Option, Some, None, List, [], ◌∷◌, ◌++◌, length, refl, ap, ◌∙◌, subst, arith, true, false}
use Rattle.std.proofs.Common.{length-append}
use Rattle.std.proofs.lemmas.Bool.{ltb-true}
use Rattle.std.specs.Prelude.{nat_lt, IfNone}
use Rattle.log_codec.specs.Numbers.{IsBytes, number, number_at}
use Rattle.log_codec.proofs.NumberTexts.{codec-number, length-number, bytes_behind}
use Rattle.log_codec.proofs.Codecs.{taken}
use Rattle.log_scan.specs.Text.{IsClosed, HasNoRoom}
use Rattle.log_scan.specs.Walk.{LeadsOn}
use Rattle.log_scan.specs.declared.reading.TheConstants.{SHORTEST, VOID_REST}

pub if_none : {A P : Type 0} (o : Option A) → P → IfNone o P
if_none None p = p
if_none (Some x) p = tt

-- where no length can be read, there are fewer than its eight bytes
pub too_few : (bytes : List ℕ) → number_at 8 bytes ≡ None → length bytes < 8
unfolding number_at
too_few bytes e =
    elim (nat_lt (length bytes) 8) as (λ t. nat_lt (length bytes) 8 ≡ t → length bytes < 8) [
      | true ↦ λ t. ltb-true (length bytes) 8 t
      | false ↦ λ t. absurd cc
    ] refl

-- a length that can be read
pub record HasLength (rest : List ℕ) (size : ℕ) (more : List ℕ) : Type 0 where
  pub rest_is : rest ≡ number 8 size ++ more
  pub is_number : size < 256 ^ 8
  pub long : length rest ≡ 8 + length more

pub has_length : (bytes rest : List ℕ) (gate size : ℕ) (more : List ℕ) → IsBytes bytes → bytes ≡ gate ∷ rest → number_at 8 rest ≡ Some (size, more)
    → HasLength rest size more
has_length bytes rest gate size more is e read =
    let t = taken (codec-number 8) rest (size, more) (bytes_behind (gate ∷ []) rest (subst IsBytes e is)) read in
    record {
      rest_is = t.is;
      is_number = t.fits;
      long = omega (arith, ap length t.is, length-append (number 8 size) more, length-number 8 size);
    }

pub is_open : (bytes rest : List ℕ) (size : ℕ) (more : List ℕ) (behind : ℕ) → bytes ≡ 1 ∷ rest → HasLength rest size more → SHORTEST ≤ size
    → size - 1 ≤ length more + behind → LeadsOn bytes (8 + size) × (8 + size ≤ length bytes + behind)
is_open bytes rest size more behind e has long within = (
  record {
    size = size;
    more = more;
    bytes_are = e ∙ ap (λ (l : List ℕ). 1 ∷ l) has.rest_is;
    is_number = has.is_number;
    is_long = long;
    step_is = refl;
  },
  omega (arith, ap length e, has.long, within, long),
)

pub has_no_room : (bytes rest : List ℕ) (size : ℕ) (more : List ℕ) (behind : ℕ) → bytes ≡ 1 ∷ rest → HasLength rest size more
    → (size < SHORTEST) ⊎ (length more + behind < size - 1) → 9 + VOID_REST ≤ length bytes → (others : List ℕ) → length others ≤ behind
    → IsClosed bytes ⊎ HasNoRoom bytes others
has_no_room bytes rest size more behind e has none enough others few = inr (record {
  size = size;
  more = more;
  bytes_are = e ∙ ap (λ (l : List ℕ). 1 ∷ l) has.rest_is;
  is_number = has.is_number;
  none = which none;
  seen = omega (arith, enough, ap length e, has.long);
})
  where
    which : (size < SHORTEST) ⊎ (length more + behind < size - 1) → (size < SHORTEST) ⊎ (length (more ++ others) + 1 < size)
    which (inl short) = inl short
    which (inr far) = inr (omega (arith, far, few, length-append more others))
