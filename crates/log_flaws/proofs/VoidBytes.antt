-- What is wrong with a void body shows in its bytes alone, whatever stands behind.
use Rattle.std.proofs.Common.{◌≡◌, ℕ, ◌+◌, ◌≤◌, Bool, true, false, Option, Some, None, List, ◌++◌, length, take, drop, refl, sym, ap, ◌∙◌, arith}
use Rattle.std.proofs.Common.{length-append}
use Rattle.std.proofs.lemmas.Bool.{ltb-true, eqb-true}
use Rattle.std.proofs.lemmas.List.{drop-append-le, take-append-drop, length-take-le}
use Rattle.std.specs.Prelude.{nat_lt, ◌==◌, ◌&&◌, if◌then◌else◌}
use Rattle.std.specs.Option.{option_and_then}
use Rattle.byteorder.specs.Endian.{little_number}
use Rattle.byteorder.specs.Numbers.{little_from-append}
use Rattle.log_codec.specs.Numbers.{number_at}
use Rattle.log_text.specs.declared.body.TheConstants.{VOID_MARK}
use Rattle.log_text.specs.declared.last.Last.{Last}
use Rattle.log_header.specs.declared.header.TheConstants.{VERSION}
use Rattle.log_flaws.specs.Versions.{newer_version}
use Rattle.log_flaws.specs.declared.versions.TheConstants.{FORMAT}
use Rattle.log_flaws.specs.Voids.{range_flaw, void_flaw}
use Rattle.log_flaws.specs.declared.voids.TheConstants.{VOID_BYTES}
use Rattle.log_flaws.specs.declared.voids.VoidFlaw.{VoidFlaw}
use Rattle.log_flaws.specs.declared.voids.VoidFlaw.TheVariants as flaw

-- not below
enough_for : (n : ℕ) (bytes : List ℕ) → n ≤ length bytes → nat_lt (length bytes) n ≡ false
enough_for n bytes enough =
    elim (nat_lt (length bytes) n) as (λ t. nat_lt (length bytes) n ≡ t → t ≡ false) [
      | true ↦ λ t. absurd (omega (arith, enough, ltb-true (length bytes) n t))
      | false ↦ λ t. refl
    ] refl

-- the number in the first bytes, with the bytes behind it
pub here : (width : ℕ) (bytes : List ℕ) → width ≤ length bytes → number_at width bytes ≡ Some (little_number width bytes, drop width bytes)
unfolding number_at
here width bytes enough =
    ap (λ (t : Bool). if t then None else Some (little_number width bytes, drop width bytes)) (enough_for width bytes enough)

-- and with more bytes behind those
pub here_more : (width : ℕ) (bytes others : List ℕ) → width ≤ length bytes
    → number_at width (bytes ++ others) ≡ Some (little_number width bytes, drop width bytes ++ others)
here_more width bytes others enough =
    here width (bytes ++ others) (omega (arith, enough, length-append bytes others))
    ∙ (λ i. Some (little_from-append width bytes others enough i, drop-append-le width bytes others enough i))

-- what is read behind the mark's place, and behind the first end
abbrev of_high : Last → ℕ → ℕ × List ℕ → Option VoidFlaw
of_high last low high = range_flaw last low high.0

abbrev of_low : Last → ℕ × List ℕ → Option VoidFlaw
of_low last low = option_and_then (of_high last low.0) (number_at 8 low.1)

abbrev of_mark : Last → ℕ → ℕ × List ℕ → Option VoidFlaw
of_mark last size mark = if mark.0 == VOID_MARK
    then if size == VOID_BYTES then option_and_then (of_low last) (number_at 8 mark.1) else Some flaw.OtherLength
    else None

long_drop : (n m : ℕ) (bytes : List ℕ) → n + m ≤ length bytes → m ≤ length (drop n bytes)
long_drop n m bytes enough =
    let parts = ap length (take-append-drop n bytes) in
    omega (arith, enough, parts, length-append (take n bytes) (drop n bytes), length-take-le n bytes (omega (arith, enough)))

ends_more : (last : Last) (bytes others : List ℕ) → 16 ≤ length bytes
    → option_and_then (of_low last) (number_at 8 (bytes ++ others)) ≡ option_and_then (of_low last) (number_at 8 bytes)
ends_more last bytes others enough =
    let first : 8 ≤ length bytes = omega (arith, enough) in
    let behind : List ℕ = drop 8 bytes in
    let second : 8 ≤ length behind = long_drop 8 8 bytes enough in
    ap (option_and_then (of_low last)) (here_more 8 bytes others first)
    ∙ ap (option_and_then (of_high last (little_number 8 bytes))) (here_more 8 behind others second)
    ∙ sym (ap (option_and_then (of_low last)) (here 8 bytes first) ∙ ap (option_and_then (of_high last (little_number 8 bytes))) (here 8 behind second))

marks_more : (last : Last) (size mark : ℕ) (bytes others : List ℕ) → (size ≡ VOID_BYTES → 16 ≤ length bytes)
    → of_mark last size (mark, bytes ++ others) ≡ of_mark last size (mark, bytes)
marks_more last size mark bytes others enough =
    elim (size == VOID_BYTES) as (λ t. (size == VOID_BYTES) ≡ t
    → (if mark == VOID_MARK then if t then option_and_then (of_low last) (number_at 8 (bytes ++ others)) else Some flaw.OtherLength else None)
    ≡ (if mark == VOID_MARK then if t then option_and_then (of_low last) (number_at 8 bytes) else Some flaw.OtherLength else None)) [
      | true ↦ λ t. ap (λ (o : Option VoidFlaw). if mark == VOID_MARK then o else None) (ends_more last bytes others (enough (eqb-true size VOID_BYTES t)))
      | false ↦ λ t. refl
    ] refl

-- where a length was read, and behind it stand a mark, and two ends where it is a void body's
pub void_more : (last : Last) (bytes others more : List ℕ) (size : ℕ) → number_at 8 bytes ≡ Some (size, more)
    → number_at 8 (bytes ++ others) ≡ Some (size, more ++ others) → 8 ≤ length more → (size ≡ VOID_BYTES → 24 ≤ length more)
    → void_flaw last (bytes ++ others) ≡ void_flaw last bytes
unfolding void_flaw
void_more last bytes others more size read whole enough void =
    let rest : (size ≡ VOID_BYTES → 16 ≤ length (drop 8 more)) = (λ is. long_drop 8 16 more (void is)) in
    ap (option_and_then (λ (x : ℕ × List ℕ). option_and_then (of_mark last x.0) (number_at 8 x.1))) whole
    ∙ ap (option_and_then (of_mark last size)) (here_more 8 more others enough)
    ∙ marks_more last size (little_number 8 more) (drop 8 more) others rest
    ∙ sym (ap (option_and_then (λ (x : ℕ × List ℕ). option_and_then (of_mark last x.0) (number_at 8 x.1))) read
    ∙ ap (option_and_then (of_mark last size)) (here 8 more enough))

-- and so does a version that isn't known
abbrev of_version : ℕ → ℕ × List ℕ → Option ℕ
of_version name version = if name == FORMAT && nat_lt VERSION version.0 then Some version.0 else None

pub newer_more : (bytes others : List ℕ) → 12 ≤ length bytes → newer_version (bytes ++ others) ≡ newer_version bytes
unfolding newer_version
newer_more bytes others enough =
    let first : 8 ≤ length bytes = omega (arith, enough) in
    let behind : List ℕ = drop 8 bytes in
    let second : 4 ≤ length behind = long_drop 8 4 bytes (omega (arith, enough)) in
    ap (option_and_then (λ (x : ℕ × List ℕ). option_and_then (of_version x.0) (number_at 4 x.1))) (here_more 8 bytes others first)
    ∙ ap (option_and_then (of_version (little_number 8 bytes))) (here_more 4 behind others second)
    ∙ sym (ap (option_and_then (λ (x : ℕ × List ℕ). option_and_then (of_version x.0) (number_at 4 x.1))) (here 8 bytes first)
    ∙ ap (option_and_then (of_version (little_number 8 bytes))) (here 4 behind second))
