-- What is read as a body has just those bytes as its text.
use Rattle.std.proofs.Common.{◌≡◌, ℕ, suc, ◌+◌, ◌-◌, ◌^◌, ◌<◌, ◌≤◌, Bool, true, ◌&&◌, Option, Some, None, List, ◌∷◌, ◌++◌, length, take}
use Rattle.std.proofs.Common.{drop, sym, ap, ◌∙◌, subst}
use Rattle.std.proofs.Common.{arith, zero, false, refl, ◌≢◌, [], length-append, append_assoc}
use Rattle.std.proofs.lemmas.Bool.{leb-true, le-leb, eqb-true, eqb-false, ne_eqb}
use Rattle.std.proofs.lemmas.List.{append-nil}
use Rattle.std.proofs.lemmas.List.{take-append-drop, length-take-le}
use Rattle.std.proofs.Math.Seq.{take-append_seam, drop-append_seam}
use Rattle.std.specs.Prelude.{slice_index, nat_le, ◌==◌, if◌then◌else◌, flat_map}
use Rattle.std.specs.Option.{option_map, option_and_then}
use Rattle.log_codec.specs.Numbers.{IsBytes, number, number_at}
use Rattle.log_codec.specs.Read.{filled}
use Rattle.log_codec.specs.Codec.{IsCodec}
use Rattle.log_codec.proofs.NumberTexts.{codec-number, length-number, number_at-number}
use Rattle.log_codec.proofs.Codecs.{and_then_some, map_some, taken}
use Rattle.log_codec.proofs.Filled.{filled_takes, filled_again}
use Rattle.log_text.specs.Entries.{EntryView, entry_text}
use Rattle.log_text.specs.Bodies.{BodyView, Entries, Void, content_text, body_text}
use Rattle.log_text.specs.declared.body.TheConstants.{VOID_MARK}
use Rattle.log_header.specs.Header.{HeaderView, IsHeader}
use Rattle.log_text.specs.File.{IsBody}
use Rattle.log_text.specs.declared.last.Last.{Last}
use Rattle.log_text.specs.Read.{entry_from, entries_from, void_from, content_from, body_from}
use Rattle.log_text.proofs.Texts.{codec-entry, has_bytes, some_is}
use Rattle.log_text.proofs.Fitting.{and_split}
use Rattle.log_text.proofs.Lawful.{FitsBody, through, body_fits}

-- no byte is left
no_bytes : (l : List ℕ) → length l ≡ 0 → l ≡ []
no_bytes [] none = refl
no_bytes (b ∷ bs) none = absurd (omega (arith, none))

-- what is read behind the first number of a void body, and behind the second
abbrev of_high : ℕ → ℕ × List ℕ → Option BodyView
of_high low high = if length high.1 == 0 then Some (Void low high.0) else None

abbrev of_low : ℕ × List ℕ → Option BodyView
of_low low = option_and_then (of_high low.0) (number_at 8 low.1)

-- bytes that are read as a void body are the two ends of its range
record TakesVoid (bytes : List ℕ) (b : BodyView) : Type 0 where
  pub low : ℕ
  pub high : ℕ
  pub is : Void low high ≡ b
  pub text : bytes ≡ number 8 low ++ number 8 high
  pub low_fits : low < 256 ^ 8
  pub high_fits : high < 256 ^ 8

void_takes : (bytes : List ℕ) (b : BodyView) → IsBytes bytes → void_from bytes ≡ Some b → TakesVoid bytes b
unfolding void_from
void_takes bytes b is e =
    let p = and_then_some of_low (number_at 8 bytes) b e in
    let t = taken (codec-number 8) bytes p.0 is p.1 in
    let q = and_then_some (of_high p.0.0) (number_at 8 p.0.1) b p.2 in
    let u = taken (codec-number 8) p.0.1 q.0 t.behind q.1 in
    let step = through (length q.0.1 == 0) (Some (Void p.0.0 q.0.0)) b q.2 in
    let none : q.0.1 ≡ [] = no_bytes q.0.1 (eqb-true (length q.0.1) 0 step.0) in
    record {
      low = p.0.0;
      high = q.0.0;
      is = some_is (Void p.0.0 q.0.0) b step.1;
      text = t.is ∙ ap (λ (r : List ℕ). number 8 p.0.0 ++ r)
          (u.is ∙ ap (λ (r : List ℕ). number 8 q.0.0 ++ r) none ∙ append-nil (number 8 q.0.0));
      low_fits = t.fits;
      high_fits = u.fits;
    }

void_again : (low high : ℕ) → low < 256 ^ 8 → high < 256 ^ 8 → void_from (number 8 low ++ number 8 high) ≡ Some (Void low high)
unfolding void_from
void_again low high low_fits high_fits =
    ap (option_and_then of_low) (number_at-number 8 low (number 8 high) low_fits)
    ∙ ap (option_and_then (of_high low)) (ap (number_at 8) (sym (append-nil (number 8 high))) ∙ number_at-number 8 high [] high_fits)

-- what is read behind a mark, or behind what stands in its place
abbrev of_mark : ℕ × List ℕ → Option BodyView
of_mark mark = if mark.0 == VOID_MARK then void_from mark.1
    else option_map (λ (entries : List EntryView). Entries mark.0 entries) (filled entry_from mark.1 (length mark.1))

content_takes : (bytes : List ℕ) (b : BodyView) → IsBytes bytes → content_from bytes ≡ Some b → (bytes ≡ content_text b) × FitsBody b
unfolding content_from entries_from
content_takes bytes b is e =
    let p = and_then_some of_mark (number_at 8 bytes) b e in
    let t = taken (codec-number 8) bytes p.0 is p.1 in
    elim (p.0.0 == VOID_MARK) as (λ q. (p.0.0 == VOID_MARK) ≡ q → (if q then void_from p.0.1
    else option_map (λ (entries : List EntryView). Entries p.0.0 entries) (filled entry_from p.0.1 (length p.0.1))) ≡ Some b
    → (bytes ≡ content_text b) × FitsBody b) [
      | true ↦ λ q h. let v = void_takes p.0.1 b t.behind h in
          subst (λ (c : BodyView). (bytes ≡ content_text c) × FitsBody c) v.is
          (t.is ∙ (λ i. number 8 (eqb-true p.0.0 VOID_MARK q i) ++ v.text i), (v.low_fits, v.high_fits))
      | false ↦ λ q h.
          let r = map_some (λ (entries : List EntryView). Entries p.0.0 entries) (filled entry_from p.0.1 (length p.0.1)) b h in
          let u = filled_takes codec-entry (length p.0.1) p.0.1 r.0 t.behind r.1 in
          subst (λ (c : BodyView). (bytes ≡ content_text c) × FitsBody c) r.2
          (t.is ∙ ap (λ (r : List ℕ). number 8 p.0.0 ++ r) u.0, (below p.0.0 t.fits (eqb-false p.0.0 VOID_MARK q), u.1))
    ] refl p.2
  where
    below : (n : ℕ) → n < 256 ^ 8 → n ≢ VOID_MARK → n < VOID_MARK
    below n small other = omega (arith, small, other)

content_again : (b : BodyView) → FitsBody b → content_from (content_text b) ≡ Some b
unfolding content_from entries_from
content_again (Entries mark entries) fits =
    let rest : List ℕ = flat_map entry_text entries in
    let other : (mark == VOID_MARK) ≡ false = ne_eqb mark VOID_MARK (differs mark fits.0) in
    ap (option_and_then of_mark) (number_at-number 8 mark rest (omega (arith, fits.0)))
    ∙ ap (λ (t : Bool). if t then void_from rest else option_map (λ (es : List EntryView). Entries mark es) (filled entry_from rest (length rest))) other
    ∙ ap (option_map (λ (es : List EntryView). Entries mark es)) (filled_again codec-entry (λ x _. has_bytes x) (length rest) entries fits.1 (same (length rest)))
  where
    same : (n : ℕ) → n ≤ n
    same n = omega arith

    differs : (n : ℕ) → n < VOID_MARK → n ≡ VOID_MARK → ⊥
    differs n small is = absurd (omega (arith, small, is))
content_again (Void low high) fits =
    ap (option_and_then of_mark) (number_at-number 8 VOID_MARK (number 8 low ++ number 8 high) (omega arith)) ∙ void_again low high fits.0 fits.1

-- a mark has eight bytes, and so has what stands in its place
pub long_content : (b : BodyView) → 8 ≤ length (content_text b)
long_content (Entries mark entries) = omega (arith, length-append (number 8 mark) (flat_map entry_text entries), length-number 8 mark)
long_content (Void low high) = omega (arith, length-append (number 8 VOID_MARK) (number 8 low ++ number 8 high), length-number 8 VOID_MARK)

-- a body that fits, whose length does too
pub record FitsLength (b : BodyView) : Type 0 where
  pub body : FitsBody b
  pub size : length (content_text b) + 1 < 256 ^ 8

-- what is read behind a length
abbrev of_size : ℕ × List ℕ → Option (BodyView × List ℕ)
of_size size = if nat_le 9 size.0 && nat_le (size.0 - 1) (length size.1)
    then option_map (λ (b : BodyView). (b, drop (size.0 - 1) size.1)) (content_from (take (size.0 - 1) size.1)) else None

-- the front of bytes is bytes
front_bytes : (n : ℕ) (bytes : List ℕ) → IsBytes bytes → IsBytes (take n bytes)
front_bytes zero bytes is i = nothing i
  where
    nothing : (i : ℕ) → slice_index [] i < 256
    nothing i = omega arith
front_bytes (suc n) [] is i = is i
front_bytes (suc n) (b ∷ bs) is zero = is zero
front_bytes (suc n) (b ∷ bs) is (suc i) = front_bytes n bs (λ j. is (suc j)) i

body_takes : (bytes : List ℕ) (x : BodyView × List ℕ) → IsBytes bytes → body_from bytes ≡ Some x → (bytes ≡ body_text x.0 ++ x.1) × FitsLength x.0
unfolding body_from
body_takes bytes x is e =
    let p = and_then_some of_size (number_at 8 bytes) x e in
    let t = taken (codec-number 8) bytes p.0 is p.1 in
    let n : ℕ = p.0.0 - 1 in
    let step = through (nat_le 9 p.0.0 && nat_le n (length p.0.1))
    (option_map (λ (b : BodyView). (b, drop n p.0.1)) (content_from (take n p.0.1))) x p.2 in
    let tests = and_split (nat_le 9 p.0.0) (nat_le n (length p.0.1)) step.0 in
    let q = map_some (λ (b : BodyView). (b, drop n p.0.1)) (content_from (take n p.0.1)) x step.1 in
    let c = content_takes (take n p.0.1) q.0 (front_bytes n p.0.1 t.behind) q.1 in
    let long : length (content_text q.0) ≡ n = sym (ap length c.0) ∙ cut n p.0.1 (leb-true n (length p.0.1) tests.1) in
    let size : p.0.0 ≡ length (content_text q.0) + 1 = omega (arith, long, leb-true 9 p.0.0 tests.0) in
    subst (λ (y : BodyView × List ℕ). (bytes ≡ body_text y.0 ++ y.1) × FitsLength y.0) q.2 (
      t.is ∙ (λ i. number 8 (size i) ++ (sym (take-append-drop n p.0.1) ∙ ap (λ (l : List ℕ). l ++ drop n p.0.1) c.0) i)
          ∙ sym (append_assoc (number 8 (length (content_text q.0) + 1)) (content_text q.0) (drop n p.0.1)),
      record { body = c.1; size = subst (λ (k : ℕ). k < 256 ^ 8) size t.fits },
    )
  where
    cut : (n : ℕ) (l : List ℕ) → n ≤ length l → length (take n l) ≡ n
    cut n l h = length-take-le n l h

body_again : (b : BodyView) (rest : List ℕ) → FitsLength b → body_from (body_text b ++ rest) ≡ Some (b, rest)
unfolding body_from
body_again b rest fits =
    let content : List ℕ = content_text b in
    let n : ℕ = length content in
    let less : n + 1 - 1 ≡ n = omega arith in
    let some : 8 ≤ n = long_content b in
    let whole : length (content ++ rest) ≡ n + length rest = length-append content rest in
    let tests : nat_le 9 (n + 1) && nat_le (n + 1 - 1) (length (content ++ rest)) ≡ true =
    (λ i. le-leb 9 (n + 1) (omega (arith, some)) i && le-leb (n + 1 - 1) (length (content ++ rest)) (omega (arith, whole)) i) in
    ap (option_and_then of_size) (ap (number_at 8) (append_assoc (number 8 (n + 1)) content rest) ∙ number_at-number 8 (n + 1) (content ++ rest) fits.size)
    ∙ ap (λ (t : Bool). if t then option_map (λ (c : BodyView). (c, drop (n + 1 - 1) (content ++ rest))) (content_from (take (n + 1 - 1) (content ++ rest)))
    else None) tests
    ∙ (λ i. option_map (λ (c : BodyView). (c, drop (less i) (content ++ rest))) (content_from (take (less i) (content ++ rest))))
    ∙ ap (option_map (λ (c : BodyView). (c, drop n (content ++ rest)))) (ap content_from (take-append_seam content rest) ∙ content_again b fits.body)
    ∙ (λ i. Some (b, drop-append_seam content rest i))

pub codec-body : IsCodec body_text body_from FitsLength
codec-body = record { takes = body_takes; again = body_again }

-- a body that may follow is read, and with no other value
pub is_read : (h : HeaderView) → IsHeader h → (last : Last) (b : BodyView) (now : Last) (rest bytes : List ℕ) → length bytes < 2 ^ 64
    → IsBody h last b now rest bytes → body_from bytes ≡ Some (b, rest)
is_read h lawful last b now rest bytes small is =
    let content : List ℕ = content_text b in
    let size : length content + 1 < 256 ^ 8 =
    omega (
      arith,
      small,
      ap length is.text,
      length-append (body_text b) rest,
      length-append (number 8 (length content + 1)) content,
      length-number 8 (length content + 1),
    ) in
    ap body_from is.text ∙ body_again b rest (record { body = body_fits h lawful last b now is.lawful; size = size })
