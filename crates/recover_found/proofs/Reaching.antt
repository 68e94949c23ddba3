-- Ranges of epochs in which each reaches as far as any up to it.
use Rattle.std.proofs.Common.{◌≡◌, ℕ, zero, suc, ◌+◌, ◌<◌, ◌≤◌, max, Bool, true, false, true≢false, ◌&&◌, ◌||◌, List, [], ◌∷◌, length, get_or, set, take, drop, ◌++◌, refl, sym, ap, ◌∙◌, arith, add-one}
use Rattle.std.specs.Prelude.{nat_le}
use Rattle.std.specs.List.{list_any}
use Rattle.std.specs.List.Sorted.{IsNonDecreasingBy}
use Rattle.std.proofs.lemmas.Bool.Decides.{nat_tests}
use Rattle.std.proofs.lemmas.List.{append-nil, append_assoc, drop-set-lt, drop_all, length-set, take_all, take_more_set}
use Rattle.std.proofs.lemmas.List.Sorted.{IsNonDecreasingBy-drop}
use Rattle.std.proofs.Math.Seq.{drop-cons}
use Rattle.recover_found.specs.Found.{is_spanned}
use Rattle.recover_found.specs.Spans.{AreReaching}
use Rattle.recover_found.specs.declared.spans.Span.{Span}

-- each high is the greatest up to it, and of this one
abbrev pub raised : ℕ → List Span → List Span
raised high [] = []
raised high (s ∷ ss) = record { low = s.low; high = max s.high high } ∷ raised (max s.high high) ss

pub raised_count : (high : ℕ) (ss : List Span) → length (raised high ss) ≡ length ss
raised_count high [] = refl
raised_count high (s ∷ ss) = ap suc (raised_count (max s.high high) ss)

raised_low : (high : ℕ) (ss : List Span) (i : ℕ) (d : Span) → (get_or (raised high ss) i d).low ≡ (get_or ss i d).low
raised_low high [] i d = refl
raised_low high (s ∷ ss) zero d = refl
raised_low high (s ∷ ss) (suc i) d = raised_low (max s.high high) ss i d

above : (high : ℕ) (ss : List Span) (i : ℕ) (d : Span) → i < length (raised high ss) → high ≤ (get_or (raised high ss) i d).high
above high [] i d less = absurd (omega (arith, less))
above high (s ∷ ss) zero d less = omega arith
above high (s ∷ ss) (suc i) d less =
    let more : max s.high high ≤ (get_or (raised (max s.high high) ss) i d).high = above (max s.high high) ss i d (omega (arith, less)) in
    omega (arith, more)

rises : (high : ℕ) (ss : List Span) (i j : ℕ) (d : Span) → i ≤ j → j < length (raised high ss)
    → (get_or (raised high ss) i d).high ≤ (get_or (raised high ss) j d).high
rises high [] i j d le less = absurd (omega (arith, less))
rises high (s ∷ ss) zero zero d le less = omega arith
rises high (s ∷ ss) zero (suc j) d le less = above (max s.high high) ss j d (omega (arith, less))
rises high (s ∷ ss) (suc i) zero d le less = absurd (omega (arith, le))
rises high (s ∷ ss) (suc i) (suc j) d le less = rises (max s.high high) ss i j d (omega (arith, le)) (omega (arith, less))

pub are_reaching : (ss : List Span) → IsNonDecreasingBy (λ s. s.low) ss → AreReaching (raised 0 ss)
are_reaching ss sorted = record {
  lows = λ i j d le less.
      let count : length (raised 0 ss) ≡ length ss = raised_count 0 ss in
      let lows : (get_or ss i d).low ≤ (get_or ss j d).low = sorted i j d le (omega (arith, less, count)) in
      omega (arith, lows, raised_low 0 ss i d, raised_low 0 ss j d);
  highs = λ i j d le less. rises 0 ss i j d le less;
}

-- an epoch is up to the greater of two where it is up to one of them
up_to_greater : (epoch a b : ℕ) → nat_le epoch (max a b) ≡ (nat_le epoch a || nat_le epoch b)
up_to_greater epoch a b = grind (arith, nat_tests)

bools : (s p h t b : Bool) → (p ≡ true → s ≡ true) → ((s && h) || ((p && (t || h)) || b)) ≡ ((s && h) || ((p && t) || b))
bools s false h t b goes = refl
bools true true true t b goes = refl
bools true true false true b goes = refl
bools true true false false b goes = refl
bools false true h t b goes = absurd (true≢false (sym (goes refl)))

-- behind a range that reaches up to here, the same epochs are in the ranges as in those raised
same_behind : (epoch high : ℕ) (s : Span) (ss : List Span) → IsNonDecreasingBy (λ s. s.low) (s ∷ ss)
    → ((nat_le s.low epoch && nat_le epoch high) || list_any (is_spanned epoch) (raised high ss))
    ≡ ((nat_le s.low epoch && nat_le epoch high) || list_any (is_spanned epoch) ss)
same_behind epoch high s [] sorted = refl
same_behind epoch high s (t ∷ ts) sorted =
    let lows : s.low ≤ t.low = sorted 0 1 s (omega arith) (omega arith) in
    let greater = up_to_greater epoch t.high high in
    let rest = same_behind epoch (max t.high high) t ts (IsNonDecreasingBy-drop (λ s. s.low) 1 (s ∷ t ∷ ts) sorted) in
    let goes : nat_le t.low epoch ≡ true → nat_le s.low epoch ≡ true = λ is. grind (arith, nat_tests, lows, is) in
    ap (λ (x : Bool). (nat_le s.low epoch && nat_le epoch high) || x) rest
    ∙ ap (λ (x : Bool). (nat_le s.low epoch && nat_le epoch high) || ((nat_le t.low epoch && x) || list_any (is_spanned epoch) ts)) greater
    ∙ bools (nat_le s.low epoch) (nat_le t.low epoch) (nat_le epoch high) (nat_le epoch t.high) (list_any (is_spanned epoch) ts) goes

pub same_all : (epoch : ℕ) (ss : List Span) → IsNonDecreasingBy (λ s. s.low) ss
    → list_any (is_spanned epoch) (raised 0 ss) ≡ list_any (is_spanned epoch) ss
same_all epoch [] sorted = refl
same_all epoch (s ∷ ss) sorted =
    let none : max s.high 0 ≡ s.high = omega arith in
    same_behind epoch (max s.high 0) s ss sorted
    ∙ ap (λ (n : ℕ). (nat_le s.low epoch && nat_le epoch n) || list_any (is_spanned epoch) ss) none

-- ranges of which so many are raised, up to this high
pub record IsRaisedTo (first now : List Span) (n high : ℕ) : Type 0 where
  pub count : length now ≡ length first
  pub raises : take n now ++ raised high (drop n now) ≡ raised 0 first

pub begins : (first : List Span) → IsRaisedTo first first 0 0
begins first = record { count = refl; raises = refl }

pub goes_on : (first now new : List Span) (n high next : ℕ) (d s : Span) → n < length now → IsRaisedTo first now n high
    → next ≡ max (get_or now n d).high high → s ≡ record (get_or now n d) { high = next } → new ≡ set now n s
    → IsRaisedTo first new (n + 1) next
goes_on first now new n high next d s less so_far next_is s_is new_is = record {
  count = ap length new_is ∙ length-set now n s ∙ so_far.count;
  raises =
      ap (λ (l : List Span). take (n + 1) l ++ raised next (drop (n + 1) l)) new_is
      ∙ (λ j. taken j ++ raised next (left j))
      ∙ append_assoc (take n now) (s ∷ []) (raised next (drop (n + 1) now))
      ∙ ap (λ (x : Span). take n now ++ (x ∷ raised next (drop (n + 1) now))) s_is
      ∙ ap (λ (m : ℕ). take n now ++ (record (get_or now n d) { high = m } ∷ raised m (drop (n + 1) now))) next_is
      ∙ ap (λ (l : List Span). take n now ++ raised high l) here
      ∙ so_far.raises;
}
  where
    here : get_or now n d ∷ drop (n + 1) now ≡ drop n now
    here = rw add-one (sym (drop-cons now n d less))

    taken : take (n + 1) (set now n s) ≡ take n now ++ s ∷ []
    taken = take_more_set now n s less

    left : drop (n + 1) (set now n s) ≡ drop (n + 1) now
    left = drop-set-lt (n + 1) now n s (omega arith)

pub ends : (first now : List Span) (n high : ℕ) → length now ≤ n → IsRaisedTo first now n high → now ≡ raised 0 first
ends first now n high over so_far =
    sym ((λ j. take_all n now over j ++ raised high (drop_all n now over j)) ∙ append-nil now) ∙ so_far.raises
