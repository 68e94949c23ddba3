-- Entries as they came, in the order that a list of their places gives.
use Rattle.std.proofs.Common.{◌≡◌, Bool, true, false, true≢false, ◌==◌, ℕ, ◌+◌, ◌<◌, List, [], ◌∷◌, ◌++◌, All, map, length, get_or, set, inl, inr, Ok, Err, refl, sym, ap, ◌∙◌, subst, arith}
use Rattle.std.specs.Ordering.{nat_cmp, match_ordering}
use Rattle.std.specs.declared.cmp.Ordering.TheVariants.{Less, Equal, Greater}
use Rattle.std.specs.List.Sorted.{IsStrictlySortedBy}
use Rattle.std.specs.Map.{keys_of}
use Rattle.std.specs.BTreeMap.{insert_entry}
use Rattle.std.proofs.lemmas.Bool.{eqb-true, cases_lt}
use Rattle.std.proofs.lemmas.List.{get_or-map, get_or_default, get_or_append_left, get_or_push, ext_get_or, length-map, length-append}
use Rattle.std.proofs.lemmas.List.Edits.{insert_end}
use Rattle.std.proofs.lemmas.List.Elements.{All-nil, All-head, All-tail}
use Rattle.readset.specs.Places.{place, one_further}
use Rattle.readset.specs.Arrivals.{AreArrivals, in_order, all_taken, entry_at_place}
use Rattle.readset.proofs.Entries.{none_ordered}
use Rattle.readset.proofs.Placed.{Stands, Goes, all_put, stands, goes, ordered_put}

-- without entries there is no place
pub no_place : (order : List (ℕ × ℕ)) → 0 < length order → All (λ o. o.1 < 0) order → ⊥
no_place [] some all = omega (arith, some)
no_place (o ∷ order) some all = omega (arith, All-head (λ (o : ℕ × ℕ). o.1 < 0) o order all)

-- whether there is a list
pub is_listed : (order : List (ℕ × ℕ)) (b : Bool) → b ≡ (length order == 0) → b ≡ false → 0 < length order
is_listed [] b is not = absurd (true≢false (sym is ∙ not))
is_listed (o ∷ order) b is not = omega arith

pub is_unlisted : (order : List (ℕ × ℕ)) (b : Bool) → b ≡ (length order == 0) → b ≡ true → order ≡ []
is_unlisted [] b is so = refl
is_unlisted (o ∷ order) b is so = absurd (omega (arith, eqb-true (length (o ∷ order)) 0 (sym is ∙ so)))

-- a list with a place more has one, and its places are those it had and the new one
some_put : (n p : ℕ) (order : List (ℕ × ℕ)) → 0 < length (insert_entry nat_cmp order n p)
some_put n p [] = omega arith
some_put n p (o ∷ order) =
    elim (nat_cmp n o.0) as (λ c. 0 < length (match_ordering c ((n, p) ∷ o ∷ order) ((o.0, p) ∷ order) (o ∷ insert_entry nat_cmp order n p))) [
      | Less ↦ omega arith
      | Equal ↦ omega arith
      | Greater ↦ omega arith
    ]

module _ {X : Type 0} where
  -- a list of places has the entries' numbers
  keys_taken : (es : List (ℕ × X)) (d : ℕ × X) (order : List (ℕ × ℕ)) → keys_of (map (entry_at_place es d) order) ≡ keys_of order
  keys_taken es d [] = refl
  keys_taken es d (o ∷ order) = ap (λ ks. o.0 ∷ ks) (keys_taken es d order)

  place_taken : (es : List (ℕ × X)) (d : ℕ × X) (order : List (ℕ × ℕ)) (n : ℕ) → place (map (entry_at_place es d) order) n ≡ place order n
  place_taken es d [] n = refl
  place_taken es d (o ∷ order) n = ap (λ r. match_ordering (nat_cmp n o.0) (Err 0) (Ok 0) (one_further r)) (place_taken es d order n)

  -- what the list says of the entries in their order
  pub ordered_place : (es : List (ℕ × X)) (order : List (ℕ × ℕ)) (n : ℕ) → 0 < length order → AreArrivals es order → place order n ≡ place (in_order es order) n
  ordered_place es [] n some h = absurd (omega (arith, some))
  ordered_place [] (o ∷ order) n some h = absurd (no_place (o ∷ order) some h.places)
  ordered_place (e ∷ es) (o ∷ order) n some h = sym (place_taken (e ∷ es) e (o ∷ order) n)

  pub ordered_keys : (es : List (ℕ × X)) (order : List (ℕ × ℕ)) → 0 < length order → AreArrivals es order → IsStrictlySortedBy nat_cmp (keys_of order)
  ordered_keys es [] some h = absurd (omega (arith, some))
  ordered_keys [] (o ∷ order) some h = absurd (no_place (o ∷ order) some h.places)
  ordered_keys (e ∷ es) (o ∷ order) some h = subst (IsStrictlySortedBy nat_cmp) (keys_taken (e ∷ es) e (o ∷ order)) h.sorted

  pub ordered_length : (es : List (ℕ × X)) (order : List (ℕ × ℕ)) → 0 < length order → AreArrivals es order → length order ≡ length (in_order es order)
  ordered_length es [] some h = absurd (omega (arith, some))
  ordered_length [] (o ∷ order) some h = absurd (no_place (o ∷ order) some h.places)
  ordered_length (e ∷ es) (o ∷ order) some h = sym (length-map (o ∷ order) (entry_at_place (e ∷ es) e))

  -- one entry more, which leaves those at the places before it
  more_taken : (es : List (ℕ × X)) (x d : ℕ × X) (order : List (ℕ × ℕ)) → All (λ o. o.1 < length es) order
      → map (entry_at_place (es ++ x ∷ []) d) order ≡ map (entry_at_place es d) order
  more_taken es x d [] all = refl
  more_taken es x d (o ∷ order) all =
      let here : get_or (es ++ x ∷ []) o.1 d ≡ get_or es o.1 d = get_or_append_left es (x ∷ []) d o.1 (All-head (λ (o : ℕ × ℕ). o.1 < length es) o order all) in
      ap (λ (p : X × List (ℕ × X)). (o.0, p.0) ∷ p.1) (λ i. ((here i).1, more_taken es x d order (All-tail (λ (o : ℕ × ℕ). o.1 < length es) o order all) i))

  put_taken : (es : List (ℕ × X)) (n : ℕ) (v : X) (d : ℕ × X) (order : List (ℕ × ℕ)) → All (λ o. o.1 < length es) order
      → map (entry_at_place (es ++ (n, v) ∷ []) d) (insert_entry nat_cmp order n (length es)) ≡ insert_entry nat_cmp (map (entry_at_place es d) order) n v
  put_taken es n v d [] all = ap (λ (e : ℕ × X). (n, e.1) ∷ []) (get_or_push es (n, v) d (length es) refl)
  put_taken es n v d (o ∷ order) all =
      let new : (get_or (es ++ (n, v) ∷ []) (length es) d).1 ≡ v = ap (λ (e : ℕ × X). e.1) (get_or_push es (n, v) d (length es) refl) in
      let rest = All-tail (λ (o : ℕ × ℕ). o.1 < length es) o order all in
      elim (nat_cmp n o.0) as (λ c. map (entry_at_place (es ++ (n, v) ∷ []) d) (match_ordering c ((n, length es) ∷ o ∷ order) ((o.0, length es) ∷ order) (o ∷ insert_entry nat_cmp order n (length es)))
      ≡ match_ordering c ((n, v) ∷ map (entry_at_place es d) (o ∷ order)) ((o.0, v) ∷ map (entry_at_place es d) order) (entry_at_place es d o ∷ insert_entry nat_cmp (map (entry_at_place es d) order) n v)) [
        | Less ↦ ap (λ (p : X × List (ℕ × X)). (n, p.0) ∷ p.1) (λ i. (new i, more_taken es (n, v) d (o ∷ order) all i))
        | Equal ↦ ap (λ (p : X × List (ℕ × X)). (o.0, p.0) ∷ p.1) (λ i. (new i, more_taken es (n, v) d order rest i))
        | Greater ↦
            let here : get_or (es ++ (n, v) ∷ []) o.1 d ≡ get_or es o.1 d = get_or_append_left es ((n, v) ∷ []) d o.1 (All-head (λ (o : ℕ × ℕ). o.1 < length es) o order all) in
            ap (λ (p : X × List (ℕ × X)). (o.0, p.0) ∷ p.1) (λ i. ((here i).1, put_taken es n v d order rest i))
      ]

  -- so with one entry more at its place in the order
  in_all : (es : List (ℕ × X)) (order : List (ℕ × ℕ)) → 0 < length order → in_order es order ≡ all_taken es order
  in_all es [] some = absurd (omega (arith, some))
  in_all es (o ∷ order) some = refl

  pub put_listed : (es : List (ℕ × X)) (order : List (ℕ × ℕ)) (n : ℕ) (v : X) → 0 < length order → AreArrivals es order
      → in_order (es ++ (n, v) ∷ []) (insert_entry nat_cmp order n (length es)) ≡ insert_entry nat_cmp (in_order es order) n v
  put_listed es [] n v some h = absurd (omega (arith, some))
  put_listed [] (o ∷ order) n v some h = absurd (no_place (o ∷ order) some h.places)
  put_listed (e ∷ es) (o ∷ order) n v some h =
      in_all (e ∷ es ++ (n, v) ∷ []) (insert_entry nat_cmp (o ∷ order) n (length (e ∷ es))) (some_put n (length (e ∷ es)) (o ∷ order))
      ∙ put_taken (e ∷ es) n v e (o ∷ order) h.places

  pub put_arrivals : (es : List (ℕ × X)) (order : List (ℕ × ℕ)) (n : ℕ) (v : X) → 0 < length order → AreArrivals es order
      → AreArrivals (es ++ (n, v) ∷ []) (insert_entry nat_cmp order n (length es))
  put_arrivals es order n v some h = record {
    sorted = subst (λ (es : List (ℕ × X)). IsStrictlySortedBy nat_cmp (keys_of es)) (sym (put_listed es order n v some h)) (ordered_put n v (in_order es order) h.sorted);
    places = subst (λ m. All (λ (o : ℕ × ℕ). o.1 < m) (insert_entry nat_cmp order n (length es))) (sym (length-append es ((n, v) ∷ [])))
        (all_put (λ m. m < length es + 1) n (length es) order (omega arith) (λ k d lt. omega (arith, h.places k d lt)));
  }

  -- the places of the first of the entries, where these came in the order of their numbers
  pub record AreListed (es : List (ℕ × X)) (order : List (ℕ × ℕ)) (places : ℕ) : Type 0 where
    pub count : length order ≡ places
    pub each : (k : ℕ) (p : ℕ × ℕ) (d : ℕ × X) → k < places → get_or order k p ≡ ((get_or es k d).0, k)

  pub one_listed : (es : List (ℕ × X)) (order : List (ℕ × ℕ)) (place : ℕ) (x : ℕ × X) → place < length es → x ≡ get_or es place x → AreListed es order place
      → AreListed es (order ++ (x.0, place) ∷ []) (place + 1)
  one_listed es order place x inside is h = record {
    count = let more = length-append order ((x.0, place) ∷ []) in omega (arith, more, h.count);
    each = λ k p d lt. elim (cases_lt k place) [
      | inl before ↦ get_or_append_left order ((x.0, place) ∷ []) p k (omega (arith, before, h.count)) ∙ h.each k p d before
      | inr here ↦
          let same : place ≡ k = omega (arith, here, lt) in
          subst (λ i. get_or (order ++ (x.0, place) ∷ []) i p ≡ ((get_or es i d).0, i)) same
          (get_or_push order (x.0, place) p place h.count ∙ ap (λ (e : ℕ × X). (e.0, place)) (is ∙ get_or_default es place x d inside))
    ];
  }

  listed_places : (es : List (ℕ × X)) (order : List (ℕ × ℕ)) → AreListed es order (length es) → All (λ o. o.1 < length es) order
  listed_places [] [] h = λ k d lt. absurd (omega (arith, lt))
  listed_places [] (o ∷ order) h = absurd (omega (arith, h.count))
  listed_places (e ∷ es) order h = λ k d lt. let inside : k < length (e ∷ es) = omega (arith, lt, h.count) in
      subst (λ (o : ℕ × ℕ). o.1 < length (e ∷ es)) (sym (h.each k d e inside)) inside

  pub all_listed : (es : List (ℕ × X)) (order : List (ℕ × ℕ)) → AreListed es order (length es) → in_order es order ≡ es
  all_listed es [] h = refl
  all_listed [] (o ∷ order) h = absurd (omega (arith, h.count))
  all_listed (e ∷ es) (o ∷ order) h =
      ext_get_or e (map (entry_at_place (e ∷ es) e) (o ∷ order)) (e ∷ es) (length-map (o ∷ order) (entry_at_place (e ∷ es) e) ∙ h.count)
      (λ k lt. let inside : k < length (o ∷ order) = subst (λ n. k < n) (length-map (o ∷ order) (entry_at_place (e ∷ es) e)) lt in
      get_or-map (entry_at_place (e ∷ es) e) (o ∷ order) k o e inside ∙ ap (entry_at_place (e ∷ es) e) (h.each k o e (omega (arith, inside, h.count))))

  pub listed_arrivals : (es : List (ℕ × X)) (order : List (ℕ × ℕ)) → AreListed es order (length es) → AreArrivals es [] → AreArrivals es order
  listed_arrivals es order h before = record {
    sorted = subst (λ (es : List (ℕ × X)). IsStrictlySortedBy nat_cmp (keys_of es)) (sym (all_listed es order h)) before.sorted;
    places = listed_places es order h;
  }

  -- a number's place in the list, as in the entries' order
  pub listed_goes : (es : List (ℕ × X)) (order : List (ℕ × ℕ)) (n at : ℕ) → 0 < length order → AreArrivals es order → place (in_order es order) n ≡ Err at → Goes n order at
  listed_goes es order n at some h there = goes n order at (ordered_keys es order some h) (ordered_place es order n some h ∙ there)

  pub listed_stands : (es : List (ℕ × X)) (order : List (ℕ × ℕ)) (n at : ℕ) → 0 < length order → AreArrivals es order → place (in_order es order) n ≡ Ok at → Stands n order at
  listed_stands es order n at some h there = stands n order at (ordered_place es order n some h ∙ there)

  -- entries without a list, with one behind them or one changed
  unlisted_added : (es : List (ℕ × X)) (n : ℕ) (v : X) → AreArrivals es [] → place es n ≡ Err (length es) → es ++ (n, v) ∷ [] ≡ insert_entry nat_cmp es n v
  unlisted_added es n v h there = sym (insert_end es (n, v)) ∙ (goes n es (length es) h.sorted there).put v

  unlisted_arrivals : (es more : List (ℕ × X)) (n : ℕ) (v : X) → AreArrivals es [] → more ≡ insert_entry nat_cmp es n v → AreArrivals more []
  unlisted_arrivals es more n v h is = record {
    sorted = subst (λ (es : List (ℕ × X)). IsStrictlySortedBy nat_cmp (keys_of es)) (sym is) (ordered_put n v es h.sorted);
    places = All-nil (λ (o : ℕ × ℕ). o.1 < length more);
  }

  -- the same of a list that is empty
  pub unlisted_add : (es : List (ℕ × X)) (order : List (ℕ × ℕ)) (n at : ℕ) (v : X) → order ≡ [] → AreArrivals es order → place (in_order es order) n ≡ Err at
      → at ≡ length es
      → (in_order (es ++ (n, v) ∷ []) order ≡ insert_entry nat_cmp (in_order es order) n v) × AreArrivals (es ++ (n, v) ∷ []) order
  unlisted_add es (o ∷ order) n at v none h there last = absurd (omega (arith, ap length none))
  unlisted_add es [] n at v none h there last =
      let is = unlisted_added es n v h (there ∙ ap Err last) in
      (is, unlisted_arrivals es (es ++ (n, v) ∷ []) n v h is)

  pub unlisted_replace : (es : List (ℕ × X)) (order : List (ℕ × ℕ)) (n at : ℕ) (v : X) → order ≡ [] → AreArrivals es order → place (in_order es order) n ≡ Ok at
      → (at < length es) × (in_order (set es at (n, v)) order ≡ insert_entry nat_cmp (in_order es order) n v) × AreArrivals (set es at (n, v)) order
  unlisted_replace es (o ∷ order) n at v none h there = absurd (omega (arith, ap length none))
  unlisted_replace es [] n at v none h there =
      let here = stands n es at there in
      (here.inside, here.put v, unlisted_arrivals es (set es at (n, v)) n v h (here.put v))

  -- no entries at first
  pub none_arrive : (es : List (ℕ × X)) (order : List (ℕ × ℕ)) → es ≡ [] → order ≡ [] → AreArrivals es order
  none_arrive (e ∷ es) order none unlisted = absurd (omega (arith, ap length none))
  none_arrive [] (o ∷ order) none unlisted = absurd (omega (arith, ap length unlisted))
  none_arrive [] [] none unlisted = record { sorted = none_ordered X; places = All-nil (λ (o : ℕ × ℕ). o.1 < 0) }
