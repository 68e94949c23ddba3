-- Whether a row passes a test: tests that agree on the rows, and one key more.
use Rattle.std.proofs.Common.{◌≡◌, Bool, true, false, cond, T, ◌&&◌, ◌||◌, List, [], ◌∷◌, Option, Some, None, refl, sym, ap, ◌∙◌}
use Rattle.std.specs.List.{list_any}
use Rattle.std.specs.Option.{option_map_or}
use Rattle.std.specs.Ordering.{eq_by_cmp}
use Rattle.std.specs.FinMap.{FinMap, entries, entries_sorted, get, get-entries, find, is_sorted}
use Rattle.std.specs.declared.cmp.Ordering.{Ordering}
use Rattle.tables.specs.Maps.{EachRow}
use Rattle.tables.proofs.Orders.{IsExact}
use Rattle.tables.proofs.Entries.{first, second, found_first, found_after, absent_after}

same_key : (p f l : Bool) → (((p || true) && f) || (l || false)) ≡ (((p && f) || l) || f)
same_key true true l = refl
same_key true false l = refl
same_key false true true = refl
same_key false true false = refl
same_key false false true = refl
same_key false false false = refl

other_key : (p f l g : Bool) → (((p || false) && f) || (l || g)) ≡ (((p && f) || l) || g)
other_key true true l g = refl
other_key true false l g = refl
other_key false f l g = refl

module _ {K X : Type 0} {R : K → K → Ordering} (o : IsExact R) where
  entries_alike : (p q : K × X → Bool) (es : List (K × X)) → T (is_sorted R es) → ((k : K) (r : X) → find R k es ≡ Some r → p (k, r) ≡ q (k, r))
      → list_any p es ≡ list_any q es
  entries_alike p q [] h same = refl
  entries_alike p q (e ∷ es) h same = λ i.
      same e.0 e.1 (found_first o e es) i || entries_alike p q es (second _ _ h) (λ k r found. same k r (found_after o k r e es (first _ _ h) found)) i

  -- tests that agree on each row
  pub any_alike : (p q : K × X → Bool) (m : FinMap R X) → EachRow (λ k r. p (k, r) ≡ q (k, r)) m → list_any p (entries m) ≡ list_any q (entries m)
  any_alike p q m same = entries_alike p q (entries m) (entries_sorted m) (λ k r found. same k r (get-entries m k ∙ found))

  -- a test that the key a passes too
  module _ (p q : K → Bool) (f : X → Bool) (a : K) (more : (k : K) → q k ≡ (p k || eq_by_cmp R a k)) where
    abbrev any_of : (K → Bool) → List (K × X) → Bool
    any_of t es = list_any (λ (e : K × X). t e.0 && f e.1) es

    entries_more : (es : List (K × X)) → T (is_sorted R es) → any_of q es ≡ (any_of p es || option_map_or f (find R a es) false)
    entries_more [] h = refl
    entries_more (e ∷ es) h =
        let rest : any_of q es ≡ (any_of p es || option_map_or f (find R a es) false) = entries_more es (second _ _ h) in
        elim (eq_by_cmp R a e.0) as
        (λ b. eq_by_cmp R a e.0 ≡ b
        → ((q e.0 && f e.1) || any_of q es) ≡ (((p e.0 && f e.1) || any_of p es) || option_map_or f (cond b (Some e.1) (find R a es)) false)) [
          | true ↦ λ t.
              let none : find R a es ≡ None = absent_after o a e es (first _ _ h) t in
              let now : q e.0 ≡ (p e.0 || true) = more e.0 ∙ ap (λ b. p e.0 || b) t in
              let later : any_of q es ≡ (any_of p es || false) = rest ∙ ap (λ (w : Option X). any_of p es || option_map_or f w false) none in
              (λ i. (now i && f e.1) || later i) ∙ same_key (p e.0) (f e.1) (any_of p es)
          | false ↦ λ t.
              let now : q e.0 ≡ (p e.0 || false) = more e.0 ∙ ap (λ b. p e.0 || b) t in
              (λ i. (now i && f e.1) || rest i) ∙ other_key (p e.0) (f e.1) (any_of p es) (option_map_or f (find R a es) false)
        ] refl

    pub any_more : (m : FinMap R X) → any_of q (entries m) ≡ (any_of p (entries m) || option_map_or f (get m a) false)
    any_more m = entries_more (entries m) (entries_sorted m) ∙ ap (λ (w : Option X). any_of p (entries m) || option_map_or f w false) (sym (get-entries m a))
