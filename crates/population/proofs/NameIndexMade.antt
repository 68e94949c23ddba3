-- The names of a table's customers, by whether a name is among them.
use Rattle.std.proofs.Common.{◌≡◌, Bool, true, false, ◌||◌, cond, List, [], ◌∷◌, map, is_some, refl, sym, ap, ◌∙◌, subst}
use Rattle.std.specs.List.{list_any}
use Rattle.std.specs.List.Sorted.{IsStrictlySortedBy}
use Rattle.std.specs.Ordering.{eq_by_cmp}
use Rattle.std.specs.Cmp.{eq_by_cmp_equiv}
use Rattle.std.specs.BTreeMap as tree
use Rattle.std.specs.BTreeMap.{BTreeMap}
use Rattle.std.specs.FinMap.{find, keys, from_entries, get-from_entries, same_map}
use Rattle.std.specs.declared.cmp.Ordering.{Ordering}
use Rattle.std.specs.Prelude.{Option, Some, None}
use Rattle.tables.specs.Keys.{customer_cmp}
use Rattle.tables.specs.Names.{name_cmp, name_of, names}
use Rattle.tables.specs.declared.names.NameKey.{NameKey}
use Rattle.tables.specs.declared.keys.CustomerKey.{CustomerKey}
use Rattle.tables.specs.declared.rows.Customer.{Customer}
use Rattle.tables.proofs.Orders.{IsExact, exact_name, exact_customer}
use Rattle.tables.proofs.Totals.{sorted, entries_of_sorted, entries-view}

abbrev pub named_entry : CustomerKey × Customer → NameKey
named_entry e = name_of e.0 e.1

or_swap : (a b c : Bool) → ((a || b) || c) ≡ (b || (a || c))
or_swap true true c = refl
or_swap true false c = refl
or_swap false b c = refl

or_false : (b : Bool) → (b || false) ≡ b
or_false true = refl
or_false false = refl

-- one more name, of the next customer
pub more : (q : NameKey) (e : CustomerKey × Customer) (old new : Bool) (all its rest : List (CustomerKey × Customer)) → its ≡ e ∷ rest
    → new ≡ (eq_by_cmp name_cmp q (named_entry e) || old)
    → (old || list_any (eq_by_cmp name_cmp q) (map named_entry its)) ≡ list_any (eq_by_cmp name_cmp q) (map named_entry all)
    → (new || list_any (eq_by_cmp name_cmp q) (map named_entry rest)) ≡ list_any (eq_by_cmp name_cmp q) (map named_entry all)
more q e old new all its rest next is before = ap (λ b. b || list_any (eq_by_cmp name_cmp q) (map named_entry rest)) is
    ∙ or_swap (eq_by_cmp name_cmp q (named_entry e)) old _ ∙ ap (λ l. old || list_any (eq_by_cmp name_cmp q) (map named_entry l)) (sym next) ∙ before

-- at the end none is left
pub none_left : (q : NameKey) (b all : Bool) (rest : List (CustomerKey × Customer)) → rest ≡ []
    → (b || list_any (eq_by_cmp name_cmp q) (map named_entry rest)) ≡ all → b ≡ all
none_left q b all rest none e = sym (or_false b) ∙ ap (λ l. b || list_any (eq_by_cmp name_cmp q) (map named_entry l)) (sym none) ∙ e

-- an insert, by a condition
as_or : (key old new : Bool) → new ≡ cond key true old → new ≡ (key || old)
as_or true old new e = e
as_or false old new e = e

pub inserted : (k q : NameKey) (old new : Bool) → new ≡ cond (eq_by_cmp name_cmp k q) true old → new ≡ (eq_by_cmp name_cmp q k || old)
inserted k q old new e = as_or _ old new e ∙ ap (λ b. b || old) ((eq_by_cmp_equiv exact_name.total).symm k q)

map_fst : {K : Type 0} (ks : List K) → map (λ (e : K × Unit {0}). e.0) (map (λ k. (k, tt)) ks) ≡ ks
map_fst [] = refl
map_fst (k ∷ ks) = ap (λ l. k ∷ l) (map_fst ks)

-- there is one thing that a key of a set may have
one_mark : (a b : Option (Unit {0})) → is_some a ≡ is_some b → a ≡ b
one_mark None None e = refl
one_mark None (Some u) e = absurd cc
one_mark (Some u) None e = absurd cc
one_mark (Some u) (Some v) e = refl

module _ {K : Type 0} {R : K → K → Ordering} (o : IsExact R) where
  found : (ks : List K) (q : K) → is_some (find {X = Unit {0}} R q (map (λ k. (k, tt)) ks)) ≡ list_any (eq_by_cmp R q) ks
  found [] q = refl
  found (k ∷ ks) q = elim (eq_by_cmp R q k) as
      (λ b. is_some (cond b (Some tt) (find {X = Unit {0}} R q (map (λ k. (k, tt)) ks))) ≡ (b || list_any (eq_by_cmp R q) ks))
      [ true ↦ refl | false ↦ found ks q ]

  -- lists with the same keys make the same map
  pub same_marks : (ks js : List K) → ((q : K) → list_any (eq_by_cmp R q) ks ≡ list_any (eq_by_cmp R q) js)
      → from_entries {X = Unit {0}} {R = R} (map (λ k. (k, tt)) ks) ≡ from_entries (map (λ k. (k, tt)) js)
  same_marks ks js same = same_map o.total o.same (from_entries (map (λ k. (k, tt)) ks)) (from_entries (map (λ k. (k, tt)) js))
      (λ q. one_mark _ _ (ap is_some (get-from_entries o.total (map (λ k. (k, tt)) ks) q) ∙ found ks q ∙ same q ∙ sym (found js q)
      ∙ ap is_some (sym (get-from_entries o.total (map (λ k. (k, tt)) js) q))))

  -- and where they rise, they stand as they do there
  pub keys_of_rising : (ks : List K) → IsStrictlySortedBy R ks → keys (from_entries {X = Unit {0}} {R = R} (map (λ k. (k, tt)) ks)) ≡ ks
  keys_of_rising ks rising =
      ap (map (λ (e : K × Unit {0}). e.0))
      (entries_of_sorted o (map (λ k. (k, tt)) ks) (sorted R (map (λ k. (k, tt)) ks) (subst (IsStrictlySortedBy R) (sym (map_fst ks)) rising))) ∙ map_fst ks

map_names : (es : List (CustomerKey × Customer)) → map (λ (e : CustomerKey × Customer). (name_of e.0 e.1, tt)) es ≡ map {B = NameKey × Unit {0}} (λ k. (k, tt))
    (map named_entry es)
map_names [] = refl
map_names (e ∷ es) = ap (λ l. (name_of e.0 e.1, tt) ∷ l) (map_names es)

-- rising keys with the names of all customers are their names
pub all_names : (customers : BTreeMap CustomerKey Customer) (ks : List NameKey) → tree.IsOrdered customer_cmp customers → IsStrictlySortedBy name_cmp ks
    → ((q : NameKey) → list_any (eq_by_cmp name_cmp q) ks ≡ list_any (eq_by_cmp name_cmp q) (map named_entry customers.entries))
    → ks ≡ names (from_entries customers.entries)
all_names customers ks ordered rising same =
    sym (ap (λ es. keys (from_entries {X = Unit {0}} {R = name_cmp} (map (λ (e : CustomerKey × Customer). (name_of e.0 e.1, tt)) es)))
    (entries-view exact_customer customers ordered)
    ∙ ap (λ es. keys (from_entries {X = Unit {0}} {R = name_cmp} es)) (map_names customers.entries)
    ∙ ap keys (same_marks exact_name (map named_entry customers.entries) ks (λ q. sym (same q))) ∙ keys_of_rising exact_name ks rising)
