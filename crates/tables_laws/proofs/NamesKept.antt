-- Names never change, so whom a last name means never does.
use Rattle.std.proofs.Common.{◌≡◌, ℕ, Option, Some, None, IsSome, true≢false, List, [], ◌∷◌, map, pos, refl, sym, ap, ◌∙◌, subst}
use Rattle.std.proofs.lemmas.Option.{same_Some}
use Rattle.std.specs.Option.{option_map, unwrap_or}
use Rattle.std.specs.FinMap.{FinMap, get, entries, keys, from_entries, same_map}
use Rattle.tables.specs.Sizes.{Sizes, IsNumber}
use Rattle.tables.specs.Customer.{IsWho, customer_number}
use Rattle.tables.specs.declared.customer.Who.{Who}
use Rattle.tables.specs.declared.customer.Who.TheVariants.{Id, Last}
use Rattle.tables.specs.Keys.{customer_cmp, IsDistrictKey}
use Rattle.tables.specs.Maps.{map_rows, map_entries}
use Rattle.tables.specs.Names.{name_cmp, name_of, names, customer_named}
use Rattle.tables.specs.Database.{Database}
use Rattle.tables.specs.Constant.{IsOf}
use Rattle.tables.specs.WellFormed.{IsWellFormed, HasLastNames}
use Rattle.tables.specs.declared.keys.DistrictKey.{DistrictKey}
use Rattle.tables.specs.declared.keys.CustomerKey.{CustomerKey}
use Rattle.tables.specs.declared.names.NameKey.{NameKey}
use Rattle.tables.specs.declared.rows.Credit.TheVariants.{Good}
use Rattle.tables.specs.declared.rows.Customer.{Customer}
use Rattle.tables.proofs.Orders.{exact_customer}
use Rattle.tables.proofs.Named.{its_customer}
use Rattle.tables_laws.proofs.Updates.{entries-map_rows, get-map_rows}

-- a row of the same names, and nothing else of this one
bare : Customer → Customer
bare r = record { first_name = r.first_name; last_name = r.last_name; credit = Good; discount = 0; balance = pos 0; paid = pos 0; payments = 0; deliveries = 0 }

bared : FinMap customer_cmp Customer → FinMap customer_cmp Customer
bared m = map_rows (λ k r. bare r) m

same_bare : (a b : Option Customer) → option_map (λ r. r.first_name) a ≡ option_map (λ r. r.first_name) b
    → option_map (λ r. r.last_name) a ≡ option_map (λ r. r.last_name) b → option_map bare a ≡ option_map bare b
unfolding bare
same_bare None None f l = refl
same_bare None (Some s) f l = absurd cc
same_bare (Some r) None f l = absurd cc
same_bare (Some r) (Some s) f l =
    λ i. Some (record {
      first_name = same_Some _ _ f i;
      last_name = same_Some _ _ l i;
      credit = Good;
      discount = 0;
      balance = pos 0;
      paid = pos 0;
      payments = 0;
      deliveries = 0;
    })

names_listed : (es : List (CustomerKey × Customer)) → map {B = NameKey × Unit {0}} (λ (e : CustomerKey × Customer). (name_of e.0 e.1, tt))
    (map_entries (λ k r. bare r) es) ≡ map (λ (e : CustomerKey × Customer). (name_of e.0 e.1, tt)) es
unfolding bare
names_listed [] = refl
names_listed (e ∷ es) = ap (λ l. (name_of e.0 e.1, tt) ∷ l) (names_listed es)

names_bared : (m : FinMap customer_cmp Customer) → names (bared m) ≡ names m
unfolding bared
names_bared m =
    ap (λ es. keys (from_entries {X = Unit {0}} {R = name_cmp} (map (λ (e : CustomerKey × Customer). (name_of e.0 e.1, tt)) es)))
    (entries-map_rows (λ k r. bare r) m)
    ∙ ap (λ es. keys (from_entries {X = Unit {0}} {R = name_cmp} es)) (names_listed (entries m))

pub same_names : (t0 t : Database) → IsOf t0 t → names t.customers ≡ names t0.customers
unfolding bared
same_names t0 t h =
    let rows : bared t.customers ≡ bared t0.customers = same_map exact_customer.total exact_customer.same (bared t.customers) (bared t0.customers)
    (λ k. get-map_rows exact_customer (λ _ r. bare r) t.customers k ∙ same_bare (get t.customers k) (get t0.customers k) (h.first_names k) (h.last_names k)
    ∙ sym (get-map_rows exact_customer (λ _ r. bare r) t0.customers k)) in
    sym (names_bared t.customers) ∙ ap names rows ∙ names_bared t0.customers

pub last_names_stay : (t0 t : Database) → IsOf t0 t → HasLastNames t0 → HasLastNames t
last_names_stay t0 t h there d is n below name =
    rw (same_names t0 t h) (there d (subst (λ (s : Sizes). IsDistrictKey s d) h.scale is) n (rw (sym h.scale) below) name)

-- a database is of itself
pub IsOf-itself : (t : Database) → IsOf t t
IsOf-itself t = record {
  scale = refl;
  keeps = refl;
  warehouse_taxes = λ w. refl;
  district_taxes = λ k. refl;
  first_names = λ k. refl;
  last_names = λ k. refl;
  credit =
      λ k. refl;
  discounts = λ k. refl;
  items = refl;
}

-- whom a terminal means is the same customer
pub same_number : (t0 t : Database) (d : DistrictKey) (who : Who) → IsOf t0 t → customer_number t d who ≡ customer_number t0 d who
same_number t0 t d (Id c) h = refl
same_number t0 t d (Last n) h = ap (λ ks. unwrap_or (customer_named ks d n) 0) (same_names t0 t h)

-- and a customer of the scale
pub is_number_of : (t : Database) (d : DistrictKey) (who : Who) → IsWellFormed t → IsDistrictKey t.scale d → IsWho t.scale who
    → IsNumber t.scale.customers (customer_number t d who)
is_number_of t d (Id c) wf is who = who
is_number_of t d (Last n) wf is who = go (customer_named (names t.customers) d n) refl (wf.last_names d is n who.0 who.1)
  where
    go : (o : Option ℕ) → customer_named (names t.customers) d n ≡ o → IsSome o → IsNumber t.scale.customers (unwrap_or o 0)
    go None at some = absurd (true≢false (sym some))
    go (Some c) at some = ((wf.customers _).0 (its_customer t.customers d n c at)).2
