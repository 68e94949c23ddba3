-- The order that is taken in each district, when one district more is done.
use Rattle.std.proofs.Common.{◌≡◌, ◌≢◌, ℕ, ◌+◌, nat_le, true, false, cond, ◌==◌, ◌&&◌, Option, None, refl, ap, ◌∙◌, arith}
use Rattle.std.proofs.lemmas.Bool.{eqb-true}
use Rattle.std.proofs.lemmas.Bool.Decides.{nat_tests}
use Rattle.std.specs.Option.{option_map_or}
use Rattle.tables.specs.Database.{Database}
use Rattle.tables.specs.Delivery.{waiting}
use Rattle.tables.specs.declared.keys.DistrictKey.{DistrictKey}
use Rattle.tables.specs.declared.delivery.DeliveryInput.{DeliveryInput}
use Rattle.tables_laws.proofs.Touched.{self}
use Rattle.delivery.specs.Steps.{next_home, next_key, taken_by, is_taken_by}

-- a number that isn't the next is up to it where it is up to the one before
pub up_to_next : (d n : ℕ) → d ≢ n + 1 → nat_le d (n + 1) ≡ nat_le d n
up_to_next d n other = elim (nat_le d n) as (λ b. nat_le d n ≡ b → nat_le d (n + 1) ≡ b) [
  | true ↦ λ e. grind (arith, nat_tests)
  | false ↦ λ e. elim (nat_le d (n + 1)) as (λ b. nat_le d (n + 1) ≡ b → b ≡ false)
      [ true ↦ λ f. let same : d ≡ n + 1 = grind (arith, nat_tests) in absurd (other same) | false ↦ λ f. refl ] refl
] refl

module _ (t : Database) (x : DeliveryInput) (n : ℕ) where
  -- another district's is what it was
  pub taken_other : (k : DistrictKey) → k ≢ next_home x n → taken_by t x (n + 1) k ≡ taken_by t x n k
  taken_other k other = elim (k.warehouse == x.warehouse) as
      (λ b. (k.warehouse == x.warehouse) ≡ b → cond (b && nat_le k.district (n + 1)) (waiting t k) None ≡ cond (b && nat_le k.district n) (waiting t k) None) [
        | true ↦ λ e. ap (λ b. cond b (waiting t k) None)
            (up_to_next k.district n (λ same. other (λ i. record { warehouse = eqb-true k.warehouse x.warehouse e i; district = same i })))
        | false ↦ λ e. refl
      ] refl

  not_yet : nat_le (n + 1) n ≡ false
  not_yet = grind (arith, nat_tests)

  now : nat_le (n + 1) (n + 1) ≡ true
  now = grind (arith, nat_tests)

  -- in its own district none was taken before, and now the one that waits
  pub taken_before : taken_by t x n (next_home x n) ≡ None
  taken_before = λ i. cond (self x.warehouse i && not_yet i) (waiting t (next_home x n)) None

  pub taken_now : taken_by t x (n + 1) (next_home x n) ≡ waiting t (next_home x n)
  taken_now = λ i. cond (self x.warehouse i && now i) (waiting t (next_home x n)) None

  -- so of each order of it
  pub is_taken_before : (m : ℕ) → is_taken_by t x n (next_key x n m) ≡ false
  is_taken_before m = ap (λ (o : Option ℕ). option_map_or (λ q. q == m) o false) taken_before

  pub is_taken_now : (o : Option ℕ) (m : ℕ) → waiting t (next_home x n) ≡ o → is_taken_by t x (n + 1) (next_key x n m) ≡ option_map_or (λ q. q == m) o false
  is_taken_now o m waits = ap (λ (o : Option ℕ). option_map_or (λ q. q == m) o false) (taken_now ∙ waits)
