-- An order whose lines are all taken is explained by what was read.
use Rattle.std.proofs.Common.{◌≡◌, ℕ, pos, ◌≤◌, ◌+ℤ◌, ◌*ℤ◌, cond, is_some, Option, Some, None, List, [], ◌∷◌, ◌++◌, fold, All, refl, sym, ap, ◌∙◌, subst, Bool}
use Rattle.std.proofs.Common.{true, false}
use Rattle.std.proofs.lemmas.List.{append-nil}
use Rattle.std.proofs.lemmas.List.Elements.{All-nil, All-cons, All-head, All-tail}
use Rattle.std.specs.Option.{option_map, option_map_or}
use Rattle.std.specs.FinMap.{get}
use Rattle.money.specs.Total.{total_amount}
use Rattle.tables.specs.Sizes.{Sizes}
use Rattle.tables.specs.Keys.{IsOrderKey, IsItemKey}
use Rattle.tables.specs.Maps.{RowsWithin}
use Rattle.tables.specs.Database.{Database}
use Rattle.tables.specs.OrderNumbers.{next_order}
use Rattle.tables.specs.Rows.{rows}
use Rattle.tables.specs.NewOrder.{IsRequestedLine, first_missing, home, buyer, lines_amount, discount, warehouse_tax, district_tax, new_order_reply}
use Rattle.tables.specs.NewOrder.{after_new_order}
use Rattle.tables.specs.Apply.{Committed, order_unless, left_by, after}
use Rattle.tables.specs.declared.keys.OrderKey.{OrderKey}
use Rattle.tables.specs.declared.new_order.RequestedLine.{RequestedLine}
use Rattle.tables.specs.declared.new_order.NewOrderInput.{NewOrderInput}
use Rattle.tables.specs.declared.new_order.SuppliedLine.{SuppliedLine}
use Rattle.tables.specs.declared.input.Input.TheVariants as input
use Rattle.tables.specs.declared.reply.Reply.TheVariants as reply
use Rattle.readset.specs.Writes.{added}
use Rattle.readset.specs.Commit.{IsCommitOf}
use Rattle.readset.specs.Explains.{IsCandidate}
use Rattle.readset.specs.Transaction.{TransactionView, AtAll}
use Rattle.neworder.specs.Steps.{AreTaken}
use Rattle.neworder.specs.Priced.{ArePriced}
use Rattle.neworder.specs.Replied.{order_reply_of}
use Rattle.neworder.specs.declared.prices.Priced.{Priced}

-- the first missing item, and the sum of the amounts, are the same at all tables that have the same items
pub same_missing : (t0 t : Database) (ls : List RequestedLine) → t.items ≡ t0.items → first_missing t ls ≡ first_missing t0 ls
same_missing t0 t [] items = refl
same_missing t0 t (l ∷ ls) items = λ i. cond (is_some (get (items i) l.item)) (same_missing t0 t ls items i) (Some l.item)

same_sum : (t0 t : Database) (ls : List RequestedLine) → t.items ≡ t0.items → lines_amount t ls ≡ lines_amount t0 ls
same_sum t0 t ls items = λ i. fold (λ a l. a +ℤ pos l.quantity *ℤ option_map_or (λ r. r.price) (get (items i) l.item) (pos 0)) (pos 0) ls

-- a column that is the same, counted as 0 where there is no row
same_column : {X : Type 0} (f : X → ℕ) (a b : Option X) → option_map f a ≡ option_map f b → option_map_or f a 0 ≡ option_map_or f b 0
same_column f None None e = refl
same_column f None (Some s) e = absurd cc
same_column f (Some r) None e = absurd cc
same_column f (Some r) (Some s) e = cc

-- lines of which no item is missing name items of the scale
pub items_there : (t : Database) (ls : List RequestedLine) → RowsWithin (IsItemKey t.scale) t.items → first_missing t ls ≡ None
    → All (IsRequestedLine t.scale) ls
    → All (λ l. IsRequestedLine t.scale l × IsItemKey t.scale l.item) ls
items_there t [] within none asked = All-nil _
items_there t (l ∷ ls) within none asked =
    go (is_some (get t.items l.item)) refl none (λ h. items_there t ls within h (All-tail (IsRequestedLine t.scale) l ls asked))
  where
    go : (b : Bool) → is_some (get t.items l.item) ≡ b → cond b (first_missing t ls) (Some l.item) ≡ None
        → (first_missing t ls ≡ None → All (λ l. IsRequestedLine t.scale l × IsItemKey t.scale l.item) ls)
        → All (λ l. IsRequestedLine t.scale l × IsItemKey t.scale l.item) (l ∷ ls)
    go true e h rest = All-cons (λ l. IsRequestedLine t.scale l × IsItemKey t.scale l.item) l ls
        (All-head (IsRequestedLine t.scale) l ls asked, within l.item e) (rest h)
    go false e h rest = absurd cc

module _ (t0 : Database) (x : NewOrderInput) (k : OrderKey) (under_way : TransactionView) (supplied : List SuppliedLine) (priced : Priced)
    (prices : ArePriced t0 x.lines priced) (taken : AreTaken t0 x k x.lines x.lines under_way supplied) (is_key : IsOrderKey t0.scale k)
    (no_history : under_way.writes.history_row ≡ None)
  where
    module _ (t : Database) (h : IsCandidate t0 under_way.reads t) where
      number : next_order t (home x) ≡ k.order
      number = ap (λ (j : OrderKey). j.order) (taken.at_order t h)

      replies : new_order_reply t x ≡ order_reply_of t0 x k priced.sum supplied
      replies =
          let o = h.of_population in
          let sum : lines_amount t x.lines ≡ priced.sum = same_sum t0 t x.lines o.items ∙ sym prices.sum in
          let less : discount t (buyer x) ≡ discount t0 (buyer x) = same_column (λ r. r.discount) (get t.customers (buyer x)) (get t0.customers (buyer x))
          (o.discounts (buyer x)) in
          let at_warehouse : warehouse_tax t x.warehouse ≡ warehouse_tax t0 x.warehouse = same_column (λ r. r.tax) (get t.warehouses x.warehouse)
          (get t0.warehouses x.warehouse) (o.warehouse_taxes x.warehouse) in
          let at_district : district_tax t (home x) ≡ district_tax t0 (home x) = same_column (λ r. r.tax) (get t.districts (home x)) (get t0.districts (home x))
          (o.district_taxes (home x)) in
          λ i. record {
            warehouse = x.warehouse;
            district = x.district;
            order = number i;
            customer = x.customer;
            amount = sum i;
            total = total_amount (sum i) (less i) (at_warehouse i) (at_district i);
            lines = taken.supplied t h i;
          }

      -- no item is missing, so it commits
      commit : first_missing t x.lines ≡ None → IsCommitOf t (input.NewOrder x) under_way.writes (reply.NewOrder (order_reply_of t0 x k priced.sum supplied))
      commit missing =
          let left : after t (input.NewOrder x) ≡ after_new_order t x = ap (λ (m : Option ℕ). left_by t (order_unless m t x)) missing in
          record {
            commits = ap (λ (m : Option ℕ). order_unless m t x) missing ∙ (λ i. Committed (sym left i) (reply.NewOrder (replies i)));
            numbered = subst (λ (q : ℕ × Sizes). q.0 ≤ q.1.orders) (λ i. (sym number i, sym h.of_population.scale i)) is_key.2.1;
            rows = λ n small. ap (λ (d : Database). rows d n) left ∙ (taken.holds t h).put_in n small;
            history = ap (λ (d : Database). d.history) left ∙ sym (append-nil t.history) ∙ ap (λ q. t.history ++ added q) (sym no_history);
            absent = (taken.holds t h).absent;
          }

    pub commits : AtAll t0 under_way (λ t. IsCommitOf t (input.NewOrder x) under_way.writes (reply.NewOrder (order_reply_of t0 x k priced.sum supplied)))
    commits t h = commit t h (same_missing t0 t x.lines h.of_population.items ∙ prices.none_missing)
