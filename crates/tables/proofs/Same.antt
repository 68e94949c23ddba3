-- Two databases are the same where each of their tables is.
use Rattle.std.proofs.Common.{◌≡◌}
use Rattle.tables.specs.Database.{Database}

-- the parts of two databases are the same, each by its name
pub record HaveSame (t u : Database) : Type 0 where
  pub scale : t.scale ≡ u.scale
  pub keeps_texts : t.keeps_texts ≡ u.keeps_texts
  pub warehouses : t.warehouses ≡ u.warehouses
  pub districts : t.districts ≡ u.districts
  pub customers : t.customers ≡ u.customers
  pub texts : t.texts ≡ u.texts
  pub history : t.history ≡ u.history
  pub new_orders : t.new_orders ≡ u.new_orders
  pub orders : t.orders ≡ u.orders
  pub lines : t.lines ≡ u.lines
  pub items : t.items ≡ u.items
  pub stock : t.stock ≡ u.stock

pub same_database : (t u : Database) → HaveSame t u → t ≡ u
same_database t u same = λ i. record {
  scale = same.scale i;
  keeps_texts = same.keeps_texts i;
  warehouses = same.warehouses i;
  districts = same.districts i;
  customers = same.customers i;
  texts = same.texts i;
  history = same.history i;
  new_orders = same.new_orders i;
  orders = same.orders i;
  lines = same.lines i;
  items = same.items i;
  stock = same.stock i;
}
