-- What a population may become, and what that may become in turn.
use Rattle.std.proofs.Common.{◌≡◌, ◌∙◌, ◌++◌, List, ap}
use Rattle.std.proofs.lemmas.List.{append_assoc}
use Rattle.tables.specs.Database.{Database}
use Rattle.tables.specs.Constant.{IsOf}
use Rattle.tables.specs.declared.rows.History.{History}
use Rattle.book.specs.Base.{HasBecome}

pub becomes : {p t0 t : Database} → IsOf p t0 → IsOf t0 t → IsOf p t
becomes first then = record {
  scale = then.scale ∙ first.scale;
  keeps = then.keeps ∙ first.keeps;
  warehouse_taxes = λ w. then.warehouse_taxes w ∙ first.warehouse_taxes w;
  district_taxes = λ k. then.district_taxes k ∙ first.district_taxes k;
  first_names = λ k. then.first_names k ∙ first.first_names k;
  last_names = λ k. then.last_names k ∙ first.last_names k;
  credit = λ k. then.credit k ∙ first.credit k;
  discounts = λ k. then.discounts k ∙ first.discounts k;
  items = then.items ∙ first.items;
}

-- rows behind those that a run began with stand behind the population's
pub rows_behind : {p t0 : Database} {rows : List History} (t : Database) (more : List History) → HasBecome p t0 rows → t.history ≡ t0.history ++ more
    → t.history ≡ p.history ++ (rows ++ more)
rows_behind {p = p} {rows = rows} t more become is = is ∙ ap (λ l. l ++ more) become.history ∙ append_assoc p.history rows more
