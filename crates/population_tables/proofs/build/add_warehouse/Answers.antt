use Rattle.tables.proofs.Orders.{exact_number}
use Rattle.population_tables.proofs.Added.{is_eq-nat_cmp, adds_one, rows_as}
use Rattle.population_tables.proofs.build.add_warehouse.Goals as goal

pub returns : goal.returns
returns g c =
    let others = c.in_ok-add_districts.ensures.others in record {
      warehouses = rows_as others.warehouses
          (adds_one exact_number c.args.tables.now.warehouses c.insert.new.self c.args.warehouse _ c.warehouse.ensures
          (λ q. is_eq-nat_cmp q c.args.warehouse) c.in_ok-insert.ensures.updates);
      stock = rows_as others.stock c.in_ok-add_stock.ensures;
      districts = record {
        scale = c.in_ok-add_districts.ensures.districts.scale;
        keeps_texts = c.in_ok-add_districts.ensures.districts.keeps_texts;
        districts = c.in_ok-add_districts.ensures.districts.districts;
        customers = c.in_ok-add_districts.ensures.districts.customers;
        texts = c.in_ok-add_districts.ensures.districts.texts;
        history = c.in_ok-add_districts.ensures.districts.history;
        new_orders = c.in_ok-add_districts.ensures.districts.new_orders;
        orders = c.in_ok-add_districts.ensures.districts.orders;
      };
      items = others.items;
    }
