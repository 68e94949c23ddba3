-- What a Payment leaves of C_DATA of its customer, at a plain population.
use Rattle.std.proofs.Common.{◌≡◌, ℕ, false, ◌&&◌, cond, List, Some, ◌∙◌}
use Rattle.std.specs.FinMap.{get}
use Rattle.std.specs.Option.{option_map, option_map_or}
use Rattle.customer_data.specs.Text.{put_left, first_text}
use Rattle.customer_data.specs.Payments.{payment_text}
use Rattle.tables.specs.Apply.{after}
use Rattle.tables.specs.Database.{Database}
use Rattle.tables.specs.Keys.{IsCustomerKey, is_customer}
use Rattle.tables.specs.Payment.{is_bad, front_of, changes_text}
use Rattle.tables.specs.Sizes.{Sizes, sizes}
use Rattle.tables.specs.declared.input.Input.TheVariants as input_variants
use Rattle.tables.specs.declared.keys.CustomerKey.{CustomerKey}
use Rattle.tables.specs.declared.payment.PaymentInput.{PaymentInput}
use Rattle.tables.specs.declared.rows.Customer.{Customer}
use Rattle.tables.proofs.Orders.{exact_customer}
use Rattle.tables_laws.proofs.Updates.{get-map_rows}
use Rattle.population_tables.specs.Plain.{IsPlain, plain_customer}
use Rattle.tests_tables.specs.Payments.{payment_by, customer_of_first_district}

pub left_of_data : (t : Database) → IsPlain (sizes 1 2 10 20 30 1000) t → (n : ℕ)
    → IsCustomerKey (sizes 1 2 10 20 30 1000) (customer_of_first_district n)
    → get (after t (input_variants.Payment (payment_by n))).texts (customer_of_first_district n)
    ≡ Some (cond (is_customer 1 1 n (customer_of_first_district n) && is_bad (plain_customer n).credit)
    (put_left (payment_text (front_of (payment_by n) n)) first_text) first_text)
left_of_data t plain n there =
    let x : PaymentInput = payment_by n in
    let k : CustomerKey = customer_of_first_district n in
    let put : List ℕ → List ℕ = put_left (payment_text (front_of x n)) in
    get-map_rows exact_customer (λ j text. cond (changes_text t x n j) (put text) text) t.texts k
    ∙ (λ i. option_map
    (λ (text : List ℕ). cond (plain.keeps_texts i && (is_customer 1 1 n k
    && option_map_or (λ (r : Customer). is_bad r.credit) (plain.customers.rows k there i) false)) (put text) text) (plain.texts.rows k there i))
