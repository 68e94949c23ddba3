-- The sums over tables, after records were written.
use Rattle.std.proofs.Common.{◌≡◌, ℕ, ◌≤◌, ◌==◌, ℤ, pos, ◌+ℤ◌, cond, List, Option, None, refl, subst, sym, ap, ◌∙◌, arith}
use Rattle.std.proofs.lemmas.Int.{ints}
use Rattle.tables.specs.Keys.{IsDistrictKey, IsOrderKey, IsLineKey, is_district, is_order}
use Rattle.tables.specs.Maps.{total, count, sum_where}
use Rattle.tables.specs.Conditions.{line_counts}
use Rattle.tables.specs.Database.{Database}
use Rattle.tables.specs.Rows.{rows, money_of, money_word, district_words, order_words, line_words, new_order_words}
use Rattle.tables.specs.WellFormed.{IsWellFormed, IsMoney}
use Rattle.tables.specs.declared.keys.DistrictKey.{DistrictKey}
use Rattle.tables.specs.declared.keys.OrderKey.{OrderKey}
use Rattle.tables.specs.declared.records.RecordKey.{RecordKey}
use Rattle.tables.specs.declared.records.RecordKey.TheVariants as key
use Rattle.tables.proofs.Orders.{exact_district, exact_order, exact_line}
use Rattle.tables.proofs.Totals.{total-alike}
use Rattle.totals.specs.Worth.{Worth, year_to_date_of, line_count_in, line_in, line_of, one_in}
use Rattle.totals.specs.Moves.{moved}
use Rattle.totals.specs.Written.{AreWritten}
use Rattle.totals.proofs.Keyed as kind
use Rattle.totals.proofs.Written.{total-written}

pub money_back : (z : ℤ) → IsMoney z → money_of (money_word z) ≡ z
money_back z h = omega (arith, ints)

pub count_back : (n : ℕ) → n ≤ 15 → pos n ≡ money_of n
count_back n h = omega (arith, ints)

pub off_district : (w : ℕ) (r : RecordKey) → kind.district_of r ≡ None → (words : List ℕ) → year_to_date_of w r words ≡ pos 0
off_district w (key.District j) e words = absurd cc
off_district w _ e words = refl

pub off_order : (k : DistrictKey) (r : RecordKey) → kind.order_of r ≡ None → (words : List ℕ) → line_count_in k r words ≡ pos 0
off_order k (key.Order j) e words = absurd cc
off_order k _ e words = refl

pub off_line : (k : DistrictKey) (r : RecordKey) → kind.line_of r ≡ None → (words : List ℕ) → line_in k r words ≡ pos 0
off_line k (key.OrderLine j) e words = absurd cc
off_line k _ e words = refl

pub off_order_line : (k : OrderKey) (r : RecordKey) → kind.line_of r ≡ None → (words : List ℕ) → line_of k r words ≡ pos 0
off_order_line k (key.OrderLine j) e words = absurd cc
off_order_line k _ e words = refl

pub off_new_order : (k : DistrictKey) (r : RecordKey) → kind.new_order_of r ≡ None → (words : List ℕ) → one_in k r words ≡ pos 0
off_new_order k (key.NewOrder j) e words = absurd cc
off_new_order k _ e words = refl

-- D_YTD and O_OL_CNT by the words of their rows
pub year_to_date_in_words : (d : Database) → IsWellFormed d → (w : ℕ) → sum_where (λ k r. k.warehouse == w) (λ r. r.year_to_date) d.districts
    ≡ total (λ k r. year_to_date_of w (key.District k) (district_words r)) d.districts
year_to_date_in_words d wf w = total-alike exact_district _ (λ k r. year_to_date_of w (key.District k) (district_words r)) d.districts
    (λ k r found. ap (λ a. cond (k.warehouse == w) a (pos 0)) (sym (money_back r.year_to_date (wf.district_rows k r found).year_to_date)))

pub line_counts_in_words : (d : Database) → IsWellFormed d → (k : DistrictKey)
    → line_counts d k ≡ total (λ j r. line_count_in k (key.Order j) (order_words r)) d.orders
line_counts_in_words d wf k = total-alike exact_order _ (λ j r. line_count_in k (key.Order j) (order_words r)) d.orders
    (λ j r found. ap (λ a. cond (is_district j.warehouse j.district k) a (pos 0)) (count_back r.line_count (wf.order_rows j r found).line_count.1))

module _ (t u : Database) (writes : List (ℕ × Option (List ℕ))) (h : AreWritten t u writes) (wf_t : IsWellFormed t) (wf_u : IsWellFormed u) where
  abbrev moves : Worth → ℤ
  moves f = moved t.scale (rows t) writes f

  pub year_to_date_after : (w : ℕ)
      → sum_where (λ k r. k.warehouse == w) (λ r. r.year_to_date) u.districts
      ≡ sum_where (λ k r. k.warehouse == w) (λ r. r.year_to_date) t.districts +ℤ moves (year_to_date_of w)
  year_to_date_after w =
      year_to_date_in_words u wf_u w
      ∙ total-written exact_district kind.districts t u writes h (year_to_date_of w) (off_district w) district_words t.districts u.districts (λ j. refl) (λ j. refl)
      (λ k some. (wf_t.districts k).0 some) (λ k some. subst (λ s. IsDistrictKey s k) h.scale ((wf_u.districts k).0 some))
      ∙ ap (λ a. a +ℤ moves (year_to_date_of w)) (sym (year_to_date_in_words t wf_t w))

  pub line_counts_after : (k : DistrictKey) → line_counts u k ≡ line_counts t k +ℤ moves (line_count_in k)
  line_counts_after k =
      line_counts_in_words u wf_u k
      ∙ total-written exact_order kind.orders t u writes h (line_count_in k) (off_order k) order_words t.orders u.orders (λ j. refl) (λ j. refl) wf_t.orders
      (λ j some. subst (λ s. IsOrderKey s j) h.scale (wf_u.orders j some))
      ∙ ap (λ a. a +ℤ moves (line_count_in k)) (sym (line_counts_in_words t wf_t k))

  pub district_lines_after : (k : DistrictKey)
      → count (λ j line. is_district j.warehouse j.district k) u.lines ≡ count (λ j line. is_district j.warehouse j.district k) t.lines +ℤ moves (line_in k)
  district_lines_after k = total-written exact_line kind.lines t u writes h (line_in k) (off_line k) line_words t.lines u.lines (λ j. refl) (λ j. refl) wf_t.lines
      (λ j some. subst (λ s. IsLineKey s j) h.scale (wf_u.lines j some))

  pub order_lines_after : (k : OrderKey)
      → count (λ j line. is_order j.warehouse j.district j.order k) u.lines
      ≡ count (λ j line. is_order j.warehouse j.district j.order k) t.lines +ℤ moves (line_of k)
  order_lines_after k = total-written exact_line kind.lines t u writes h (line_of k) (off_order_line k) line_words t.lines u.lines (λ j. refl) (λ j. refl)
      wf_t.lines (λ j some. subst (λ s. IsLineKey s j) h.scale (wf_u.lines j some))

  pub waiting_after : (k : DistrictKey)
      → count (λ j r. is_district j.warehouse j.district k) u.new_orders
      ≡ count (λ j r. is_district j.warehouse j.district k) t.new_orders +ℤ moves (one_in k)
  waiting_after k = total-written exact_order kind.new_orders t u writes h (one_in k) (off_new_order k) new_order_words t.new_orders u.new_orders (λ j. refl)
      (λ j. refl) wf_t.new_orders (λ j some. subst (λ s. IsOrderKey s j) h.scale (wf_u.new_orders j some))
