-- A page more: what the pen and the readers then know.
use Rattle.std.proofs.Common.{◌≡◌, ℕ, ◌*◌, ◌/◌, ◌<◌, ◌≤◌, List, ◌++◌, map, length, sym, ap, ◌∙◌, subst, mul-pos, mul-div_cancel}
use Rattle.std.specs.Prelude.{All}
use Rattle.std.proofs.lemmas.List.{map-append, length-replicate}
use Rattle.std.proofs.lemmas.List.Elements.{All-map, All-weaker}
use Rattle.atomic_table.specs.Seated.{TableId}
use Rattle.cells_pages.specs.declared.rule.View.{View}
use Rattle.cells_holders.specs.Records.{PagesPen, PagesReader}
use Rattle.cells_pages.specs.Views.{pen_view}
use Rattle.cells_pages.specs.Rule.{first_versions}
use Rattle.cells_pages.specs.Plays.{starting}
use Rattle.cells_pages.specs.Seats.{PageSeat}
use Rattle.cells_holders.specs.Pages.{IsRecordSize, IsPenSeat, size_of, ids_of, written_and, sights_and}
use Rattle.cells_holders.specs.Opening.{seen_all, sights_with, AreFull, IsNext}
use Rattle.cells_pages.proofs.Starting.{length_first}

pub sights_started : (n : ℕ) (s : PagesReader) (seat : PageSeat) (page : TableId) (v : View) → seat.table_id ≡ page → seat.me.0 ≡ starting v
    → sights_and n s seat ≡ sights_with s (ids_of n page) v.seen
sights_started n s seat page v own e =
    λ i. record { cells = s.cells ++ ids_of n (own i); seen = s.seen ++ (e i).seen; loads = s.loads ++ (e i).loads }

-- readers that have seen all that the pen has, and then the page too
seen_all-and : (n : ℕ) (w : PagesPen) (p : PageSeat) (s : PagesReader) → s ≡ seen_all w
    → sights_with s (ids_of n p.table_id) p.me.0.seen ≡ seen_all (written_and n w p)
seen_all-and n w p s e = ap (λ (x : PagesReader). sights_with x (ids_of n p.table_id) p.me.0.seen) e
    ∙ (λ i. record {
      cells = w.cells ++ ids_of n p.table_id;
      seen = w.all ++ p.me.0.seen;
      loads = sym (map-append (λ (_ : List (List ℕ)). 0) w.all p.me.0.seen) i;
    })

-- where the seat p became q before the pen got it
pub all_seen : (n : ℕ) (w next : PagesPen) (p q : PageSeat) (old readers : List PagesReader) → q.table_id ≡ p.table_id → q.me.0 ≡ p.me.0
    → readers ≡ map (λ s. sights_with s (ids_of n p.table_id) p.me.0.seen) old → next ≡ written_and n w q → All (λ s. s ≡ seen_all w) old
    → All (λ s. s ≡ seen_all next) readers
all_seen n w next p q old readers own view told pushed h =
    let is : written_and n w p ≡ next = (λ i. record { cells = w.cells ++ ids_of n (sym own i); all = w.all ++ (sym view i).seen }) ∙ sym pushed in
    subst (λ (x : List PagesReader × PagesPen). All (λ s. s ≡ seen_all x.1) x.0) (λ i. (sym told i, is i))
    (All-map (λ (s : PagesReader). s ≡ seen_all (written_and n w p)) (λ (s : PagesReader). sights_with s (ids_of n p.table_id) p.me.0.seen) old
    (All-weaker (λ (s : PagesReader). s ≡ seen_all w) (λ (s : PagesReader). sights_with s (ids_of n p.table_id) p.me.0.seen ≡ seen_all (written_and n w p))
    (seen_all-and n w p) old h))

pub all_full : (w : PagesPen) (readers : List PagesReader) → AreFull w.cells → All (λ s. s ≡ seen_all w) readers → All (λ s. AreFull s.cells) readers
all_full w readers full h = All-weaker (λ (s : PagesReader). s ≡ seen_all w) (λ (s : PagesReader). AreFull s.cells)
    (λ s e. subst (λ (x : PagesReader). AreFull x.cells) (sym e) full) readers h

-- the pen's seat of a new page
module _ (n count : ℕ) (right_size : IsRecordSize n) (words : List ℕ) (whole : length words ≡ count * n) (some : 0 < count) (few : count ≤ 4096) (page : TableId)
    (wide : page.words ≡ length words) where
  pub new_words : 0 < page.words
  new_words = subst (λ k. 0 < k) (sym (wide ∙ whole)) (mul-pos some right_size.0)

  size_is : size_of n page ≡ count
  size_is = ap (λ w. w / n) (wide ∙ whole) ∙ mul-div_cancel count right_size.0

  pub new_next : IsNext n page
  new_next = subst (λ k. (0 < k) × (k ≤ 4096)) (sym size_is) (some, few)

  pub new_ids : length (ids_of n page) ≡ length (first_versions n words)
  new_ids = length-replicate (size_of n page) page ∙ size_is ∙ sym (length_first n count words right_size.0 whole)

  pub new_seat : (seat : PageSeat) → seat.table_id ≡ page → seat.me.0 ≡ pen_view (first_versions n words) → IsPenSeat n seat
  new_seat seat own view = (
    view ∙ ap pen_view (sym (ap (λ (v : View). v.seen) view)),
    ap (λ (t : TableId). t.words) own ∙ wide ∙ whole
        ∙ ap (λ k. k * n) (sym (ap (λ (v : View). length v.seen) view ∙ length_first n count words right_size.0 whole)),
  )
