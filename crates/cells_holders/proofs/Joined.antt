-- What holders know, by record number, where the seat of one page steps.
use Rattle.std.proofs.Common.{◌≡◌, ℕ, ◌+◌, ◌*◌, ◌/◌, ◌%◌, ◌<◌, ◌≤◌, Some, List, [], ◌∷◌, ◌++◌, map, length, get_or, set, sym, ap, ◌∙◌, subst, arith, div-add-mod'}
use Rattle.std.specs.Prelude.{All, slice_get, slice_index}
use Rattle.std.specs.List.{flat_map}
use Rattle.std.proofs.Math.Nat.{mul-div_cancel}
use Rattle.std.proofs.Math.Seq.{map-set_same}
use Rattle.std.proofs.lemmas.List.{length-replicate, get_or-set_same}
use Rattle.std.proofs.lemmas.List.Elements.{All-get_or, All-weaker}
use Rattle.std.proofs.lemmas.Option.{slice_get_within, get_or_from_slice_get}
use Rattle.atomic_table.specs.Seated.{TableId}
use Rattle.cells_pages.specs.declared.rule.View.{View}
use Rattle.cells_pages.specs.Versions.{StartsWith, EndsWith, IsRising}
use Rattle.cells_holders.specs.Records.{PagesPen, at, StoresVersion, LoadsRecord, LearnsRecord}
use Rattle.cells_pages.specs.Plays.{IsLoaded}
use Rattle.cells_pages.specs.Seats.{PageSeat, IsSeatOf}
use Rattle.cells_holders.specs.Pages.{size_of, ids_of, IsPaged, written_of, sights_of}
use Rattle.cells_holders.proofs.Paged.{paged_as, same_length, found, set_in, set_same, ids_paged, has_page, page_stands, page_is}

-- each seat's page has the records that it knows
abbrev pub IsWide : ℕ → PageSeat → Type 0
IsWide n s = s.table_id.words ≡ length s.me.0.seen * n

seen_size : (n : ℕ) → 0 < n → (s : PageSeat) → IsWide n s → length s.me.0.seen ≡ length (ids_of n s.table_id)
seen_size n some s is_wide = sym (mul-div_cancel (length s.me.0.seen) some) ∙ ap (λ w. w / n) (sym is_wide) ∙ sym (length-replicate (size_of n s.table_id) s.table_id)

-- all together have as many
pub seen_count : (n : ℕ) → 0 < n → (seats : List PageSeat) → All (IsWide n) seats → length (written_of n seats).all ≡ length (written_of n seats).cells
seen_count n some seats wide = same_length (λ (s : PageSeat). s.me.0.seen) (λ s. ids_of n s.table_id) seats
    (All-weaker (IsWide n) (λ (s : PageSeat). length s.me.0.seen ≡ length (ids_of n s.table_id)) (seen_size n some) seats wide)

module _ (n : ℕ) (some : 0 < n) (seats : List PageSeat) (paged : IsPaged (map (λ s. size_of n s.table_id) seats)) where
  -- a record that has a page has a seat
  pub has_seat : (number : ℕ) (page : TableId) → slice_get (flat_map (λ s. ids_of n s.table_id) seats) number ≡ Some page → number / 4096 < length seats
  has_seat number page has = has_page (λ (s : PageSeat). s.table_id) n seats paged number
      (slice_get_within (flat_map (λ (s : PageSeat). ids_of n s.table_id) seats) number page has)

  -- the seat p of the record's page
  module _ (wide : All (IsWide n) seats) (number : ℕ) (page : TableId) (has : slice_get (flat_map (λ s. ids_of n s.table_id) seats) number ≡ Some page)
      (p : PageSeat) (is : p ≡ get_or seats (number / 4096) p) where
    listed : number < length (flat_map (λ s. ids_of n s.table_id) seats)
    listed = slice_get_within (flat_map (λ (s : PageSeat). ids_of n s.table_id) seats) number page has

    within : number / 4096 < length seats
    within = has_seat number page has

    stand : number % 4096 < length (ids_of n p.table_id)
    stand = page_stands (λ (s : PageSeat). s.table_id) n seats paged number listed p is

    field_at : {A : Type 0} (f : PageSeat → List A) → IsPaged (map (λ s. length (f s)) seats) → number % 4096 < length (f p) → (a : A)
        → get_or (flat_map f seats) number a ≡ get_or (f p) (number % 4096) a
    field_at {A} f f_paged long a = ap (λ i. get_or (flat_map f seats) i a) (sym (div-add-mod' number 4096))
        ∙ found f p seats (number / 4096) (number % 4096) a f_paged within (subst (λ (s : PageSeat). number % 4096 < length (f s)) is long)
        ∙ ap (λ (s : PageSeat). get_or (f s) (number % 4096) a) (sym is)

    pub own : p.table_id ≡ page
    own =
        let ids : List TableId = flat_map (λ (s : PageSeat). ids_of n s.table_id) seats in
        sym (get_or_from_slice_get ids number p.table_id page (page_is (λ (s : PageSeat). s.table_id) n seats paged number listed p is))
        ∙ get_or_from_slice_get ids number page page has

    pub wide_here : IsWide n p
    wide_here = subst (IsWide n) (sym is) (All-get_or (IsWide n) seats (number / 4096) p within wide)

    pub inside : number % 4096 < length p.me.0.seen
    inside = subst (λ k. number % 4096 < k) (sym (seen_size n some p wide_here)) stand

    pub is_of : n ≤ 4096 → IsSeatOf n page p (number % 4096)
    is_of narrow = record {
      own = own;
      wide = ap (λ (t : TableId). t.words) (sym own) ∙ wide_here;
      within = inside;
      few = omega arith;
      some = some;
      narrow = narrow;
    }

    sizes : All (λ s. length s.me.0.seen ≡ length (ids_of n s.table_id)) seats
    sizes = All-weaker (IsWide n) (λ (s : PageSeat). length s.me.0.seen ≡ length (ids_of n s.table_id)) (seen_size n some) seats wide

    seen_paged : IsPaged (map (λ s. length s.me.0.seen) seats)
    seen_paged = paged_as (λ (s : PageSeat). length (ids_of n s.table_id)) (λ s. length s.me.0.seen) seats sizes (ids_paged (λ (s : PageSeat). s.table_id) n seats paged)

    number_within : number < length (flat_map (λ s. s.me.0.seen) seats)
    number_within = subst (λ k. number < k) (sym (same_length (λ (s : PageSeat). s.me.0.seen) (λ s. ids_of n s.table_id) seats sizes))
        listed

    pub versions_here : at (flat_map (λ s. s.me.0.seen) seats) number ≡ at p.me.0.seen (number % 4096)
    versions_here = field_at (λ (s : PageSeat). s.me.0.seen) seen_paged inside []

    -- it becomes q
    module _ (q : PageSeat) (same : q.table_id ≡ p.table_id) where
      abbrev after : List PageSeat
      after = set seats (number / 4096) q

      ids_same : flat_map (λ s. ids_of n s.table_id) after ≡ flat_map (λ s. ids_of n s.table_id) seats
      ids_same = set_same (λ (s : PageSeat). ids_of n s.table_id) p seats (number / 4096) q (ap (ids_of n) same ∙ ap (λ (s : PageSeat). ids_of n s.table_id) is)

      pub paged_after : IsPaged (map (λ s. size_of n s.table_id) after)
      paged_after = subst IsPaged (sym (map-set_same (λ (s : PageSeat). size_of n s.table_id) seats (number / 4096) q p
          (ap (size_of n) same ∙ ap (λ (s : PageSeat). size_of n s.table_id) is))) paged

      field_same : {A : Type 0} (f : PageSeat → List A) → f q ≡ f p → flat_map f after ≡ flat_map f seats
      field_same {A} f e = set_same f p seats (number / 4096) q (e ∙ ap f is)

      field_set : {A : Type 0} (f : PageSeat → List A) → IsPaged (map (λ s. length (f s)) seats) → number % 4096 < length (f p) → (a : A)
          → f q ≡ set (f p) (number % 4096) a → flat_map f after ≡ set (flat_map f seats) number a
      field_set {A} f f_paged long a e =
          set_in f p seats (number / 4096) (number % 4096) q a f_paged within (subst (λ (s : PageSeat). number % 4096 < length (f s)) is long)
          (e ∙ ap (λ (s : PageSeat). set (f s) (number % 4096) a) is)
          ∙ ap (λ i. set (flat_map f seats) i a) (div-add-mod' number 4096)

      pub written_same : q.me.0.seen ≡ p.me.0.seen → written_of n after ≡ written_of n seats
      written_same e = λ i. record { cells = ids_same i; all = field_same (λ (s : PageSeat). s.me.0.seen) e i }

      -- the versions of the record are then these
      module _ (versions : List (List ℕ)) (e : q.me.0.seen ≡ set p.me.0.seen (number % 4096) versions) where
        seen_set : flat_map (λ s. s.me.0.seen) after ≡ set (flat_map (λ s. s.me.0.seen) seats) number versions
        seen_set = field_set (λ (s : PageSeat). s.me.0.seen) seen_paged inside versions e

        seen_at : at (flat_map (λ s. s.me.0.seen) after) number ≡ versions
        seen_at = ap (λ (l : List (List (List ℕ))). at l number) seen_set ∙ get_or-set_same (flat_map (λ (s : PageSeat). s.me.0.seen) seats) number versions [] number_within

        seen_others : flat_map (λ s. s.me.0.seen) after
            ≡ set (flat_map (λ s. s.me.0.seen) seats) number (at (flat_map (λ s. s.me.0.seen) after) number)
        seen_others = seen_set ∙ ap (set (flat_map (λ (s : PageSeat). s.me.0.seen) seats) number) (sym seen_at)

      pub written_writes : (version : List ℕ) → q.me.0.seen ≡ set p.me.0.seen (number % 4096) (at p.me.0.seen (number % 4096) ++ version ∷ [])
          → StoresVersion (written_of n seats) (written_of n after) number version
      written_writes version e = let versions : List (List ℕ) = at p.me.0.seen (number % 4096) ++ version ∷ [] in record {
        cells = ids_same;
        others = seen_others versions e;
        last = seen_at versions e ∙ ap (λ (vs : List (List ℕ)). vs ++ version ∷ []) (sym versions_here);
      }

      pub sights_learn : (w : PagesPen) → q.me.0.seen ≡ set p.me.0.seen (number % 4096) (at w.all number) → q.me.0.loads ≡ p.me.0.loads
          → StartsWith (at w.all number) (at p.me.0.seen (number % 4096)) → IsRising (at w.all number)
          → LearnsRecord w (sights_of n seats) (sights_of n after) number
      sights_learn w e loads grows rising = record {
        cells = ids_same;
        others = seen_others (at w.all number) e;
        loads = field_same (λ (s : PageSeat). s.me.0.loads) loads;
        learnt = seen_at (at w.all number) e;
        grows = subst (StartsWith (at w.all number)) (sym versions_here) grows;
        rising = rising;
      }

      module _ (counted : All (λ s. length s.me.0.loads ≡ length s.me.0.seen) seats) (version : List ℕ)
          (loaded : IsLoaded n (number % 4096) p.me.0.seen p.me.0.loads version q.me.0) where
        loads_paged : IsPaged (map (λ s. length s.me.0.loads) seats)
        loads_paged = paged_as (λ (s : PageSeat). length s.me.0.seen) (λ s. length s.me.0.loads) seats counted seen_paged

        loads_inside : number % 4096 < length p.me.0.loads
        loads_inside = subst (λ k. number % 4096 < k)
            (sym (subst (λ (s : PageSeat). length s.me.0.loads ≡ length s.me.0.seen) (sym is)
            (All-get_or (λ (s : PageSeat). length s.me.0.loads ≡ length s.me.0.seen) seats (number / 4096) p within counted))) inside

        loads_within : number < length (flat_map (λ s. s.me.0.loads) seats)
        loads_within = subst (λ k. number < k) (sym (same_length (λ (s : PageSeat). s.me.0.loads) (λ s. s.me.0.seen) seats counted)) number_within

        abbrev count : ℕ
        count = slice_index p.me.0.loads (number % 4096) + 1

        loads_set : flat_map (λ s. s.me.0.loads) after ≡ set (flat_map (λ s. s.me.0.loads) seats) number count
        loads_set = field_set (λ (s : PageSeat). s.me.0.loads) loads_paged loads_inside count (ap (λ (v : View). v.loads) loaded.view)

        loads_at : slice_index (flat_map (λ s. s.me.0.loads) after) number ≡ count
        loads_at = ap (λ (l : List ℕ). slice_index l number) loads_set ∙ get_or-set_same (flat_map (λ (s : PageSeat). s.me.0.loads) seats) number count 0 loads_within

        pub sights_read : LoadsRecord (sights_of n seats) (sights_of n after) number version
        sights_read =
            let e : q.me.0.seen ≡ set p.me.0.seen (number % 4096) loaded.versions = ap (λ (v : View). v.seen) loaded.view in
            let is_at = seen_at loaded.versions e in
            record {
              cells = ids_same;
              others = seen_others loaded.versions e;
              other_loads = loads_set ∙ ap (set (flat_map (λ (s : PageSeat). s.me.0.loads) seats) number) (sym loads_at);
              loads = loads_at ∙ ap (λ k. k + 1) (sym (field_at (λ (s : PageSeat). s.me.0.loads) loads_paged loads_inside 0));
              grows = subst (λ (x : List (List ℕ) × List (List ℕ)). StartsWith x.0 x.1) (λ i. (sym is_at i, sym versions_here i)) loaded.grows;
              rising = subst IsRising (sym is_at) loaded.sound.rising;
              last = subst (λ (vs : List (List ℕ)). EndsWith vs version) (sym is_at) loaded.last;
            }
