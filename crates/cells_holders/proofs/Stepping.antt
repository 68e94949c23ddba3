-- The seats of the pen, and of a reader, where that of one record's page steps.
use Rattle.std.proofs.Common.{◌≡◌, ℕ, ◌+◌, ◌*◌, ◌/◌, ◌%◌, ◌<◌, Some, List, [], ◌∷◌, ◌++◌, length, get_or, set, refl, sym, ap, ◌∙◌, subst, length-set}
use Rattle.std.specs.Prelude.{All, slice_get, slice_index}
use Rattle.std.proofs.lemmas.List.Elements.{All-set, All-get_or, All-weaker}
use Rattle.atomic_table.specs.Seated.{TableId}
use Rattle.cells_pages.specs.declared.rule.View.{View}
use Rattle.cells_pages.specs.Versions.{StartsWith, AreVersions, IsRising}
use Rattle.cells_holders.specs.Records.{PagesPen, at, StoresVersion, LoadsRecord, LearnsRecord}
use Rattle.cells_pages.specs.Views.{pen_view, sight, IsPen}
use Rattle.cells_pages.specs.Plays.{IsLoaded}
use Rattle.cells_pages.specs.Seats.{PageSeat, IsSeatOf}
use Rattle.cells_holders.specs.Pages.{IsRecordSize, IsPenSeat, IsReaderSeat, ArePenSeats, AreReaderSeats, written_of, sights_of}
use Rattle.cells_holders.proofs.Paged.{same_length}
use Rattle.cells_holders.proofs.Joined.{IsWide, seen_count, has_seat, wide_here, is_of, versions_here, paged_after, written_same, written_writes, sights_read, sights_learn}

-- the pen knows the versions of as many records as have cells
pub pen_count : (n : ℕ) → IsRecordSize n → (seats : List PageSeat) → ArePenSeats n seats → length (written_of n seats).all ≡ length (written_of n seats).cells
pen_count n right_size seats are = seen_count n right_size.0 seats (All-weaker (IsPenSeat n) (IsWide n) (λ s h. h.1) seats are.0)

-- a reader has seen versions of as many, and counts the loads of as many
module _ (n : ℕ) (right_size : IsRecordSize n) (seats : List PageSeat) (are : AreReaderSeats n seats) where
  pub reader_count : length (sights_of n seats).seen ≡ length (sights_of n seats).cells
  reader_count = seen_count n right_size.0 seats (All-weaker (IsReaderSeat n) (IsWide n) (λ s h. h.1) seats are.0)

  pub reader_loads_count : length (sights_of n seats).loads ≡ length (sights_of n seats).cells
  reader_loads_count = same_length (λ (s : PageSeat). s.me.0.loads) (λ s. s.me.0.seen) seats
      (All-weaker (IsReaderSeat n) (λ (s : PageSeat). length s.me.0.loads ≡ length s.me.0.seen) (λ s h. h.2) seats are.0)
      ∙ reader_count

-- the pen
module _ (n : ℕ) (right_size : IsRecordSize n) (seats : List PageSeat) (are : ArePenSeats n seats) (number : ℕ) (page : TableId)
    (has : slice_get (written_of n seats).cells number ≡ Some page) where
  pub pen_seat : number / 4096 < length seats
  pen_seat = has_seat n right_size.0 seats are.1 number page has

  module _ (p : PageSeat) (is : p ≡ get_or seats (number / 4096) p) where
    wide : All (IsWide n) seats
    wide = All-weaker (IsPenSeat n) (IsWide n) (λ s h. h.1) seats are.0

    pub pen_knows_seat : IsPen p.me.0
    pen_knows_seat = subst (λ (s : PageSeat). IsPen s.me.0) (sym is) (All-get_or (IsPenSeat n) seats (number / 4096) p pen_seat are.0).0

    pub pen_is_of : IsSeatOf n page p (number % 4096)
    pen_is_of = is_of n right_size.0 seats are.1 wide number page has p is right_size.1

    pub pen_versions : at (written_of n seats).all number ≡ at p.me.0.seen (number % 4096)
    pen_versions = versions_here n right_size.0 seats are.1 wide number page has p is

    module _ (q : PageSeat) (same : q.table_id ≡ p.table_id) where
      pen_after : IsPen q.me.0 → length q.me.0.seen ≡ length p.me.0.seen → ArePenSeats n (set seats (number / 4096) q)
      pen_after pen size = (
        All-set (IsPenSeat n) seats (number / 4096) q
            (pen, ap (λ (t : TableId). t.words) same ∙ wide_here n right_size.0 seats are.1 wide number page has p is ∙ ap (λ k. k * n) (sym size))
            are.0,
        paged_after n right_size.0 seats are.1 wide number page has p is q same,
      )

      -- it stores a version
      module _ (version : List ℕ) (e : q.me.0 ≡ pen_view (set p.me.0.seen (number % 4096) (at p.me.0.seen (number % 4096) ++ version ∷ []))) where
        pub stored_seats : ArePenSeats n (set seats (number / 4096) q)
        stored_seats =
            let seen = ap (λ (v : View). v.seen) e in
            pen_after (e ∙ ap pen_view (sym seen)) (ap length seen ∙ length-set p.me.0.seen (number % 4096) (at p.me.0.seen (number % 4096) ++ version ∷ []))

        pub stores_version : StoresVersion (written_of n seats) (written_of n (set seats (number / 4096) q)) number version
        stores_version = written_writes n right_size.0 seats are.1 wide number page has p is q same version (ap (λ (v : View). v.seen) e)

      -- it knows what it knew
      module _ (e : q.me.0 ≡ p.me.0) where
        pub kept_seats : ArePenSeats n (set seats (number / 4096) q)
        kept_seats = pen_after (subst IsPen (sym e) pen_knows_seat) (ap (λ (v : View). length v.seen) e)

        pub kept_view : written_of n (set seats (number / 4096) q) ≡ written_of n seats
        kept_view = written_same n right_size.0 seats are.1 wide number page has p is q same (ap (λ (v : View). v.seen) e)

-- a reader
module _ (n : ℕ) (right_size : IsRecordSize n) (seats : List PageSeat) (are : AreReaderSeats n seats) (number : ℕ) (page : TableId)
    (has : slice_get (sights_of n seats).cells number ≡ Some page) where
  pub reader_seat : number / 4096 < length seats
  reader_seat = has_seat n right_size.0 seats are.1 number page has

  module _ (p : PageSeat) (is : p ≡ get_or seats (number / 4096) p) where
    wide' : All (IsWide n) seats
    wide' = All-weaker (IsReaderSeat n) (IsWide n) (λ s h. h.1) seats are.0

    pub reader_is_of : IsSeatOf n page p (number % 4096)
    reader_is_of = is_of n right_size.0 seats are.1 wide' number page has p is right_size.1

    mine : IsReaderSeat n p
    mine = subst (IsReaderSeat n) (sym is) (All-get_or (IsReaderSeat n) seats (number / 4096) p reader_seat are.0)

    module _ (q : PageSeat) (same : q.table_id ≡ p.table_id) where
      reader_after : (versions : List (List ℕ)) (loads : List ℕ) → length loads ≡ length p.me.0.loads → q.me.0 ≡ sight (set p.me.0.seen (number % 4096) versions) loads
          → AreReaderSeats n (set seats (number / 4096) q)
      reader_after versions loads count e =
          let size : length q.me.0.seen ≡ length p.me.0.seen = ap (λ (v : View). length v.seen) e ∙ length-set p.me.0.seen (number % 4096) versions in (
            All-set (IsReaderSeat n) seats (number / 4096) q (
              e ∙ (λ i. sight (sym e i).seen (sym e i).loads),
              ap (λ (t : TableId). t.words) same ∙ mine.1 ∙ ap (λ k. k * n) (sym size),
              ap (λ (v : View). length v.loads) e ∙ count ∙ mine.2 ∙ sym size,
            )
                are.0,
            paged_after n right_size.0 seats are.1 wide' number page has p is q same,
          )

      -- it loads the record
      module _ (version : List ℕ) (loaded : IsLoaded n (number % 4096) p.me.0.seen p.me.0.loads version q.me.0) where
        pub read_seats : AreReaderSeats n (set seats (number / 4096) q)
        read_seats = reader_after loaded.versions (set p.me.0.loads (number % 4096) (slice_index p.me.0.loads (number % 4096) + 1))
            (length-set p.me.0.loads (number % 4096) (slice_index p.me.0.loads (number % 4096) + 1)) loaded.view

        pub reads_record : LoadsRecord (sights_of n seats) (sights_of n (set seats (number / 4096) q)) number version
        reads_record = sights_read n right_size.0 seats are.1 wide' number page has p is q same
            (All-weaker (IsReaderSeat n) (λ (s : PageSeat). length s.me.0.loads ≡ length s.me.0.seen) (λ s h. h.2) seats are.0) version loaded

      -- it learns all versions
      module _ (versions : List (List ℕ)) (e : q.me.0 ≡ sight (set p.me.0.seen (number % 4096) versions) p.me.0.loads) where
        pub met_seats : AreReaderSeats n (set seats (number / 4096) q)
        met_seats = reader_after versions p.me.0.loads refl e

        pub learns_record : (w : PagesPen) → versions ≡ at w.all number → StartsWith versions (at p.me.0.seen (number % 4096)) → AreVersions n versions
            → LearnsRecord w (sights_of n seats) (sights_of n (set seats (number / 4096) q)) number
        learns_record w all starts sound = sights_learn n right_size.0 seats are.1 wide' number page has p is q same w
            (ap (λ (v : View). v.seen) e ∙ ap (set p.me.0.seen (number % 4096)) all)
            (ap (λ (v : View). v.loads) e)
            (subst (λ (vs : List (List ℕ)). StartsWith vs (at p.me.0.seen (number % 4096))) all starts)
            (subst IsRising all sound.rising)
