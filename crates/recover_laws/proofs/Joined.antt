-- What files tell of a history is what recovery keeps of it.
use Rattle.std.proofs.Common.{◌≡◌, ◌⊎◌, inl, inr, ⊎_elim, ℕ, zero, suc, ◌+◌, ◌<◌, ◌≤◌, Bool, true, false, ◌||◌, List, [], ◌∷◌, ◌++◌, map, length, Option, Some, None, refl, sym, ap, ◌∙◌}
use Rattle.std.proofs.Common.{subst, arith}
use Rattle.std.specs.Prelude.{min, nat_le, unwrap_or, slice_index_or}
use Rattle.std.specs.List.{All}
use Rattle.std.specs.Option.{option_map_or}
use Rattle.std.proofs.lemmas.Bool.{leb-true, leb-false}
use Rattle.std.proofs.lemmas.Int.{ints}
use Rattle.std.proofs.lemmas.Option.{none-some, same_Some}
use Rattle.std.proofs.lemmas.List.{get_or_default}
use Rattle.std.proofs.lemmas.List.Elements.{All-head, All-tail, All-weaker}
use Rattle.tables.specs.Sizes.{Sizes}
use Rattle.tables.specs.Database.{Database}
use Rattle.tables.specs.OrderNumbers.{least}
use Rattle.tables.specs.Apply.{after}
use Rattle.tables.specs.WellFormed.{HasRoom}
use Rattle.tables.specs.declared.limits.TheConstants.{MAX_COMMITS}
use Rattle.log_text.specs.Bodies.{BodyView}
use Rattle.book.specs.History.{Replays}
use Rattle.book.specs.Loggable.{IsLoggable}
use Rattle.book.specs.Stamps.{AreStamped}
use Rattle.book.specs.Streams.{stream}
use Rattle.book.specs.declared.entry.Entry.{Entry}
use Rattle.log_entries.specs.Logged.{logged_entry}
use Rattle.recover_found.specs.Found.{last_mark, void_in, up_to, counted, durable_of, void_of, keeps}
use Rattle.recover_found.proofs.Elements.{Has, has_from, maps}
use Rattle.recover_crashes.specs.Recovering.{HoldTheHistory, IsDurable, IsFitForLogs, Tell, is_void, counts_in, cut}
use Rattle.recover_crashes.proofs.Histories.{cut_begins}
use Rattle.recover_crashes.proofs.Holding.{held_up_to}
use Rattle.recover_laws.specs.Found.{durable_cut, listed}
use Rattle.recover_laws.specs.Recovered.{HoldTheCut, IsHistoryOf, IsFirstDatabase}

pub length_listed : {X : Type 0} (n : ℕ) (f : ℕ → X) → length (listed n f) ≡ n
length_listed zero f = refl
length_listed (suc n) f = let rest = length_listed n (λ l. f (suc l)) in omega (arith, rest)

pub listed_at : {X : Type 0} (n : ℕ) (f : ℕ → X) (l : ℕ) (d : X) → l < n → slice_index_or (listed n f) l d ≡ f l
listed_at zero f l d h = absurd (omega (arith, h))
listed_at (suc n) f zero d h = refl
listed_at (suc n) f (suc l) d h = listed_at n (λ k. f (suc k)) l d (omega (arith, h))

has_listed : {X : Type 0} (n : ℕ) (f : ℕ → X) (l : ℕ) → l < n → Has (listed n f) (f l)
has_listed zero f l h = absurd (omega (arith, h))
has_listed (suc n) f zero h = inl refl
has_listed (suc n) f (suc l) h = inr (has_listed n (λ k. f (suc k)) l (omega (arith, h)))

listed_has : {X : Type 0} (n : ℕ) (f : ℕ → X) (y : X) → Has (listed n f) y → (l : ℕ) × (l < n) × (f l ≡ y)
listed_has zero f y never = elim never [ ]
listed_has (suc n) f y (inl same) = (zero, omega arith, same)
listed_has (suc n) f y (inr h) = let found = listed_has n (λ k. f (suc k)) y h in (suc found.0, omega (arith, found.1), found.2)

map_listed : {X Y : Type 0} (g : X → Y) (n : ℕ) (f : ℕ → X) → map g (listed n f) ≡ listed n (λ l. g (f l))
map_listed g zero f = refl
map_listed g (suc n) f = ap (λ rest. g (f zero) ∷ rest) (map_listed g n (λ l. f (suc l)))

-- the least of numbers is the one that is among them and above none
least_among : (xs : List ℕ) (m : ℕ) → least xs ≡ Some m → Has xs m
least_among [] m e = absurd (none-some m e)
least_among (x ∷ xs) m e = by (least xs) (λ k. least_among xs k) (same_Some _ _ e)
  where
    by : (o : Option ℕ) → ((k : ℕ) → o ≡ Some k → Has xs k) → option_map_or (min x) o x ≡ m → (x ≡ m) ⊎ Has xs m
    by None there same = inl same
    by (Some k) there same = elim (nat_le x k) as (λ b. nat_le x k ≡ b → (x ≡ m) ⊎ Has xs m) [
      | true ↦ λ t. inl (let low = leb-true x k t in omega (arith, same, low))
      | false ↦ λ t. inr (subst (Has xs) (let high = leb-false x k t in omega (arith, same, high)) (there k refl))
    ] refl

nothing : (xs : List ℕ) (d : ℕ) → least xs ≡ None → Has xs d → ⊥
nothing [] d e never = never
nothing (x ∷ xs) d e h = none-some _ (sym e)

least_is : (xs : List ℕ) (d : ℕ) → Has xs d → ((y : ℕ) → Has xs y → d ≤ y) → unwrap_or (least xs) 0 ≡ d
least_is [] d never low = elim never [ ]
least_is (x ∷ xs) d h low = by (least xs) refl (λ k. least_is xs d k (λ y m. low y (inr m)))
  where
    by : (o : Option ℕ) → least xs ≡ o → (Has xs d → unwrap_or (least xs) 0 ≡ d) → option_map_or (min x) o x ≡ d
    by None none rest = ⊎_elim (λ e. e) (λ k. absurd (nothing xs d none k)) h
    by (Some k) some rest =
        let low_k : d ≤ k = low k (inr (least_among xs k some)) in
        let low_x : d ≤ x = low x (inl refl) in
        ⊎_elim (λ e. omega (arith, low_k, e))
        (λ m. let is_k : k ≡ d = sym (ap (λ o. unwrap_or o 0) some) ∙ rest m in omega (arith, low_x, is_k)) h

-- the least is no more than any of them
least_low : (xs : List ℕ) (y : ℕ) → Has xs y → unwrap_or (least xs) 0 ≤ y
least_low [] y never = elim never [ ]
least_low (x ∷ xs) y h = by (least xs) refl (least_low xs y)
  where
    by : (o : Option ℕ) → least xs ≡ o → (Has xs y → unwrap_or (least xs) 0 ≤ y) → option_map_or (min x) o x ≤ y
    by None none rest = ⊎_elim (λ (e : x ≡ y). omega (arith, e)) (λ k. absurd (nothing xs y none k)) h
    by (Some k) some rest = ⊎_elim (λ (e : x ≡ y). omega (arith, e))
        (λ m. let low = rest m in let is : unwrap_or (least xs) 0 ≡ k = ap (λ o. unwrap_or o 0) some in omega (arith, low, is)) h

-- numbers up to a cap are no more than it
no_more : (n cap : ℕ) (t : Database) (es : List Entry) → Replays n t es → All (λ (e : Entry). e.number ≤ cap) es → n ≤ cap + 1 → n + length es ≤ cap + 1
no_more n cap t [] h capped low = omega (arith, low)
no_more n cap t (e ∷ es) h capped low =
    let here : e.number ≤ cap = All-head (λ (d : Entry). d.number ≤ cap) e es capped in
    let rest = no_more (n + 1) cap (after t e.input) es h.2 (All-tail (λ (d : Entry). d.number ≤ cap) e es capped) (omega (arith, h.0, here)) in
    omega (arith, rest)

-- room for more commits is room for fewer
less_room : (n m : ℕ) (t : Database) → n ≤ m → HasRoom m t → HasRoom n t
less_room n m t h room = record {
  warehouses = λ k r e. let x = room.warehouses k r e in (omega (arith, ints, h, x.0), omega (arith, ints, h, x.1));
  districts = λ k r e. let x = room.districts k r e in (omega (arith, ints, h, x.0), omega (arith, ints, h, x.1));
  balances = λ k r e. let x = room.balances k r e in (omega (arith, ints, h, x.0), omega (arith, ints, h, x.1));
  paid = λ k r e. let x = room.paid k r e in (omega (arith, ints, h, x.0), omega (arith, ints, h, x.1));
  payments = λ k r e. let x = room.payments k r e in omega (arith, h, x);
  deliveries = λ k r e. let x = room.deliveries k r e in omega (arith, h, x);
  supplied = λ k r e. let x = room.supplied k r e in omega (arith, h, x);
  orders = λ k r e. let x = room.orders k r e in omega (arith, h, x);
  remote_orders = λ k r e. let x = room.remote_orders k r e in omega (arith, h, x);
}

-- ---- files by number, and as a list
-- a void range of one file is void for all, however they are given
void_listed : (n : ℕ) (files : ℕ → List BodyView) (epoch : ℕ) → void_of (listed n files) epoch ≡ is_void n files epoch
void_listed zero files epoch = refl
void_listed (suc n) files epoch = ap (λ (b : Bool). void_in (files zero) epoch || b) (void_listed n (λ l. files (suc l)) epoch)

void_by_number : (files : List (List BodyView)) (epoch : ℕ) → is_void (length files) (λ l. slice_index_or files l []) epoch ≡ void_of files epoch
void_by_number [] epoch = refl
void_by_number (bodies ∷ files) epoch = ap (λ (b : Bool). void_in bodies epoch || b) (void_by_number files epoch)

pub durable_listed : (n : ℕ) (files : ℕ → List BodyView) (durable : ℕ) → IsDurable n files durable → durable_of (listed n files) ≡ durable
durable_listed n files durable is =
    ap (λ (l : List ℕ). unwrap_or (least l) 0) (map_listed (last_mark 0) n files)
    ∙ least_is (listed n (λ l. last_mark 0 (files l))) durable
    (subst (Has (listed n (λ l. last_mark 0 (files l)))) is.among.2 (has_listed n (λ l. last_mark 0 (files l)) is.among.0 is.among.1))
    (λ y h. let found = listed_has n (λ l. last_mark 0 (files l)) y h in subst (λ (m : ℕ). durable ≤ m) found.2 (is.least found.0 found.1))

-- which epochs count
pub keeps_listed : (n : ℕ) (files : ℕ → List BodyView) (durable : ℕ) → IsDurable n files durable
    → keeps (listed n files) ≡ counts_in n files durable
keeps_listed n files durable is = λ i epoch. up_to (durable_listed n files durable is i) (λ e. void_listed n files e i) epoch

-- ---- what files tell of a history is what recovery keeps of it
module _ (t0 : Database) (n : ℕ) (files : ℕ → List BodyView) (durable : ℕ) (history released : List Entry)
    (tell : Tell t0 n files durable history released) where
  abbrev left : List (List BodyView)
  left = listed n files

  abbrev counts : ℕ → Bool
  counts = counts_in n files durable

  counts_are : keeps left ≡ counts
  counts_are = keeps_listed n files durable tell.is_durable

  pub cut_is : durable_cut left history ≡ cut counts history
  cut_is = ap (λ (c : ℕ → Bool). cut c history) counts_are

  pub count : length left ≡ n
  count = length_listed n files

  pub some_left : 0 < length left
  some_left = let among = tell.is_durable.among.1 in omega (arith, among, count)

  pub holds : HoldTheCut t0.scale left history
  holds = record {
    rest = tell.rest;
    beginning = tell.beginning ∙ ap (λ (es : List Entry). es ++ tell.rest) (sym cut_is);
    same = λ l lt.
        let within : l < n = omega (arith, lt, count) in
        (λ i. counted (counts_are i) (listed_at n files l [] within i))
        ∙ tell.held l within
        ∙ (λ i. map (logged_entry t0.scale) (stream (sym count i) l (sym cut_is i)));
  }

  pub is_history : IsFirstDatabase t0 → IsHistoryOf t0 history
  is_history begins = record {
    scale = begins.scale;
    well_formed = begins.well_formed;
    consistent = begins.consistent;
    room = less_room (length history) MAX_COMMITS t0
        (let most = no_more 1 t0.scale.commits t0 history tell.replays
        (All-weaker (IsFitForLogs t0.scale) (λ (e : Entry). e.number ≤ t0.scale.commits) (λ e fit. fit.cap) history tell.fit) (omega arith) in
        omega (arith, most, begins.scale.commits.1)) begins.room;
    replays = tell.replays;
    stamped = tell.stamped;
    loggable = All-weaker (IsFitForLogs t0.scale) (IsLoggable t0.scale) (λ e fit. fit.loggable) history tell.fit;
  }

-- the durable epoch is no later than the last mark of any file
durable_low : (files : List (List BodyView)) (l : ℕ) → l < length files → durable_of files ≤ last_mark 0 (slice_index_or files l [])
durable_low files l lt =
    least_low (map (last_mark 0) files) (last_mark 0 (slice_index_or files l []))
    (maps (last_mark 0) files (slice_index_or files l []) (has_from files (slice_index_or files l []) (l, lt, get_or_default files l (slice_index_or files l []) [] lt)))

-- files that hold a history hold what counts of it
pub hold_the_cut : (s : Sizes) (files : List (List BodyView)) (history : List Entry) → AreStamped history
    → HoldTheHistory s (length files) (λ l. slice_index_or files l []) history → HoldTheCut s files history
hold_the_cut s files history stamped hold =
    let by_number : ℕ → List BodyView = λ l. slice_index_or files l [] in
    let counts_are : counts_in (length files) by_number (durable_of files) ≡ keeps files
    = λ i epoch. up_to (durable_of files) (λ e. void_by_number files e i) epoch in
    let front = cut_begins (durable_of files) (is_void (length files) by_number) history stamped hold.alive in
    record {
      rest = front.0;
      beginning = front.1 ∙ ap (λ (c : ℕ → Bool). cut c history ++ front.0) counts_are;
      same = λ l lt.
          (λ i. counted (sym counts_are i) (by_number l))
          ∙ held_up_to s (length files) l (durable_of files) (is_void (length files) by_number) (by_number l) history (hold.each l lt) (durable_low files l lt)
          ∙ ap (λ (c : ℕ → Bool). map (logged_entry s) (stream (length files) l (cut c history))) counts_are;
    }
