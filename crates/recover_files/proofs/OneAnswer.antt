-- Recovery has one answer.
use Rattle.std.proofs.Common.{◌≡◌, ◌⊎◌, inl, inr, ℕ, ◌+◌, ◌*◌, ◌^◌, ◌<◌, ◌≤◌, true, ◌&&◌, not, List, [], ◌∷◌, ◌++◌}
use Rattle.std.proofs.Common.{length, Option, refl, sym, ap, ◌∙◌, subst, arith}
use Rattle.std.specs.Prelude.{Result, Ok, Err, nat_le, flat_map}
use Rattle.std.specs.FinMap.{FinMap}
use Rattle.std.specs.List.{Contains, list_all, count_by}
use Rattle.std.specs.declared.cmp.Ordering.{Ordering}
use Rattle.std.proofs.lemmas.Bool.{leb-true}
use Rattle.std.proofs.lemmas.List.Elements.{All-contains}
use Rattle.std.proofs.lemmas.List.Sorted.{IsPermutation-sym, Contains-permutation}
use Rattle.money.specs.declared.refusal.Refusal.{Refusal}
use Rattle.money.specs.declared.refusal.Refusal.TheVariants as refusal
use Rattle.tables.specs.Sizes.{Sizes}
use Rattle.tables.specs.Database.{Database, database}
use Rattle.tables.specs.Records.{size, table_number, number_of_key, IsRecordKey}
use Rattle.tables.specs.Rows.{rows}
use Rattle.tables.specs.declared.limits.TheConstants.{MAX_WRITES}
use Rattle.tables.specs.declared.records.RecordKey.{RecordKey}
use Rattle.tables.specs.declared.records.RecordKey.TheVariants as key
use Rattle.tables.proofs.Numbers.{places as one_to_one}
use Rattle.encoding.specs.Held.{IsTableRecord, by_key, IsTableOf, AreTables}
use Rattle.encoding.proofs.Numbered.{IsTableKey, table_record}
use Rattle.log_text.specs.Bodies.{BodyView}
use Rattle.log_text.specs.Entries.{EntryView}
use Rattle.log_text.specs.Writes.{is_history, is_write, rank, rise_from, are_writes, words_of_value}
use Rattle.log_text.specs.declared.write.Write.{Write}
use Rattle.log_text.proofs.Fitting.{and_split}
use Rattle.recover_found.specs.Found.{durable_of, found, keeps}
use Rattle.recover_found.specs.Rebuilt.{LeavesInRecord, IsUpTo, IsNewest, AreLeft, added_by}
use Rattle.recover_found.specs.Rebuilt.{AreInOrder, HaveNoGap, IsRebuilt}
use Rattle.recover_found.proofs.Elements.{Has, has_from, has_to}
use Rattle.recover_found.proofs.Numbered.{same_entry, same_order}
use Rattle.recover_files.specs.Answers.{IsAnswer, IsSureOf, IsSame, AreOneRecovery}
use Rattle.recover_files.specs.Files.{AreDamaged}
use Rattle.recover_files.specs.Parts.{HaveLawfulWrites}
use Rattle.recover_files.specs.Recovered.{IsRecovery, HasGap}
use Rattle.recover_files.specs.declared.recovering.Recovered.{Recovered}
use Rattle.recover_files.proofs.SameFiles.{same_files}
use Rattle.recover_files.proofs.Found.{files_lawful, counted_lawful}
use Rattle.recover_files.proofs.LawfulWrites.{each_lawful, place_below}

-- writes that rise: the first is of this rank or a greater one, and the others rise behind it
split : (least : ℕ) (x : Write) (ws : List Write) → rise_from least (x ∷ ws) ≡ true
    → (least ≤ rank x) × (rise_from (rank x + 1) ws ≡ true)
split least x ws up =
    let halves = and_split (nat_le least (rank x)) (rise_from (rank x + 1) ws) up in
    (leb-true least (rank x) halves.0, halves.1)

from_rank : (least : ℕ) (ws : List Write) (w : Write) → rise_from least ws ≡ true → Has ws w → least ≤ rank w
from_rank least [] w up never = elim never [ ]
from_rank least (x ∷ ws) w up (inl same) = subst (λ (v : Write). least ≤ rank v) same (split least x ws up).0
from_rank least (x ∷ ws) w up (inr h) =
    let at = split least x ws up in omega (arith, at.0, from_rank (rank x + 1) ws w at.1 h)

-- so those of one rank are one
same_rank : (least : ℕ) (ws : List Write) (v w : Write) → rise_from least ws ≡ true → Has ws v → Has ws w
    → rank v ≡ rank w → v ≡ w
same_rank least [] v w up never _ e = elim never [ ]
same_rank least (x ∷ ws) v w up (inl a) (inl b) e = sym a ∙ b
same_rank least (x ∷ ws) v w up (inl a) (inr b) e =
    absurd (omega (arith, from_rank (rank x + 1) ws w (split least x ws up).1 b, ap rank a ∙ e))
same_rank least (x ∷ ws) v w up (inr a) (inl b) e =
    absurd (omega (arith, from_rank (rank x + 1) ws v (split least x ws up).1 a, ap rank b ∙ sym e))
same_rank least (x ∷ ws) v w up (inr a) (inr b) e = same_rank (rank x + 1) ws v w (split least x ws up).1 a b e

-- an entry with lawful writes leaves one value in a record
one_value : (s : Sizes) (e : EntryView) (n : ℕ) (v w : Option (List ℕ)) → are_writes s e.writes ≡ true
    → LeavesInRecord s e n v → LeavesInRecord s e n w → v ≡ w
one_value s e n v w lawful a b = sym a.words ∙ ap (λ (x : Write). words_of_value x.value) same ∙ b.words
  where
    rise : rise_from 0 e.writes ≡ true
    rise =
        let few = nat_le (count_by (λ w. not (is_history w)) e.writes) MAX_WRITES in
        let rest = (and_split (list_all (is_write s) e.writes) (rise_from 0 e.writes && few) lawful).1 in
        (and_split (rise_from 0 e.writes) few rest).0

    below : {value : Option (List ℕ)} (l : LeavesInRecord s e n value) → l.write.place < size s l.write.table
    below l = place_below s l.write (each_lawful s e.writes lawful l.write l.among) l.of_record

    place : (a.write.table ≡ b.write.table) × (a.write.place ≡ b.write.place)
    place =
        let apart = (one_to_one s).0 a.write.table b.write.table a.write.place b.write.place (below a) (below b) in
        apart.1 (a.number ∙ sym b.number)

    same : a.write ≡ b.write
    same = same_rank 0 e.writes a.write b.write rise (has_from e.writes a.write a.among)
        (has_from e.writes b.write b.among) (λ i. table_number (place.0 i) * 2 ^ 32 + place.1 i)

-- entries that stand in order by their numbers
module _ (s : Sizes) (es : List EntryView) (lawful : HaveLawfulWrites s es) (commits : List EntryView)
    (order : AreInOrder es commits) where
  in_turn : (list : List EntryView) → AreInOrder es list → (e : EntryView) → Contains es e → Has list e
  in_turn list is e h = has_from list e (Contains-permutation es list e is.same h)

  among : (list : List EntryView) → AreInOrder es list → (e : EntryView) → Has list e → Contains es e
  among list is e h = Contains-permutation list es e (IsPermutation-sym es list is.same) (has_to list e h)

  -- have no other order
  same_commits : (others : List EntryView) → AreInOrder es others → commits ≡ others
  same_commits others is = same_order 1 commits others order.numbers is.numbers
      (λ e h. in_turn others is e (among commits order e h)) (λ e h. in_turn commits order e (among others is e h))

  -- two of them of which neither is newer are one
  same_newest : (d e : EntryView) → Contains es d → Contains es e → IsUpTo d e → IsUpTo e d → d ≡ e
  same_newest d e a b (inl x) (inl y) = absurd (omega (arith, x, y))
  same_newest d e a b (inl x) (inr y) = absurd (omega (arith, x, y.0))
  same_newest d e a b (inr x) (inl y) = absurd (omega (arith, x.0, y))
  same_newest d e a b (inr x) (inr y) =
      same_entry 1 commits order.numbers d e (in_turn commits order d a) (in_turn commits order e b)
      (omega (arith, x.1, y.1))

  -- and they leave one value in a record
  one_newest : (n : ℕ) (v w : Option (List ℕ)) → IsNewest s es n v → IsNewest s es n w → v ≡ w
  one_newest n v w a b =
      let same : a.entry ≡ b.entry = same_newest a.entry b.entry a.among b.among (b.newest a.entry v a.among a.leaves)
      (a.newest b.entry w b.among b.leaves) in
      let writes = All-contains (λ (e : EntryView). are_writes s e.writes ≡ true) es b.entry lawful b.among in
      one_value s b.entry n v w writes (subst (λ (e : EntryView). LeavesInRecord s e n v) same a.leaves) b.leaves

  one_left : (n : ℕ) (first v w : Option (List ℕ)) → AreLeft s es n first v → AreLeft s es n first w → v ≡ w
  one_left n first v w (inl a) (inl b) = one_newest n v w a b
  one_left n first v w (inl a) (inr b) = absurd (b.0 a.entry v a.among a.leaves)
  one_left n first v w (inr a) (inl b) = absurd (a.0 b.entry w b.among b.leaves)
  one_left n first v w (inr a) (inr b) = a.1 ∙ sym b.1

-- a table of some values is one of any that are the same at its keys
told : {K X : Type 0} {R : K → K → Ordering} {IsKey : K → Type 0} {IsIn : K → X → Type 0} {words : X → List ℕ}
    {value : K → Option (List ℕ)} {m : FinMap R X} (more : K → Option (List ℕ)) → ((k : K) → IsKey k → value k ≡ more k)
    → IsTableOf IsKey IsIn words value m → IsTableOf IsKey IsIn words more m
told more same a = record { within = a.within; each = a.each; rows = λ k is. a.rows k is ∙ same k is }

-- and tables whose records hold the same are told by the values of either
told_by : (t0 t : Database) (values : ℕ → Option (List ℕ)) → AreTables t0 (by_key t0.scale (rows t)) t
    → ((n : ℕ) → IsTableRecord t0.scale n → rows t n ≡ values n) → AreTables t0 (by_key t0.scale values) t
told_by t0 t values a same = record {
  scale = a.scale;
  keeps = a.keeps;
  items = a.items;
  warehouses = told (λ k. by_key t0.scale values (key.Warehouse k)) (λ k is. here (key.Warehouse k) is tt) a.warehouses;
  districts = told (λ k. by_key t0.scale values (key.District k)) (λ k is. here (key.District k) is tt) a.districts;
  customers = told (λ k. by_key t0.scale values (key.Customer k)) (λ k is. here (key.Customer k) is tt) a.customers;
  texts = told (λ k. by_key t0.scale values (key.CustomerData k)) (λ k is. here (key.CustomerData k) is tt) a.texts;
  new_orders = told (λ k. by_key t0.scale values (key.NewOrder k)) (λ k is. here (key.NewOrder k) is tt) a.new_orders;
  orders = told (λ k. by_key t0.scale values (key.Order k)) (λ k is. here (key.Order k) is tt) a.orders;
  lines = told (λ k. by_key t0.scale values (key.OrderLine k)) (λ k is. here (key.OrderLine k) is tt) a.lines;
  stock = told (λ k. by_key t0.scale values (key.Stock k)) (λ k is. here (key.Stock k) is tt) a.stock;
}
  where
    here : (k : RecordKey) → IsRecordKey t0.scale k → IsTableKey k → by_key t0.scale (rows t) k ≡ by_key t0.scale values k
    here k is row = same (number_of_key t0.scale k) (table_record t0.scale k is row)

module _ (one : (t0 t u : Database) (values : RecordKey → Option (List ℕ)) → AreTables t0 values t
    → AreTables t0 values u → t.history ≡ u.history → t ≡ u) (t0 : Database) (seed : ℕ) (strings : List (List ℕ)) where
  abbrev s : Sizes
  s = t0.scale

  -- tables that are rebuilt of the same entries are the same
  same_tables : (es : List EntryView) (t u : Database) → HaveLawfulWrites s es → IsRebuilt t0 es t → IsRebuilt t0 es u
      → t ≡ u
  same_tables es t u lawful a b = one t0 t u (by_key s (rows u)) (told_by t0 t (rows u) a.tables same_rows) b.tables
      (a.history ∙ ap (λ (l : List EntryView). t0.history ++ flat_map added_by l) same ∙ sym b.history)
    where
      same : a.commits ≡ b.commits
      same = same_commits s es lawful a.commits a.in_order b.commits b.in_order

      same_rows : (n : ℕ) → IsTableRecord s n → rows t n ≡ rows u n
      same_rows n h =
          one_left s es lawful a.commits a.in_order n (rows t0 n) (rows t n) (rows u n) (a.records n h) (b.records n h)

  same_recovery : (r q : Recovered) → IsRecovery t0 seed strings r → IsRecovery t0 seed strings q → AreOneRecovery r q
  same_recovery r q a b = record {
    tables = same_tables (found b.files) (database r.tables) (database q.tables) lawful
        (subst (λ (l : List (List BodyView)). IsRebuilt t0 (found l) (database r.tables)) files a.of_files.rebuilt) b.of_files.rebuilt;
    commits = a.of_files.commits ∙ ap (λ (l : List (List BodyView)). length (found l)) files ∙ sym b.of_files.commits;
    durable = a.of_files.durable ∙ ap durable_of files ∙ sym b.of_files.durable;
  }
    where
      files : a.files ≡ b.files
      files = same_files t0 seed strings b.files b.read a.files a.short a.read

      lawful : HaveLawfulWrites s (found b.files)
      lawful = counted_lawful s (keeps b.files) b.files (files_lawful s seed strings b.files b.read)

  -- a refusal that is sure is one of two
  abbrev IsRefused : Refusal → Type 0
  IsRefused e = ((e ≡ refusal.Gap) × HasGap s seed strings) ⊎ ((e ≡ refusal.Damaged) × AreDamaged s seed strings)

  refused : (e : Refusal) → IsAnswer t0 seed strings (Err e) → IsSureOf (Err e) → IsRefused e
  refused refusal.Gap h sure = inl (refl, h)
  refused refusal.Damaged h sure = inr (refl, h)
  refused refusal.OutOfMemory h sure = absurd (sure.1 refl)
  refused refusal.Device h sure = absurd (sure.0 refl)
  refused _ h sure = absurd h

  -- tables that are rebuilt have their commits in order, and are of the files
  not_refused : (r : Recovered) (e : Refusal) → IsRecovery t0 seed strings r → IsRefused e → ⊥
  not_refused r e a (inl x) =
      let same : a.files ≡ x.1.files = same_files t0 seed strings x.1.files x.1.read a.files a.short a.read in
      let none : HaveNoGap (found a.files) = (a.of_files.rebuilt.commits, a.of_files.rebuilt.in_order) in
      x.1.gap (subst (λ (l : List (List BodyView)). HaveNoGap (found l)) same none)
  not_refused r e a (inr x) = x.1 a.version a.files a.read

  same_refusal : (d e : Refusal) → IsRefused d → IsRefused e → d ≡ e
  same_refusal d e (inl a) (inl b) = a.0 ∙ sym b.0
  same_refusal d e (inl a) (inr b) = absurd (b.1 a.1.version a.1.files a.1.read)
  same_refusal d e (inr a) (inl b) = absurd (a.1 b.1.version b.1.files b.1.read)
  same_refusal d e (inr a) (inr b) = a.0 ∙ sym b.0

  pub one_answer : (a b : Result Recovered Refusal) → IsAnswer t0 seed strings a → IsAnswer t0 seed strings b
      → IsSureOf a → IsSureOf b → IsSame a b
  one_answer (Ok r) (Ok q) x y _ _ = same_recovery r q x y
  one_answer (Ok r) (Err e) x y _ sure = absurd (not_refused r e x (refused e y sure))
  one_answer (Err e) (Ok r) x y sure _ = absurd (not_refused r e y (refused e x sure))
  one_answer (Err d) (Err e) x y first second = same_refusal d e (refused d x first) (refused e y second)
