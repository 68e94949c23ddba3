-- A step that changes these records, by key, is those changes put in, at every record number.
use Rattle.std.proofs.Common.{◌≡◌, ℕ, ◌<◌, Bool, true, false, cond, List, [], ◌∷◌, Option, Some, None, refl, sym, ap, ◌∙◌}
use Rattle.std.proofs.lemmas.Option.{same_Some}
use Rattle.std.specs.Option.{unwrap_or}
use Rattle.std.specs.Ordering.{nat_cmp, is_eq}
use Rattle.tables.specs.Database.{Database}
use Rattle.tables.specs.Records.{number_of_key, key_of, record_count, IsRecordKey}
use Rattle.tables.specs.Rows.{rows, row_at}
use Rattle.tables.proofs.Numbers.{named, numbered}
use Rattle.tables.specs.declared.keys.OrderKey.{OrderKey}
use Rattle.tables.specs.declared.records.RecordKey.{RecordKey}
use Rattle.tables.specs.declared.records.RecordKey.TheVariants as key
use Rattle.readset.specs.Writes.{WriteSetView, no_writes, puts, value_for, rows_with}
use Rattle.readset.specs.Changes.{Holds, Changes, Says, Apart, AreKeys, TakeOnlyNewOrders, puts_all}
use Rattle.readset.proofs.Numbers.{same_number, other_number}
use Rattle.readset.proofs.Lookups.{lookup-insert_entry, lookup-swapped}

-- a default under a test
or_cond : {X : Type 0} (b : Bool) (x : X) (o : Option X) (d : X) → unwrap_or (cond b (Some x) o) d ≡ cond b x (unwrap_or o d)
or_cond true x o d = refl
or_cond false x o d = refl

-- a record that is put in holds the value put, and the others what they held
pub rows_with-puts : (writes : WriteSetView) (n : ℕ) (value : Option (List ℕ)) (row : ℕ → Option (List ℕ)) (m : ℕ)
    → rows_with (puts writes n value) row m ≡ cond (is_eq (nat_cmp m n)) value (rows_with writes row m)
rows_with-puts writes n value row m =
    ap (λ (o : Option (Option (List ℕ))). unwrap_or o (row m)) (lookup-insert_entry m n value writes.values)
    ∙ or_cond (is_eq (nat_cmp m n)) value (value_for writes m) (row m)

-- a change to words takes no row out
pub not_taken : (k : RecordKey) (words : List ℕ) → Some words ≡ None → (j : OrderKey) × (k ≡ key.NewOrder j)
not_taken k words e = absurd cc

module _ (t : Database) where
  -- the rows by key, with one of them changed
  abbrev with_row : RecordKey → Option (List ℕ) → (RecordKey → Option (List ℕ)) → RecordKey → Option (List ℕ)
  with_row k value row j = cond (is_eq (nat_cmp (number_of_key t.scale j) (number_of_key t.scale k))) value (row j)

  -- what is put takes out a row of NEW-ORDER at most
  absent_put : (k : RecordKey) (value : Option (List ℕ)) (writes : WriteSetView) (row : RecordKey → Option (List ℕ)) → Holds t writes row
      → IsRecordKey t.scale k → (value ≡ None → (j : OrderKey) × (k ≡ key.NewOrder j))
      → (n : ℕ) → n < record_count t.scale → value_for (puts writes (number_of_key t.scale k) value) n ≡ Some None
      → (j : OrderKey) × (key_of t.scale n ≡ key.NewOrder j)
  absent_put k value writes row h is_key only n small out =
      let m = number_of_key t.scale k in
      let same = is_eq (nat_cmp n m) in
      elim same as (λ b. same ≡ b → cond b (Some value) (value_for writes n) ≡ Some None → (j : OrderKey) × (key_of t.scale n ≡ key.NewOrder j)) [
        | true ↦ λ q none.
            let taken = only (same_Some value None none) in
            (taken.0, ap (key_of t.scale) (same_number n m q) ∙ (named t.scale k is_key).1 ∙ taken.1)
        | false ↦ λ q none. h.absent n small none
      ] refl (sym (lookup-insert_entry n m value writes.values) ∙ out)

  holds_put : (k : RecordKey) (value : Option (List ℕ)) (writes : WriteSetView) (row : RecordKey → Option (List ℕ)) → Holds t writes row
      → IsRecordKey t.scale k → (value ≡ None → (j : OrderKey) × (k ≡ key.NewOrder j))
      → Holds t (puts writes (number_of_key t.scale k) value) (with_row k value row)
  holds_put k value writes row h is_key only = record {
    put_in = λ n small. let m = number_of_key t.scale k in
        (λ i. cond (is_eq (nat_cmp ((numbered t.scale n small).1 i) m)) value (h.put_in n small i))
        ∙ sym (rows_with-puts writes m value (rows t) n);
    absent = absent_put k value writes row h is_key only;
  }

  -- two keys of one number are one
  one_key : (j k : RecordKey) → IsRecordKey t.scale j → IsRecordKey t.scale k → number_of_key t.scale j ≡ number_of_key t.scale k → j ≡ k
  one_key j k a b same = sym (named t.scale j a).1 ∙ ap (key_of t.scale) same ∙ (named t.scale k b).1

  pub holds-changes : (changes : Changes) (writes : WriteSetView) (old new : RecordKey → Option (List ℕ)) → Holds t writes old
      → AreKeys t.scale changes → TakeOnlyNewOrders changes → Says new changes → ((j : RecordKey) → IsRecordKey t.scale j → Apart j changes → new j ≡ old j)
      → Holds t (puts_all t.scale writes changes) new
  holds-changes [] writes old new h keys only says others = record {
    put_in = λ n small. others (key_of t.scale n) (numbered t.scale n small).0 tt ∙ h.put_in n small;
    absent = h.absent;
  }
  holds-changes (c ∷ cs) writes old new h keys only says others =
      holds-changes cs (puts writes (number_of_key t.scale c.0) c.1) (with_row c.0 c.1 old) new (holds_put c.0 c.1 writes old h keys.0 only.0) keys.1
      only.1 says.1
      (λ j is_key apart. let same = is_eq (nat_cmp (number_of_key t.scale j) (number_of_key t.scale c.0)) in
      elim same as (λ b. same ≡ b → new j ≡ cond b c.1 (old j)) [
        | true ↦ λ q. ap new (one_key j c.0 is_key keys.0 (same_number (number_of_key t.scale j) (number_of_key t.scale c.0) q)) ∙ says.0
        | false ↦ λ q. others j is_key ((λ e. other_number (number_of_key t.scale j) (number_of_key t.scale c.0) q (ap (number_of_key t.scale) e)), apart)
      ] refl)

  -- writes that say the same of each record
  holds_alike : (some others : WriteSetView) (row : RecordKey → Option (List ℕ)) → ((n : ℕ) → value_for some n ≡ value_for others n)
      → Holds t some row → Holds t others row
  holds_alike some others row same h = record {
    put_in = λ n small. h.put_in n small ∙ ap (λ (o : Option (Option (List ℕ))). unwrap_or o (rows t n)) (same n);
    absent = λ n small out. h.absent n small (same n ∙ out);
  }

  alike_all : (changes : Changes) (some others : WriteSetView) → ((n : ℕ) → value_for some n ≡ value_for others n)
      → (n : ℕ) → value_for (puts_all t.scale some changes) n ≡ value_for (puts_all t.scale others changes) n
  alike_all [] some others same = same
  alike_all (c ∷ cs) some others same =
      let m = number_of_key t.scale c.0 in
      alike_all cs (puts some m c.1) (puts others m c.1)
      (λ n. lookup-insert_entry n m c.1 some.values ∙ ap (cond (is_eq (nat_cmp n m)) (Some c.1)) (same n) ∙ sym (lookup-insert_entry n m c.1 others.values))

  later_alike : (k : RecordKey) (value : Option (List ℕ)) (changes : Changes) (writes : WriteSetView) → IsRecordKey t.scale k → AreKeys t.scale changes
      → Apart k changes → (n : ℕ) → value_for (puts_all t.scale (puts writes (number_of_key t.scale k) value) changes) n
      ≡ value_for (puts (puts_all t.scale writes changes) (number_of_key t.scale k) value) n
  later_alike k value [] writes at_k keys apart n = refl
  later_alike k value (c ∷ cs) writes at_k keys apart n =
      let m = number_of_key t.scale k in
      let o = number_of_key t.scale c.0 in
      alike_all cs (puts (puts writes m value) o c.1) (puts (puts writes o c.1) m value)
      (λ i. lookup-swapped i m o value c.1 writes.values (λ e. apart.0 (one_key k c.0 at_k keys.0 e))) n
      ∙ later_alike k value cs (puts writes o c.1) at_k keys.1 apart.1 n

  -- a record that is put in before others may be put in behind them
  pub holds_later : (k : RecordKey) (value : Option (List ℕ)) (changes : Changes) (writes : WriteSetView) (row : RecordKey → Option (List ℕ))
      → IsRecordKey t.scale k → AreKeys t.scale changes → Apart k changes
      → Holds t (puts_all t.scale (puts writes (number_of_key t.scale k) value) changes) row
      → Holds t (puts (puts_all t.scale writes changes) (number_of_key t.scale k) value) row
  holds_later k value changes writes row at_k keys apart =
      holds_alike (puts_all t.scale (puts writes (number_of_key t.scale k) value) changes)
      (puts (puts_all t.scale writes changes) (number_of_key t.scale k) value) row (later_alike k value changes writes at_k keys apart)

  -- before the first change, the rows are those of the tables
  pub holds_first : Holds t no_writes (row_at t)
  holds_first = record { put_in = λ n small. refl; absent = λ n small out. absurd cc }
