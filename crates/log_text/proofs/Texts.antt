-- What is read as a write or an entry has just those bytes as its text.
use Rattle.std.proofs.Common.{◌≡◌, ℕ, zero, suc, ◌+◌, ◌-◌, ◌^◌, ◌<◌, ◌≤◌, Bool, true, false, Option, Some, None, List, [], ◌∷◌, ◌++◌, length, take}
use Rattle.std.proofs.Common.{refl, sym, ap, ◌∙◌, subst, arith, replicate, length-append, length-take-le, append_assoc, drop, true≢false}
use Rattle.std.proofs.lemmas.List.{append-nil, take-append-drop}
use Rattle.std.proofs.lemmas.Bool.{eqb-true, leb-true, le-leb, le-ltb, ltb-false}
use Rattle.std.proofs.Math.Seq.{take-append_seam, drop-append_seam}
use Rattle.std.specs.Prelude.{flat_map, find, ◌==◌, nat_le, nat_lt, cond, if◌then◌else◌}
use Rattle.std.specs.List.{AllByRecursion}
use Rattle.std.specs.Option.{option_and_then}
use Rattle.money.specs.declared.payload.TheConstants.{PAYLOAD_WORDS}
use Rattle.tables.specs.Records.{table_number, table_numbered, tables}
use Rattle.tables.specs.Rows.{payload_of}
use Rattle.tables.specs.declared.records.Table.{Table}
use Rattle.tables.specs.declared.records.Table.TheVariants as table
use Rattle.log_codec.specs.Numbers.{IsBytes, Reader, number, number_at}
use Rattle.log_codec.specs.Read.{chosen}
use Rattle.log_codec.specs.Codec.{IsCodec}
use Rattle.log_codec.proofs.NumberTexts.{codec-number, length-number, bytes_behind}
use Rattle.log_codec.proofs.Codecs.{and_then_some, codec-both, codec-chosen, codec-many, codec-same}
use Rattle.log_text.specs.Columns.{has_text, width}
use Rattle.log_text.specs.Writes.{text_text, value_text, write_text}
use Rattle.log_text.specs.Entries.{EntryView, entry_text}
use Rattle.log_text.specs.Read.{table_from, text_from, words_from, kind_numbered, present_from, value_if, value_from, write_from}
use Rattle.log_text.specs.Read.{count_numbered, entry_from}
use Rattle.tables.specs.declared.limits.TheConstants.{MAX_WRITES}
use Rattle.log_text.specs.declared.write.Write.{Write}
use Rattle.log_text.specs.declared.write.Value.{Value}
use Rattle.log_text.specs.declared.write.Value.TheVariants.{Absent, Columns, Text}

pub pair_is : {A B : Type 0} (x y : A × B) → Some x ≡ Some y → x ≡ y
pair_is x y e = cc

pub some_is : {A : Type 0} (a b : A) → Some a ≡ Some b → a ≡ b
some_is a b e = cc

-- the table that has a number
found_passes : (p : Table → Bool) (ts : List Table) (t : Table) → find p ts ≡ Some t → p t ≡ true
found_passes p [] t e = absurd cc
found_passes p (u ∷ us) t e =
    elim (p u) as (λ b. p u ≡ b → cond b (Some u) (find p us) ≡ Some t → p t ≡ true) [
      | true ↦ λ q h. subst (λ v. p v ≡ true) (some_is u t h) q
      | false ↦ λ q h. found_passes p us t h
    ] refl e

numbered_again : (t : Table) → table_numbered (table_number t) ≡ Some t
numbered_again table.Warehouse = refl
numbered_again table.District = refl
numbered_again table.Customer = refl
numbered_again table.History = refl
numbered_again table.NewOrder = refl
numbered_again table.Order = refl
numbered_again table.OrderLine = refl
numbered_again table.Item = refl
numbered_again table.Stock = refl
numbered_again table.Oldest = refl
numbered_again table.Last = refl
numbered_again table.CustomerData = refl

small_number : (t : Table) → table_number t < 256 ^ 1
small_number table.Warehouse = omega arith
small_number table.District = omega arith
small_number table.Customer = omega arith
small_number table.History = omega arith
small_number table.NewOrder = omega arith
small_number table.Order = omega arith
small_number table.OrderLine = omega arith
small_number table.Item = omega arith
small_number table.Stock = omega arith
small_number table.Oldest = omega arith
small_number table.Last = omega arith
small_number table.CustomerData = omega arith

numbered : (n : ℕ) (t : Table) → table_numbered n ≡ Some t → table_number t ≡ n
numbered n t e = eqb-true (table_number t) n (found_passes (λ u. table_number u == n) tables t e)

codec-table : IsCodec (λ t. number 1 (table_number t)) table_from (λ t. Unit {0})
unfolding table_from
codec-table = codec-chosen table_numbered table_number (λ t. Unit {0}) (λ n t fits e. (numbered n t e, tt)) (λ t fits. (small_number t, numbered_again t))
    (codec-number 1)

-- columns and the zeros past them
pub record FitsWords (n : ℕ) (words : List ℕ) : Type 0 where
  pub long : length (take n words) ≡ n
  pub small : AllByRecursion (λ w. w < 256 ^ 8) (take n words)
  pub padded : payload_of (take n words) ≡ words

codec-words : (n : ℕ) → IsCodec (λ words. flat_map (number 8) (take n words)) (words_from n) (FitsWords n)
unfolding words_from
codec-words n =
    codec-chosen (λ words. Some (payload_of words)) (take n) (FitsWords n) there (λ words fits. ((fits.long, fits.small), ap Some fits.padded))
    (codec-many n (codec-number 8))
  where
    there : (a b : List ℕ) → (length a ≡ n) × AllByRecursion (λ w. w < 256 ^ 8) a → Some (payload_of a) ≡ Some b → (take n b ≡ a) × FitsWords n b
    there a b fits e =
        let cut : take n (payload_of a) ≡ a = ap (λ (k : ℕ). take k (payload_of a)) (sym fits.0)
        ∙ take-append_seam a (replicate (PAYLOAD_WORDS - length a) 0) in
        subst (λ (words : List ℕ). (take n words ≡ a) × FitsWords n words) (some_is (payload_of a) b e) (
          cut,
          record {
            long = ap length cut ∙ fits.0;
            small = subst (AllByRecursion (λ w. w < 256 ^ 8)) (sym cut) fits.1;
            padded = ap payload_of cut;
          },
        )

-- the kind, and then the columns of what is present
abbrev kind_of : Bool → ℕ
kind_of true = 1
kind_of false = 0

kind_again : (b : Bool) → kind_numbered (kind_of b) ≡ Some b
kind_again true = refl
kind_again false = refl

kind_there : (n : ℕ) (b : Bool) → kind_numbered n ≡ Some b → kind_of b ≡ n
kind_there n b e =
    elim (n == 1) as (λ q. (n == 1) ≡ q → (if q then Some true else if n == 0 then Some false else None) ≡ Some b → kind_of b ≡ n) [
      | true ↦ λ q h. ap kind_of (sym (some_is true b h)) ∙ sym (eqb-true n 1 q)
      | false ↦ λ q h. elim (n == 0) as (λ r. (n == 0) ≡ r → (if r then Some false else None) ≡ Some b → kind_of b ≡ n) [
        | true ↦ λ r g. ap kind_of (sym (some_is false b g)) ∙ sym (eqb-true n 0 r)
        | false ↦ λ r g. absurd cc
      ] refl h
    ] refl e

kind_small : (b : Bool) → kind_of b < 256 ^ 1
kind_small true = omega arith
kind_small false = omega arith

codec-kind : IsCodec (λ b. number 1 (kind_of b)) (chosen kind_numbered (number_at 1)) (λ b. Unit {0})
codec-kind = codec-chosen kind_numbered kind_of (λ b. Unit {0}) (λ n b small e. (kind_there n b e, tt)) (λ b fits. (kind_small b, kind_again b))
    (codec-number 1)

-- a text, whose length fits two bytes
abbrev cut_if : Bool → ℕ → List ℕ → Option (List ℕ × List ℕ)
cut_if short n bytes = if short then None else Some (take n bytes, drop n bytes)

abbrev cut : ℕ × List ℕ → Option (List ℕ × List ℕ)
cut n = cut_if (nat_lt (length n.1) n.0) n.0 n.1

text_there : (n : ℕ) (bytes : List ℕ) (x : List ℕ × List ℕ) → cut (n, bytes) ≡ Some x → (bytes ≡ x.0 ++ x.1) × (length x.0 ≡ n)
text_there n bytes x e =
    elim (nat_lt (length bytes) n) as (λ b. nat_lt (length bytes) n ≡ b → cut_if b n bytes ≡ Some x → (bytes ≡ x.0 ++ x.1) × (length x.0 ≡ n)) [
      | true ↦ λ q h. absurd cc
      | false ↦ λ q h.
          let same : ◌≡◌ {A = List ℕ × List ℕ} (take n bytes, drop n bytes) x = pair_is (take n bytes, drop n bytes) x h in
          subst (λ (y : List ℕ × List ℕ). (bytes ≡ y.0 ++ y.1) × (length y.0 ≡ n)) same (
            sym (take-append-drop n bytes),
            length-take-le n bytes (ltb-false (length bytes) n q),
          )
    ] refl e

codec-text : IsCodec text_text text_from (λ text. length text < 256 ^ 2)
unfolding text_from
codec-text = record {
  takes = λ bytes x is e.
      let p = and_then_some cut (number_at 2 bytes) x e in
      let t = (codec-number 2).takes bytes p.0 is p.1 in
      let u = text_there p.0.0 p.0.1 x p.2 in (
        t.0 ∙ ap (λ (rest : List ℕ). number 2 p.0.0 ++ rest) u.0 ∙ sym (append_assoc (number 2 p.0.0) x.0 x.1)
            ∙ ap (λ (n : ℕ). (number 2 n ++ x.0) ++ x.1) (sym u.1),
        subst (λ (n : ℕ). n < 256 ^ 2) (sym u.1) t.1,
      );
  again = λ text rest fits.
      ap (option_and_then cut)
      (ap (number_at 2) (append_assoc (number 2 (length text)) text rest) ∙ (codec-number 2).again (length text) (text ++ rest) fits)
      ∙ whole text rest;
}
  where
    whole : (text rest : List ℕ) → cut (length text, text ++ rest) ≡ Some (text, rest)
    whole text rest =
        ap (λ (b : Bool). cut_if b (length text) (text ++ rest))
        (le-ltb (length (text ++ rest)) (length text) (omega (arith, length-append text rest)))
        ∙ (λ i. Some (take-append_seam text rest i, drop-append_seam text rest i))

-- a codec whose texts are written otherwise where they fit
codec-alike : {A : Type 0} {text other : A → List ℕ} {read : Reader A} {Fits : A → Type 0} → ((x : A) → Fits x → text x ≡ other x)
    → IsCodec text read Fits → IsCodec other read Fits
codec-alike {A} {text} {other} {read} {Fits} same c = record {
  takes = λ bytes x h e. let t = c.takes bytes x h e in (t.0 ∙ ap (λ (front : List ℕ). front ++ x.1) (same x.0 t.1), t.1);
  again = λ x rest fits. ap (λ (front : List ℕ). read (front ++ rest)) (sym (same x fits)) ∙ c.again x rest fits;
}

-- what a present record holds: a text, or so many columns
abbrev present_text : ℕ → Value → List ℕ
present_text n Absent = []
present_text n (Columns words) = flat_map (number 8) (take n words)
present_text n (Text text) = text_text text

abbrev pub FitsPresent : Bool → ℕ → Value → Type 0
FitsPresent texts n Absent = ⊥
FitsPresent texts n (Columns words) = (texts ≡ false) × FitsWords n words
FitsPresent texts n (Text text) = (texts ≡ true) × (length text < 256 ^ 2)

abbrev columns_of : Value → List ℕ
columns_of Absent = []
columns_of (Columns words) = words
columns_of (Text text) = []

abbrev text_of : Value → List ℕ
text_of Absent = []
text_of (Columns words) = []
text_of (Text text) = text

codec-present : (texts : Bool) (n : ℕ) → IsCodec (present_text n) (present_from texts n) (FitsPresent texts n)
unfolding present_from
codec-present true n =
    codec-alike alike (codec-chosen (λ text. Some (Text text)) text_of (FitsPresent true n) there here codec-text)
  where
    alike : (v : Value) → FitsPresent true n v → text_text (text_of v) ≡ present_text n v
    alike Absent fits = elim fits [ ]
    alike (Columns words) fits = absurd (true≢false fits.0)
    alike (Text text) fits = refl

    there : (a : List ℕ) (v : Value) → length a < 256 ^ 2 → Some (Text a) ≡ Some v → (text_of v ≡ a) × FitsPresent true n v
    there a v fits e = subst (λ (u : Value). (text_of u ≡ a) × FitsPresent true n u) (some_is (Text a) v e) (refl, (refl, fits))

    here : (v : Value) → FitsPresent true n v → (length (text_of v) < 256 ^ 2) × (◌≡◌ {A = Option Value} (Some (Text (text_of v))) (Some v))
    here Absent fits = elim fits [ ]
    here (Columns words) fits = absurd (true≢false fits.0)
    here (Text text) fits = (fits.1, refl)
codec-present false n =
    codec-alike alike (codec-chosen (λ words. Some (Columns words)) columns_of (FitsPresent false n) there here (codec-words n))
  where
    alike : (v : Value) → FitsPresent false n v → flat_map (number 8) (take n (columns_of v)) ≡ present_text n v
    alike Absent fits = elim fits [ ]
    alike (Columns words) fits = refl
    alike (Text text) fits = absurd (true≢false (sym fits.0))

    there : (a : List ℕ) (v : Value) → FitsWords n a → Some (Columns a) ≡ Some v → (columns_of v ≡ a) × FitsPresent false n v
    there a v fits e = subst (λ (u : Value). (columns_of u ≡ a) × FitsPresent false n u) (some_is (Columns a) v e) (refl, (refl, fits))

    here : (v : Value) → FitsPresent false n v → FitsWords n (columns_of v) × (◌≡◌ {A = Option Value} (Some (Columns (columns_of v))) (Some v))
    here Absent fits = elim fits [ ]
    here (Columns words) fits = (fits.1, refl)
    here (Text text) fits = absurd (true≢false (sym fits.0))

-- what is present, and nothing of what is absent
abbrev if_text : ℕ → Bool → Value → List ℕ
if_text n true v = present_text n v
if_text n false v = []

abbrev FitsIf : Table → Bool → Value → Type 0
FitsIf t true v = FitsPresent (has_text t) (width t) v
FitsIf t false Absent = Unit {0}
FitsIf t false (Columns words) = ⊥
FitsIf t false (Text text) = ⊥

codec-if : (t : Table) (b : Bool) → IsCodec (if_text (width t) b) (value_if t b) (FitsIf t b)
codec-if t true = codec-present (has_text t) (width t)
codec-if t false = record { takes = takes; again = again }
  where
    takes : (bytes : List ℕ) (x : Value × List ℕ) → IsBytes bytes → value_if t false bytes ≡ Some x
        → (bytes ≡ if_text (width t) false x.0 ++ x.1) × FitsIf t false x.0
    takes bytes x is e =
        subst (λ (y : Value × List ℕ). (bytes ≡ if_text (width t) false y.0 ++ y.1) × FitsIf t false y.0) (pair_is (Absent, bytes) x e) (refl, tt)

    again : (v : Value) (rest : List ℕ) → FitsIf t false v → value_if t false (if_text (width t) false v ++ rest) ≡ Some (v, rest)
    again Absent rest fits = refl
    again (Columns words) rest fits = elim fits [ ]
    again (Text text) rest fits = elim fits [ ]

abbrev pub FitsValue : Table → Value → Type 0
FitsValue t Absent = Unit {0}
FitsValue t (Columns words) = (has_text t ≡ false) × FitsWords (width t) words
FitsValue t (Text text) = (has_text t ≡ true) × (length text < 256 ^ 2)

abbrev is_present : Value → Bool
is_present Absent = false
is_present (Columns words) = true
is_present (Text text) = true

codec-value : (t : Table) → IsCodec (value_text t) (value_from t) (FitsValue t)
unfolding value_from
codec-value t =
    codec-same written (codec-chosen (λ x. Some x.1) (λ v. (is_present v, v)) (FitsValue t) there here (codec-both codec-kind (codec-if t)))
  where
    written : (v : Value) → number 1 (kind_of (is_present v)) ++ if_text (width t) (is_present v) v ≡ value_text t v
    written Absent = append-nil (number 1 0)
    written (Columns words) = refl
    written (Text text) = refl

    of : (b : Bool) (v : Value) → FitsIf t b v → (is_present v ≡ b) × FitsValue t v
    of true Absent fits = elim fits [ ]
    of true (Columns words) fits = (refl, fits)
    of true (Text text) fits = (refl, fits)
    of false Absent fits = (refl, tt)
    of false (Columns words) fits = elim fits [ ]
    of false (Text text) fits = elim fits [ ]

    there : (a : Bool × Value) (v : Value) → Unit {0} × FitsIf t a.0 a.1 → Some a.1 ≡ Some v
        → (◌≡◌ {A = Bool × Value} (is_present v, v) a) × FitsValue t v
    there a v fits e =
        let same = of a.0 a.1 fits.1 in
        subst (λ (u : Value). (◌≡◌ {A = Bool × Value} (is_present u, u) a) × FitsValue t u) (some_is a.1 v e)
        ((λ i. (same.0 i, a.1)), same.1)

    here : (v : Value) → FitsValue t v → (Unit {0} × FitsIf t (is_present v) v) × (Some v ≡ Some v)
    here Absent fits = ((tt, tt), refl)
    here (Columns words) fits = ((tt, fits), refl)
    here (Text text) fits = ((tt, fits), refl)

-- a write whose parts fit their bytes
pub record FitsWrite (w : Write) : Type 0 where
  pub place : w.place < 256 ^ 4
  pub value : FitsValue w.table w.value

codec-write : IsCodec write_text write_from FitsWrite
unfolding write_from
codec-write =
    codec-chosen (λ x. Some (made x)) (λ w. (w.table, (w.place, w.value))) FitsWrite there (λ w fits. ((tt, (fits.place, fits.value)), refl))
    (codec-both codec-table (λ t. codec-both (codec-number 4) (λ place. codec-value t)))
  where
    made : Table × (ℕ × Value) → Write
    made x = record { table = x.0; place = x.1.0; value = x.1.1 }

    there : (a : Table × (ℕ × Value)) (w : Write) → Unit {0} × ((a.1.0 < 256 ^ 4) × FitsValue a.0 a.1.1) → Some (made a) ≡ Some w
        → (◌≡◌ {A = Table × (ℕ × Value)} (w.table, (w.place, w.value)) a) × FitsWrite w
    there a w fits e = subst (λ (u : Write). (◌≡◌ {A = Table × (ℕ × Value)} (u.table, (u.place, u.value)) a) × FitsWrite u)
        (some_is (made a) w e) (refl, record { place = fits.1.0; value = fits.1.1 })

count_there : (n m : ℕ) → count_numbered n ≡ Some m → (m ≡ n) × (m ≤ MAX_WRITES + 1)
count_there n m e =
    elim (nat_le n (MAX_WRITES + 1)) as (λ q. nat_le n (MAX_WRITES + 1) ≡ q → (if q then Some n else None) ≡ Some m → (m ≡ n) × (m ≤ MAX_WRITES + 1)) [
      | true ↦ λ q h. let same = some_is n m h in (sym same, subst (λ k. k ≤ MAX_WRITES + 1) same (leb-true _ _ q))
      | false ↦ λ q h. absurd cc
    ] refl e

count_again : (n : ℕ) → n ≤ MAX_WRITES + 1 → count_numbered n ≡ Some n
count_again n h = rw (le-leb _ _ h) refl

codec-count : IsCodec (number 2) (chosen count_numbered (number_at 2)) (λ n. n ≤ MAX_WRITES + 1)
codec-count = codec-chosen count_numbered (λ n. n) (λ n. n ≤ MAX_WRITES + 1) (λ n m small e. (count_there n m e))
    (λ n h. (less n h, count_again n h)) (codec-number 2)
  where
    less : (n : ℕ) → n ≤ MAX_WRITES + 1 → n < 256 ^ 2
    less n h = omega (arith, h)

-- an entry whose parts fit their bytes
pub record FitsEntry (e : EntryView) : Type 0 where
  pub number : e.number < 256 ^ 8
  pub tid : e.tid < 256 ^ 8
  pub terminal : e.terminal < 256 ^ 2
  pub count : length e.writes ≤ MAX_WRITES + 1
  pub writes : AllByRecursion FitsWrite e.writes

pub codec-entry : IsCodec entry_text entry_from FitsEntry
unfolding entry_from
codec-entry =
    codec-chosen (λ x. Some (made x)) parts FitsEntry there
    (λ e fits. ((fits.number, (fits.tid, (fits.terminal, (fits.count, (refl, fits.writes))))), refl))
    (codec-both (codec-number 8) (λ number. codec-both (codec-number 8) (λ tid. codec-both (codec-number 2) (λ terminal.
    codec-both codec-count (λ count. codec-many count codec-write)))))
  where
    made : ℕ × (ℕ × (ℕ × (ℕ × List Write))) → EntryView
    made x = record { number = x.0; tid = x.1.0; terminal = x.1.1.0; writes = x.1.1.1.1 }

    parts : EntryView → ℕ × (ℕ × (ℕ × (ℕ × List Write)))
    parts e = (e.number, (e.tid, (e.terminal, (length e.writes, e.writes))))

    there : (a : ℕ × (ℕ × (ℕ × (ℕ × List Write)))) (e : EntryView)
        → (a.0 < 256 ^ 8) × ((a.1.0 < 256 ^ 8) × ((a.1.1.0 < 256 ^ 2) × ((a.1.1.1.0 ≤ MAX_WRITES + 1)
        × ((length a.1.1.1.1 ≡ a.1.1.1.0) × AllByRecursion FitsWrite a.1.1.1.1))))
        → Some (made a) ≡ Some e → (parts e ≡ a) × FitsEntry e
    there a e fits same = subst (λ (u : EntryView). (parts u ≡ a) × FitsEntry u) (some_is (made a) e same) (
      (λ i. (a.0, (a.1.0, (a.1.1.0, (fits.1.1.1.1.0 i, a.1.1.1.1))))),
      record {
        number = fits.0;
        tid = fits.1.0;
        terminal = fits.1.1.0;
        count = subst (λ (n : ℕ). n ≤ MAX_WRITES + 1) (sym fits.1.1.1.1.0) fits.1.1.1.0;
        writes = fits.1.1.1.1.1;
      },
    )

pub has_bytes : (e : EntryView) → 0 < length (entry_text e)
has_bytes e =
    let rest : List ℕ = number 8 e.tid ++ (number 2 e.terminal ++ (number 2 (length e.writes) ++ flat_map write_text e.writes)) in
    omega (arith, length-append (number 8 e.number) rest, length-number 8 e.number)

-- the bytes behind an entry are fewer
pub fewer : (bytes rest : List ℕ) (e : EntryView) → IsBytes bytes → entry_from bytes ≡ Some (e, rest) → IsBytes rest × (length rest < length bytes)
fewer bytes rest e is read =
    let t = codec-entry.takes bytes (e, rest) is read in
    (bytes_behind (entry_text e) rest (subst IsBytes t.0 is), omega (arith, has_bytes e, ap length t.0, length-append (entry_text e) rest))
