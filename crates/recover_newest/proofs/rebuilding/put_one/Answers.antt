use Rattle.std.proofs.Common.{◌≡◌, ◌-◌, ◌+◌, ◌<◌, ◌≤◌, List, ℕ, Option, Some, None, sym, ap, ◌∙◌, subst, arith, length}
use Rattle.tables.specs.Sizes.{Sizes}
use Rattle.tables.specs.Database.{database}
use Rattle.tables.specs.Records.{narrow_count, record_count, size, customer_at, key_of, IsRecordKey}
use Rattle.tables.specs.declared.keys.CustomerKey.{CustomerKey}
use Rattle.tables.specs.declared.records.RecordKey.{RecordKey}
use Rattle.tables.specs.declared.records.RecordKey.TheVariants as key
use Rattle.tables.specs.declared.records.Table.TheVariants as table
use Rattle.tables.proofs.Numbers.{wide_named}
use Rattle.customer_data.specs.Words.{data_words}
use Rattle.customer_data.specs.declared.words.TheConstants.{MAX_DATA}
use Rattle.encoding.specs.Puts.{Puts}
use Rattle.log_text.specs.Writes.{words_of_value}
use Rattle.log_text.specs.declared.write.Value.{Value}
use Rattle.log_text.specs.declared.write.Value.TheVariants as value
use Rattle.recover_newest.specs.Putting.{MayPut}
use Rattle.recover_newest.proofs.rebuilding.put_one.Goals as goal

-- a text is put into a record of C_DATA alone
of_text : (s : Sizes) (n : ℕ) (v : Value) (text : List ℕ) → MayPut s n v → v ≡ value.Text text → (k : CustomerKey) × (key_of s n ≡ key.CustomerData k)
of_text s n v text may is =
    let wide : narrow_count s ≤ n = (may.text text is).0 in
    let below : n < record_count s = may.number in
    let p : ℕ = n - narrow_count s in
    let at : narrow_count s + p ≡ n = omega (arith, wide) in
    let small : p < size s table.CustomerData = omega (arith, wide, below) in
    (customer_at s p, ap (key_of s) (sym at) ∙ wide_named s p small)

pub words_of-requires : goal.words_of-requires
words_of-requires c =
    subst (λ (text : List ℕ). length text ≤ MAX_DATA) (sym c.as_bytes.ensures.bytes) (c.requires.value.text c.in-Text.text c.in-Text.is).1.at_most

pub returns-in_ok-put_text-in-Text : goal.returns-in_ok-put_text-in-Text
returns-in_ok-put_text-in-Text c =
    let t0 = database c.args.population.now in
    let old = database c.args.tables.now in
    let new = database c.put_text.new.tables in
    let words : Some c.words_of.result ≡ words_of_value c.args.value.now =
    ap Some (c.words_of.ensures ∙ ap data_words c.as_bytes.ensures.bytes) ∙ ap words_of_value (sym c.in-Text.is) in
    let same : key.CustomerData c.in-CustomerData.customer ≡ key_of t0.scale c.args.number = sym c.in-CustomerData.is ∙ c.key_of-key.ensures.value in
    let is = subst (IsRecordKey t0.scale) c.in-CustomerData.is c.key_of-key.ensures.key in
    subst (λ (k : RecordKey). Puts t0 k (words_of_value c.args.value.now) old new) same
    (subst (λ (held : Option (List ℕ)). Puts t0 (key.CustomerData c.in-CustomerData.customer) held old new) words
    (c.in_ok-put_text-in-Text.ensures t0 is))

pub returns-in_default : goal.returns-in_default
returns-in_default c =
    let t0 = database c.args.population.now in
    let at = of_text t0.scale c.args.number c.args.value.now c.in-Text.text c.requires.value c.in-Text.is in
    absurd (c.in_default.not-CustomerData at.0 (c.key_of-key.ensures.value ∙ at.1))

pub returns-in-NewOrder : goal.returns-in-NewOrder
returns-in-NewOrder c =
    let t0 = database c.args.population.now in
    let old = database c.args.tables.now in
    let new = database c.take_out.new.tables in
    let same : key.NewOrder c.in-NewOrder.order ≡ key_of t0.scale c.args.number = sym c.in-NewOrder.is ∙ c.key_of-key.ensures.value in
    subst (λ (v : Value). Puts t0 (key_of t0.scale c.args.number) (words_of_value v) old new) (sym c.in-Absent.is)
    (subst (λ (k : RecordKey). Puts t0 k None old new) same (c.take_out.ensures t0))
